-- The positions before the index are passed over, and the others are as they were.
use Rattle.std.proofs.Common.{◌≡◌, ◌++◌, map, take, drop}
use Rattle.pick.specs.Passing.{past}
use Rattle.pick.proofs.picked.pass_over.Given as goal

abbrev pub invariant-loop-position : goal.invariant-loop-position
invariant-loop-position l = l.positions ≡ map (λ position. past l.first (past l.second position)) (take l.position-index l.fn.positions) ++ drop l.position-index l.fn.positions
