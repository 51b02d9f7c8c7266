-- The last picks, as if the words before theirs had picked nothing; and then the picks so far with
-- those that are still to come.
use Rattle.std.proofs.Common.{◌≡◌, ◌*◌, ◌++◌, reverse, length}
use Rattle.pick.specs.Picks.{picks}
use Rattle.pick.proofs.PickLemmas.{IsLate}
use Rattle.pick.proofs.picked.pick.Given as goal

abbrev pub invariant-loop-pair : goal.invariant-loop-pair
invariant-loop-pair l = IsLate l.words l.n l.k (2 * l.pair) l.later.items

abbrev pub invariant-loop-position : goal.invariant-loop-position
invariant-loop-position l = l.picked ++ reverse l.later.items ≡ picks l.words l.n l.k

abbrev pub decreases-loop-position : goal.decreases-loop-position
decreases-loop-position l = length l.later.items
