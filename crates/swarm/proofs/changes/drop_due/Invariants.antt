-- Those that have gone were due, and each made the ring shorter.
use Rattle.std.proofs.Common.{length}
use Rattle.swarm.specs.Index.{place_in}
use Rattle.swarm.proofs.ExpireLemmas.{IsDropping}
use Rattle.swarm.proofs.changes.drop_due.Given as goal

abbrev pub invariant-loop-i : goal.invariant-loop-i
invariant-loop-i g l = IsDropping l.fn.time l.fn.order l.order (place_in l.fn.index) (place_in l.index) l.flags.items l.seeds l.fn.steps l.steps

abbrev pub decreases-loop-i : goal.decreases-loop-i
decreases-loop-i g l = length l.order.pairs
