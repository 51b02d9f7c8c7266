-- The endpoint stands at no place that was looked at.
use Rattle.std.proofs.Common.{◌≢◌, ◌<◌, ℕ, Some}
use Rattle.std.specs.List.{slice_get}
use Rattle.age_ring.specs.Ring.{items_of}
use Rattle.swarm.proofs.lookup.look_through.Given as goal

abbrev pub invariant-loop-i : goal.invariant-loop-i
invariant-loop-i l = (k : ℕ) → k < l.i → slice_get (items_of l.order.pairs) k ≢ Some l.who
