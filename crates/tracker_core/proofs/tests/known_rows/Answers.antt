use Rattle.std.proofs.Common.{refl}
use Rattle.std.specs.List.Sorted.{IsStrictlySortedBy}
use Rattle.tracker_core.proofs.tests.known_rows.Goals as goal

pub returns : goal.returns
unfolding IsStrictlySortedBy
returns c = rw (c.in_ok-push-2.ensures.ok, c.in_ok-push.ensures.ok, c.new-rows.ensures) ((refl, tt), ((tt, tt)))
