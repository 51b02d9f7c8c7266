use Rattle.std.proofs.Common.{◌≡◌}
use Rattle.turn_lock.proofs.tests.work.Given as goal

abbrev pub invariant-loop-count : goal.invariant-loop-count
invariant-loop-count g l = l.job.turn.lock ≡ l.lock
