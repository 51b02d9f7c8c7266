use Rattle.std.proofs.Common.{◌≡◌, ◌+◌, All, false, length}
use Rattle.turn_lock.proofs.tests.new_jobs.Given as goal

abbrev pub invariant-loop-caller : goal.invariant-loop-caller
invariant-loop-caller g l = record {
  of_lock : l.first.lock ≡ l.lock;
  free : l.first.holds ≡ false;
  same : l.first.caller ≡ l.initial.first.caller;
  spare : l.first.free ≡ l.caller;
  out : l.first.out ≡ l.initial.first.out + length l.jobs.items;
  jobs : All (λ job. job.turn.lock ≡ l.lock) l.jobs.items;
}
