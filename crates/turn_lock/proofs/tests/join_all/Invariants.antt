use Rattle.std.proofs.Common.{◌≡◌, All, false, length, vec_len}
use Rattle.turn_lock.proofs.tests.join_all.Given as goal

abbrev pub invariant-loop-job : goal.invariant-loop-job
invariant-loop-job l = record {
  of_lock : l.first.lock ≡ l.lock;
  free : l.first.holds ≡ false;
  same : l.first.caller ≡ 0;
  out : l.first.out ≡ length l.jobs.items;
  jobs : All (λ job. job.turn.lock ≡ l.lock) l.jobs.items;
}

abbrev pub decreases-loop-job : goal.decreases-loop-job
decreases-loop-job l = vec_len l.jobs
