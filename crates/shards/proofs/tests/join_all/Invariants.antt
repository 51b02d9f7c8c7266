-- As many passes are out as are left to be joined.
use Rattle.std.proofs.Common.{◌≡◌, ◌≢◌, All, length, vec_len}
use Rattle.shards.proofs.tests.join_all.Given as goal

abbrev pub invariant-loop-other : goal.invariant-loop-other
invariant-loop-other l = record {
  of_shards : l.pass.shards ≡ l.shards;
  first : l.pass.caller ≡ 0;
  out : l.pass.out ≡ length l.others.items;
  passes : All (λ one. (one.shards ≡ l.shards) × (one.caller ≢ 0)) l.others.items;
}

abbrev pub decreases-loop-other : goal.decreases-loop-other
decreases-loop-other l = vec_len l.others
