-- The passes behind those that are left were joined.
use Rattle.std.proofs.Common.{◌≡◌, ◌≢◌, All, vec_len}
use Rattle.shards.specs.Shape.{KnowsNumbers}
use Rattle.drill.proofs.JoinLemmas.{AreJoining}
use Rattle.drill.proofs.phase.join_all.Given as goal

abbrev pub invariant-loop-worker : goal.invariant-loop-worker
invariant-loop-worker l = record {
  of_shards : l.pass.shards ≡ l.shards;
  first : l.pass.caller ≡ 0;
  known : KnowsNumbers l.pass;
  joining : AreJoining l.fn.team.items l.team.items l.fn.pass l.pass;
  passes : All (λ worker. (worker.pass.shards ≡ l.shards) × (worker.pass.caller ≢ 0)) l.team.items;
}

abbrev pub decreases-loop-worker : goal.decreases-loop-worker
decreases-loop-worker l = vec_len l.team
