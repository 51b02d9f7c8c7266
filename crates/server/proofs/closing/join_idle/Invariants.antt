-- The passes behind those that are left were joined.
use Rattle.std.proofs.Common.{◌≡◌, ◌≢◌, List, ◌++◌, All, vec_len}
use Rattle.shards.specs.Joining.{AreJoined}
use Rattle.shards.specs.Shape.{KnowsNumbers, PassShape}
use Rattle.server.proofs.closing.join_idle.Given as goal

abbrev pub invariant-loop-other : goal.invariant-loop-other
invariant-loop-other l = record {
  of_shards : l.pass.shards ≡ l.shards;
  first : l.pass.caller ≡ 0;
  known : KnowsNumbers l.pass;
  joining : (done : List PassShape) × (l.fn.idle.items ≡ l.idle.items ++ done) × AreJoined done l.fn.pass l.pass;
  idle : All (λ other. (other.shards ≡ l.shards) × (other.caller ≢ 0)) l.idle.items;
}

abbrev pub decreases-loop-other : goal.decreases-loop-other
decreases-loop-other l = vec_len l.idle
