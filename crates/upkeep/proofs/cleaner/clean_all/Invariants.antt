-- The buckets so far had the call.
use Rattle.std.proofs.Common.{◌≡◌}
use Rattle.tracker_model.specs.declared.call.Call.TheVariants.{Clean}
use Rattle.upkeep.proofs.Sweeping.{SweepsFirst}
use Rattle.upkeep.proofs.cleaner.clean_all.Given as goal

abbrev pub invariant-loop-bucket : goal.invariant-loop-bucket
invariant-loop-bucket g l = record {
  swept : SweepsFirst Clean l.bucket l.fn.pass l.pass;
  shards : l.pass.shards ≡ l.shards;
}
