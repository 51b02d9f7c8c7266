-- The buckets so far had the call.
use Rattle.std.proofs.Common.{◌≡◌}
use Rattle.tracker_model.specs.declared.call.Call.TheVariants.{Drain}
use Rattle.upkeep.proofs.Sweeping.{SweepsFirst}
use Rattle.upkeep.proofs.sender.send_all.Given as goal

abbrev pub invariant-loop-bucket : goal.invariant-loop-bucket
invariant-loop-bucket g l = record {
  swept : SweepsFirst Drain l.bucket l.fn.pass l.pass;
  shards : l.pass.shards ≡ l.shards;
}
