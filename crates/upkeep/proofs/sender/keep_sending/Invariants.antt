-- The rounds so far.
use Rattle.std.proofs.Common.{◌≡◌}
use Rattle.tracker_model.specs.declared.call.Call.TheVariants.{Drain}
use Rattle.upkeep.proofs.Sweeping.{SweepsFirst}
use Rattle.upkeep.proofs.sender.keep_sending.Given as goal

abbrev pub invariant-loop : goal.invariant-loop
invariant-loop g l = record {
  swept : SweepsFirst Drain 0 l.fn.pass l.pass;
  shards : l.pass.shards ≡ l.shards;
}
