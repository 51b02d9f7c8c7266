-- One more round.
use Rattle.std.proofs.Common.{◌∙◌, ap}
use Rattle.shards.specs.Shape.{PassShape}
use Rattle.tracker_model.specs.declared.call.Call.TheVariants.{Drain}
use Rattle.upkeep.proofs.Sweeping.{first_none, one_more_round, some_rounds}
use Rattle.upkeep.proofs.sender.keep_sending.Goals as goal

pub loop-init : goal.loop-init
loop-init g c = record { swept = first_none Drain c.args.pass.now; shards = c.requires.pass }

pub returns-then-ends : goal.returns-then-ends
returns-then-ends g c = one_more_round Drain c.args.pass.now c.loop.pass c.send_all.new.pass c.loop.invariant.swept c.send_all.ensures

pub loop-preserved : goal.loop-preserved
loop-preserved g c = record {
  swept = some_rounds Drain c.args.pass.now c.send_all.new.pass (one_more_round Drain c.args.pass.now c.loop.pass c.send_all.new.pass c.loop.invariant.swept c.send_all.ensures);
  shards = ap (λ (p : PassShape). p.shards) c.send_all.ensures.pass ∙ c.loop.invariant.shards;
}
