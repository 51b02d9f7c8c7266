use Rattle.std.proofs.Common.{◌∙◌, ap}
use Rattle.shards.specs.Shape.{PassShape}
use Rattle.tracker_model.specs.declared.answer.Answer.TheVariants.{Drained}
use Rattle.tracker_model.specs.declared.call.Call.TheVariants.{Drain}
use Rattle.upkeep.proofs.Sweeping.{first_next, first_none}
use Rattle.upkeep.proofs.sender.send_all.Goals as goal

pub loop-bucket-init : goal.loop-bucket-init
loop-bucket-init g c = record { swept = first_none Drain c.args.pass.now; shards = c.requires.pass }

pub loop-bucket-preserved : goal.loop-bucket-preserved
loop-bucket-preserved g c =
    let tells = c.sync_out_turn.ensures.tells in record {
      swept = first_next Drain c.loop-bucket.bucket c.args.pass.now c.loop-bucket.pass c.sync_out_turn.new.pass c.loop-bucket.invariant.swept c.args.minute (Drained tells.notes tells.dropped) tells.drained;
      shards = ap (λ (p : PassShape). p.shards) tells.drained.pass ∙ c.loop-bucket.invariant.shards;
    }
