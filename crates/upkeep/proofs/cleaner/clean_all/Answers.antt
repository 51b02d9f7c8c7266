use Rattle.std.proofs.Common.{◌∙◌, ap}
use Rattle.shards.specs.Shape.{PassShape}
use Rattle.tracker_model.specs.declared.answer.Answer.TheVariants.{Cleaned}
use Rattle.tracker_model.specs.declared.call.Call.TheVariants.{Clean}
use Rattle.upkeep.proofs.Sweeping.{first_next, first_none}
use Rattle.upkeep.proofs.cleaner.clean_all.Goals as goal

pub loop-bucket-init : goal.loop-bucket-init
loop-bucket-init g c = record { swept = first_none Clean c.args.pass.now; shards = c.requires }

pub loop-bucket-preserved : goal.loop-bucket-preserved
loop-bucket-preserved g c =
    let made = c.clean_turn.ensures in record {
      swept = first_next Clean c.loop-bucket.bucket c.args.pass.now c.loop-bucket.pass c.clean_turn.new.pass c.loop-bucket.invariant.swept c.args.minute (Cleaned c.clean_turn.result) made;
      shards = ap (λ (p : PassShape). p.shards) made.pass ∙ c.loop-bucket.invariant.shards;
    }
