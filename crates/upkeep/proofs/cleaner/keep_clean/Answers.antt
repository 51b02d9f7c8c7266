-- Another round, or none.
use Rattle.std.proofs.Common.{subst, sym}
use Rattle.shards.specs.Shape.{PassShape}
use Rattle.tracker_model.specs.declared.call.Call.TheVariants.{Clean}
use Rattle.upkeep.specs.Sweeps.{Sweeps}
use Rattle.upkeep.proofs.Sweeping.{sweeps_again}
use Rattle.upkeep.proofs.cleaner.keep_clean.Goals.{then-ends, else-ends+else-lt}
use Rattle.upkeep.proofs.cleaner.keep_clean.Goals as goal

pub returns-then-ends-2 : goal.returns-then-ends-2
returns-then-ends-2 g c =
    let P : PassShape → Type 0 = λ pass. Sweeps Clean c.args.pass.now pass in
    elim c.if-ends.branch [
      | then-ends w ↦ subst P (sym w.pass-is) (sweeps_again Clean c.args.pass.now c.loop.pass w.clean_all-then-ends.new.pass c.loop.invariant w.clean_all-then-ends.ensures)
      | else-ends+else-lt w ↦ subst P (sym w.pass-is) c.loop.invariant
    ]

pub loop-preserved : goal.loop-preserved
loop-preserved g c =
    let P : PassShape → Type 0 = λ pass. Sweeps Clean c.args.pass.now pass in
    elim c.if-ends.branch [
      | then-ends w ↦ subst P (sym w.pass-is) (sweeps_again Clean c.args.pass.now c.loop.pass w.clean_all-then-ends.new.pass c.loop.invariant w.clean_all-then-ends.ensures)
      | else-ends+else-lt w ↦ subst P (sym w.pass-is) c.loop.invariant
    ]
