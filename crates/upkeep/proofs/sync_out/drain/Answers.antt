-- The notes of a drain.
use Rattle.std.proofs.Common.{◌≤◌, List, All, length, subst, sym}
use Rattle.ot_base.specs.declared.peer.Note.{Note}
use Rattle.shards.specs.Passing.{MadeByPass}
use Rattle.sync_wire.specs.Notes.{IsTellable}
use Rattle.tracker_model.specs.declared.answer.Answer.{Answer}
use Rattle.tracker_model.specs.declared.call.Call.TheVariants.{Drain}
use Rattle.upkeep.proofs.Draining.{drained_few, drained_tellable}
use Rattle.upkeep.proofs.sync_out.drain.Goals as goal

pub returns-clause-tellable : goal.returns-clause-tellable
returns-clause-tellable g c =
    let Made : Answer → Type 0 = λ answer. MadeByPass c.args.pass.now c.args.bucket c.args.minute Drain answer c.call_in-done.new.pass in
    let Told : List Note → Type 0 = λ notes. All IsTellable notes in
    subst Told (sym c.in-Drained.notes-is)
    (drained_tellable c.args.pass.now c.call_in-done.new.pass c.args.bucket c.args.minute c.in-Drained.notes c.in-Drained.dropped (subst Made c.in-Drained.is c.call_in-done.ensures.made))

pub returns-clause-few : goal.returns-clause-few
returns-clause-few g c =
    let Made : Answer → Type 0 = λ answer. MadeByPass c.args.pass.now c.args.bucket c.args.minute Drain answer c.call_in-done.new.pass in
    let Few : List Note → Type 0 = λ notes. length notes ≤ 4096 in
    subst Few (sym c.in-Drained.notes-is)
    (drained_few c.args.pass.now c.call_in-done.new.pass c.args.bucket c.args.minute c.in-Drained.notes c.in-Drained.dropped (subst Made c.in-Drained.is c.call_in-done.ensures.made))
