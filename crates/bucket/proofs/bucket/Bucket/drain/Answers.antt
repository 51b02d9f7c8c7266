-- The notes that were kept are told, and none are left.
use Rattle.std.proofs.Common.{ℕ, List, sym, subst}
use Rattle.ot_base.specs.declared.peer.Note.{Note}
use Rattle.tracker_model.specs.Shape.{Shape}
use Rattle.tracker_model.specs.declared.answer.Answer.TheVariants.{Drained}
use Rattle.tracker_model.specs.declared.call.Call.TheVariants.{Drain}
use Rattle.bucket.proofs.AskLaws.{drain_stands}
use Rattle.bucket.proofs.CallLaws.{bucket_of, later_as}
use Rattle.bucket.proofs.Judging.{StandsOn}
use Rattle.bucket.proofs.bucket.Bucket.drain.Goals as goal

pub returns-clause-stands : goal.returns-clause-stands
returns-clause-stands c caller =
    let i = c.self.inside in
    let now = c.at_least-now.result.0 in
    let later = later_as c.args.minute now i.outbox i.torrents.value c.args.self.now c.self.view_is c.at_least-now.ensures in
    let new = bucket_of c.drain.new.self c.pass.new.torrents in
    let F : Shape → Type 0 = λ s. StandsOn caller c.args.minute Drain (Drained i.outbox.notes i.outbox.dropped) s new in
    let N : List Note → Type 0 = λ l. StandsOn caller c.args.minute Drain (Drained l i.outbox.dropped) c.args.self.now new in
    let D : ℕ → Type 0 = λ n. StandsOn caller c.args.minute Drain (Drained c.drain.result.0 n) c.args.self.now new in
    subst D (sym c.drain.ensures.dropped) (subst N (sym c.drain.ensures.notes)
    (subst F c.self.view_is (drain_stands now i.torrents.value c.pass.new.torrents (rw (← c.deref_mut.ensures.value) c.pass.ensures) caller c.args.minute later i.outbox c.drain.new.self c.drain.ensures.empty)))
