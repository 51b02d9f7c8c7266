-- The bucket stands on by the law of cleanings, which leave what is live and known.
use Rattle.std.proofs.Common.{subst}
use Rattle.tracker_model.specs.Shape.{Shape}
use Rattle.tracker_model.specs.declared.answer.Answer.TheVariants.{Cleaned}
use Rattle.tracker_model.specs.declared.call.Call.TheVariants.{Clean}
use Rattle.bucket.proofs.AskLaws.{clean_stands, cleaned_fresh}
use Rattle.bucket.proofs.CallLaws.{bucket_of, later_as}
use Rattle.bucket.proofs.Judging.{StandsOn}
use Rattle.bucket.proofs.bucket.Bucket.clean.Goals as goal

pub returns-clause-stands : goal.returns-clause-stands
returns-clause-stands c =
    let i = c.self.inside in
    let now = c.at_least-now.result.0 in
    let new = c.clean.new.torrents in
    let later = later_as c.args.minute now i.outbox i.torrents.value c.args.self.now c.self.view_is c.at_least-now.ensures in
    let F : Shape → Type 0 = λ s. StandsOn c.args.caller c.args.minute Clean (Cleaned c.held.result) s (bucket_of i.outbox new) in
    subst F c.self.view_is (clean_stands now i.torrents.value new (rw (← c.deref_mut.ensures.value) c.clean.ensures) i.outbox c.args.caller c.args.minute later c.held.result (rw (← c.deref.ensures) c.held.ensures))

pub returns-clause-fresh : goal.returns-clause-fresh
returns-clause-fresh c =
    let i = c.self.inside in
    cleaned_fresh c.at_least-now.result.0 i.torrents.value c.clean.new.torrents (rw (← c.deref_mut.ensures.value) c.clean.ensures) i.outbox
