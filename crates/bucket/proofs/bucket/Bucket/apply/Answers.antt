-- The bucket stands on by the law of syncs.
use Rattle.std.proofs.Common.{subst}
use Rattle.tracker_model.specs.Shape.{Shape}
use Rattle.tracker_model.specs.declared.call.Call.TheVariants.{Sync}
use Rattle.bucket.specs.Answers.{applied}
use Rattle.bucket.proofs.AskLaws.{apply_stands}
use Rattle.bucket.proofs.CallLaws.{bucket_of, later_as}
use Rattle.bucket.proofs.Judging.{StandsOn}
use Rattle.bucket.proofs.bucket.Bucket.apply.Goals as goal

pub returns-clause-stands : goal.returns-clause-stands
returns-clause-stands c caller =
    let i = c.self.inside in
    let now = c.at_least-now.result.0 in
    let hash = c.args.hash.now in
    let who = c.args.who.now in
    let new = c.apply.new.torrents in
    let later = later_as c.args.minute now i.outbox i.torrents.value c.args.self.now c.self.view_is c.at_least-now.ensures in
    let F : Shape → Type 0 = λ s. StandsOn caller c.args.minute (Sync hash who c.args.mark) (applied s.settings.limits c.apply.result) s (bucket_of i.outbox new) in
    subst F c.self.view_is (apply_stands now hash who c.requires i.torrents.value new i.outbox caller c.args.minute later c.args.mark c.apply.result (rw (← c.deref_mut.ensures.value) c.apply.ensures))
