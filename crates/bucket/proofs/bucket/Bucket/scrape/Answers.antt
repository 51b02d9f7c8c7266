-- The bucket stands on by the law of scrapes.
use Rattle.std.proofs.Common.{subst}
use Rattle.tracker_model.specs.Shape.{Shape}
use Rattle.tracker_model.specs.declared.answer.Answer.TheVariants.{Stats}
use Rattle.tracker_model.specs.declared.call.Call.TheVariants.{Scrape}
use Rattle.bucket.proofs.AskLaws.{scrape_stands}
use Rattle.bucket.proofs.CallLaws.{bucket_of, later_as}
use Rattle.bucket.proofs.Judging.{StandsOn}
use Rattle.bucket.proofs.bucket.Bucket.scrape.Goals as goal

pub returns-clause-stands : goal.returns-clause-stands
returns-clause-stands c =
    let i = c.self.inside in
    let now = c.at_least-now.result.0 in
    let counts = c.scrape.result.0 in
    let known = c.scrape.result.1 in
    let new = c.scrape.new.torrents in
    let later = later_as c.args.minute now i.outbox i.torrents.value c.args.self.now c.self.view_is c.at_least-now.ensures in
    let F : Shape → Type 0 = λ s. StandsOn c.args.caller c.args.minute (Scrape c.args.hash.now) (Stats counts known) s (bucket_of i.outbox new) in
    subst F c.self.view_is (scrape_stands now c.args.hash.now i.torrents.value new c.args.caller c.args.minute later i.outbox counts known (rw (← c.deref_mut.ensures.value) c.scrape.ensures))
