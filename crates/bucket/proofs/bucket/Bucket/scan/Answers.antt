-- The bucket stands on by the law of scans.
use Rattle.std.proofs.Common.{subst}
use Rattle.tracker_model.specs.Making.{scanned}
use Rattle.tracker_model.specs.Shape.{Shape}
use Rattle.tracker_model.specs.declared.call.Call.TheVariants.{Scan}
use Rattle.bucket.proofs.AskLaws.{scanned_stands}
use Rattle.bucket.proofs.CallLaws.{bucket_of, later_as}
use Rattle.bucket.proofs.Judging.{StandsOn}
use Rattle.bucket.proofs.bucket.Bucket.scan.Goals as goal

pub returns-clause-stands : goal.returns-clause-stands
returns-clause-stands c =
    let i = c.self.inside in
    let now = c.at_least-now.result.0 in
    let new = c.clean.new.torrents in
    let later = later_as c.args.minute now i.outbox i.torrents.value c.args.self.now c.self.view_is c.at_least-now.ensures in
    let F : Shape → Type 0 = λ s. StandsOn c.args.caller c.args.minute Scan (scanned c.rows.result) s (bucket_of i.outbox new) in
    subst F c.self.view_is (scanned_stands now i.torrents.value new (rw (← c.deref_mut.ensures.value) c.clean.ensures) i.outbox c.args.caller c.args.minute later c.rows.result (rw (← c.deref.ensures) c.rows.ensures))
