-- The bucket stands on by the law of stops, with a note or without.
use Rattle.std.proofs.Common.{[], subst}
use Rattle.tracker_model.specs.Outbox.{note_of}
use Rattle.tracker_model.specs.Shape.{Shape}
use Rattle.tracker_model.specs.declared.answer.Answer.TheVariants.{Told, NoMemory}
use Rattle.tracker_model.specs.declared.call.Call.TheVariants.{Stop}
use Rattle.bucket.proofs.AskLaws.{stop_stands, stop_wants_stands}
use Rattle.bucket.proofs.CallLaws.{bucket_of, later_as}
use Rattle.bucket.proofs.Judging.{StandsOn, gets_after, gets_none}
use Rattle.bucket.proofs.bucket.Bucket.stop.Goals as goal

pub returns-in-Err-clause-stands : goal.returns-in-Err-clause-stands
returns-in-Err-clause-stands c caller =
    let i = c.self.inside in
    let now = c.at_least-now.result.0 in
    let hash = c.args.hash.now in
    let who = c.args.who.now in
    let box = c.reserve.new.self in
    let later = later_as c.args.minute now i.outbox i.torrents.value c.args.self.now c.self.view_is c.at_least-now.ensures in
    let F : Shape → Type 0 = λ s. StandsOn caller c.args.minute (Stop hash who) NoMemory s (bucket_of box c.pass.new.torrents) in
    subst F c.self.view_is (stop_wants_stands now i.torrents.value c.pass.new.torrents (rw (← c.deref_mut.ensures.value) c.pass.ensures) caller c.args.minute later hash who c.requires i.outbox box c.in-Err.ensures.on (gets_none i.outbox box c.reserve.ensures.same))

pub returns-clause-stands : goal.returns-clause-stands
returns-clause-stands c caller =
    let i = c.self.inside in
    let now = c.at_least-now.result.0 in
    let hash = c.args.hash.now in
    let who = c.args.who.now in
    let counts = c.stop-counts.result in
    let new = c.stop-counts.new.torrents in
    let later = later_as c.args.minute now i.outbox i.torrents.value c.args.self.now c.self.view_is c.at_least-now.ensures in
    let gets = gets_after (note_of (Stop hash who)) i.outbox c.reserve.new.self c.add.new.self c.reserve.ensures.same c.add.ensures in
    let F : Shape → Type 0 = λ s. StandsOn caller c.args.minute (Stop hash who) (Told counts []) s (bucket_of c.add.new.self new) in
    subst F c.self.view_is (stop_stands now hash i.torrents.value new who counts (rw (← c.deref_mut-2.ensures.value) c.stop-counts.ensures) caller c.args.minute later c.requires i.outbox c.add.new.self gets)
