-- The bucket stands on by the law of announces, with a note or without.
use Rattle.std.proofs.Common.{◌≡◌, true, Option, Some, Result, Ok, Err, sym, ◌∙◌, subst}
use Rattle.ot_base.specs.declared.peer.Counts.{Counts}
use Rattle.ot_base.specs.declared.peer.Mark.{Mark}
use Rattle.ot_base.specs.declared.peer.Note.{Note}
use Rattle.tracker_model.specs.Kinds.{IsKindOf}
use Rattle.tracker_model.specs.Outbox.{note_of}
use Rattle.tracker_model.specs.Shape.{Shape}
use Rattle.tracker_model.specs.declared.answer.Answer.TheVariants.{Told}
use Rattle.bucket.specs.Answers.{announced, error_answer}
use Rattle.bucket.specs.Calls.{Announces, announce_of}
use Rattle.bucket.specs.Outbox.{Gets}
use Rattle.bucket.specs.Public.{KeepsOrder}
use Rattle.bucket.specs.declared.joining.JoinError.{JoinError}
use Rattle.bucket.proofs.CallLaws.{announce_kind, announce_order, announce_stands, bucket_of, error_unnoted, later_as, on_err, refuse_order, refuse_stands}
use Rattle.bucket.proofs.Judging.{StandsOn, gets_after, gets_none}
use Rattle.bucket.proofs.PutLemmas.{gave_error}
use Rattle.bucket.proofs.bucket.Bucket.announce.Goals as goal

pub returns-then-is_err-clause-stands : goal.returns-then-is_err-clause-stands
returns-then-is_err-clause-stands c caller =
    let i = c.self.inside in
    let now = c.at_least-now.result.0 in
    let j = c.args.joining.now in
    let want = c.args.want in
    let new = c.refuse.new.torrents in
    let box = c.reserve.new.self in
    let later = later_as c.args.minute now i.outbox i.torrents.value c.args.self.now c.self.view_is c.at_least-now.ensures in
    let on : i.outbox.sync ≡ true = on_err c.reserve.result (i.outbox.sync ≡ true) (sym c.is_err.ensures.value ∙ c.if-is_err.true) c.reserve.ensures.on in
    let F : Shape → Type 0 = λ s. StandsOn caller c.args.minute (announce_of j want) (error_answer s.settings.limits c.refuse.result) s (bucket_of box new) in
    subst F c.self.view_is (refuse_stands now i.torrents.value new j want c.refuse.result (rw (← c.deref_mut.ensures.value) c.refuse.ensures) i.outbox box on caller c.args.minute later (gets_none i.outbox box c.reserve.ensures.same) c.requires.formed)

pub returns-then-is_err-clause-order : goal.returns-then-is_err-clause-order
returns-then-is_err-clause-order c =
    let i = c.self.inside in
    let now = c.at_least-now.result.0 in
    let j = c.args.joining.now in
    let want = c.args.want in
    let new = c.refuse.new.torrents in
    let box = c.reserve.new.self in
    let F : Shape → Type 0 = λ s. KeepsOrder (announce_of j want) s (bucket_of box new) in
    subst F c.self.view_is (refuse_order now i.torrents.value new j want c.refuse.result (rw (← c.deref_mut.ensures.value) c.refuse.ensures) i.outbox box)

pub returns-in_err-counts-clause-stands : goal.returns-in_err-counts-clause-stands
returns-in_err-counts-clause-stands c caller =
    let i = c.self.inside in
    let now = c.at_least-now.result.0 in
    let j = c.args.joining.now in
    let want = c.args.want in
    let new = c.announce.new.torrents in
    let told = c.announce.new.told in
    let words = c.args.words.now in
    let box = c.reserve.new.self in
    let error = c.in_err-counts.field-0.0 in
    let later = later_as c.args.minute now i.outbox i.torrents.value c.args.self.now c.self.view_is c.at_least-now.ensures in
    let A : Result Counts JoinError → Type 0 = λ r. Announces now j want words i.torrents.value new told r in
    let G : Option Note → Type 0 = λ n. Gets n i.outbox box in
    let gets = subst G (sym (error_unnoted (announce_of j want) i.torrents.value.limits error)) (gets_none i.outbox box c.reserve.ensures.same) in
    let F : Shape → Type 0 = λ s. StandsOn caller c.args.minute (announce_of j want) (error_answer s.settings.limits error) s (bucket_of box new) in
    let R : Result Counts JoinError → Type 0 = λ r. StandsOn caller c.args.minute (announce_of j want) (announced c.args.self.now.settings.limits told r) c.args.self.now (bucket_of box new) in
    let gave = c.from_residual.ensures in
    subst R (sym (gave_error c.from_residual.result error gave.0 gave.1)) (subst F c.self.view_is
    (announce_stands now i.torrents.value new j want c.requires.formed.1 words c.told-words told (Err error) (subst A c.in_err-counts.was (rw (← c.deref_mut-2.ensures.value) c.announce.ensures)) i.outbox box caller c.args.minute later gets c.requires.formed))

pub returns-in_err-counts-clause-order : goal.returns-in_err-counts-clause-order
returns-in_err-counts-clause-order c =
    let i = c.self.inside in
    let now = c.at_least-now.result.0 in
    let j = c.args.joining.now in
    let want = c.args.want in
    let new = c.announce.new.torrents in
    let box = c.reserve.new.self in
    let F : Shape → Type 0 = λ s. KeepsOrder (announce_of j want) s (bucket_of box new) in
    subst F c.self.view_is (announce_order now i.torrents.value new j want c.requires.formed.1 c.args.words.now c.told-words c.announce.new.told c.announce.result (rw (← c.deref_mut-2.ensures.value) c.announce.ensures) i.outbox box)

pub returns-clause-kind : goal.returns-clause-kind
returns-clause-kind c =
    let i = c.self.inside in
    let now = c.at_least-now.result.0 in
    let j = c.args.joining.now in
    let want = c.args.want in
    let new = c.announce.new.torrents in
    let told = c.announce.new.told in
    let words = c.args.words.now in
    let counts = c.in_ok-counts.counts in
    let A : Result Counts JoinError → Type 0 = λ r. Announces now j want words i.torrents.value new told r in
    let F : Shape → Type 0 = λ s. IsKindOf s.settings (announce_of j want) (Told counts told) in
    subst F c.self.view_is (announce_kind now i.torrents.value new j want c.requires.formed.1 words c.told-words told (Ok counts) (subst A c.in_ok-counts.was (rw (← c.deref_mut-2.ensures.value) c.announce.ensures)) i.outbox)

pub returns-clause-stands : goal.returns-clause-stands
returns-clause-stands c caller =
    let i = c.self.inside in
    let now = c.at_least-now.result.0 in
    let j = c.args.joining.now in
    let want = c.args.want in
    let new = c.announce.new.torrents in
    let told = c.announce.new.told in
    let words = c.args.words.now in
    let mid = c.reserve.new.self in
    let next = c.add.new.self in
    let counts = c.in_ok-counts.counts in
    let later = later_as c.args.minute now i.outbox i.torrents.value c.args.self.now c.self.view_is c.at_least-now.ensures in
    let A : Result Counts JoinError → Type 0 = λ r. Announces now j want words i.torrents.value new told r in
    let M : Mark → Type 0 = λ mark. Gets (Some (record { hash = j.hash; who = j.who; mark = mark })) mid next in
    let gets = gets_after (note_of (announce_of j want)) i.outbox mid next c.reserve.ensures.same (subst M c.mark_of.ensures c.add.ensures) in
    let F : Shape → Type 0 = λ s. StandsOn caller c.args.minute (announce_of j want) (Told counts told) s (bucket_of next new) in
    subst F c.self.view_is
    (announce_stands now i.torrents.value new j want c.requires.formed.1 words c.told-words told (Ok counts) (subst A c.in_ok-counts.was (rw (← c.deref_mut-2.ensures.value) c.announce.ensures)) i.outbox next caller c.args.minute later gets c.requires.formed)

pub returns-clause-order : goal.returns-clause-order
returns-clause-order c =
    let i = c.self.inside in
    let now = c.at_least-now.result.0 in
    let j = c.args.joining.now in
    let want = c.args.want in
    let new = c.announce.new.torrents in
    let next = c.add.new.self in
    let F : Shape → Type 0 = λ s. KeepsOrder (announce_of j want) s (bucket_of next new) in
    subst F c.self.view_is (announce_order now i.torrents.value new j want c.requires.formed.1 c.args.words.now c.told-words c.announce.new.told c.announce.result (rw (← c.deref_mut-2.ensures.value) c.announce.ensures) i.outbox next)
