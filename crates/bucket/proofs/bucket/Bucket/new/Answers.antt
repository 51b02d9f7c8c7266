-- A new bucket stands for the empty history.
use Rattle.std.proofs.Common.{[], sym, ◌∙◌, subst}
use Rattle.tracker_model.proofs.StandsLemmas.{stands_first}
use Rattle.tracker_model.specs.Stands.{StandsFor}
use Rattle.bucket.specs.Outbox.{OutboxShape, empty_outbox}
use Rattle.bucket.specs.Table.{Table}
use Rattle.bucket.proofs.CallLaws.{bucket_of}
use Rattle.bucket.proofs.bucket.Bucket.new.Goals as goal

pub returns-clause-stands : goal.returns-clause-stands
returns-clause-stands c =
    let P : OutboxShape → Type 0 = λ o. StandsFor [] (bucket_of o c.in_ok-new-2.field-0.value) in
    let Q : Table → Type 0 = λ t. StandsFor [] (bucket_of (empty_outbox c.args.sync) t) in
    subst P (sym c.new-3.ensures) (subst Q (sym (c.in_ok-new-2.ensures.ok ∙ c.in_ok-new.ensures)) (stands_first (record { limits = c.args.limits; sync = c.args.sync })))
