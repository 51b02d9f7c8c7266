use Rattle.std.proofs.Common.{◌≡◌}
use Rattle.std.proofs.lemmas.List.Elements.{All-replicate}
use Rattle.ot_base.specs.Address.{family_of}
use Rattle.ot_base.specs.declared.address.Family.TheVariants.{Four}
use Rattle.sync_wire.specs.Notes.{IsTellable}
use Rattle.sync_wire.proofs.tests.write_fifty.Goals as goal

pub write_batch-requires-clause-family : goal.write_batch-requires-clause-family
write_batch-requires-clause-family c =
    (Four, All-replicate (λ note. family_of note.who.addr ≡ Four) 50 c.args.note c.requires.1)

pub write_batch-requires-clause-tellable : goal.write_batch-requires-clause-tellable
write_batch-requires-clause-tellable c = All-replicate IsTellable 50 c.args.note c.requires
