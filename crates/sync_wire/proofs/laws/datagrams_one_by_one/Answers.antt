use Rattle.sync_wire.proofs.Cuts.{datagrams-none, datagrams-next}
use Rattle.sync_wire.proofs.laws.datagrams_one_by_one.Goals as goal

pub returns-clause-none : goal.returns-clause-none
returns-clause-none c = datagrams-none

pub returns-clause-next : goal.returns-clause-next
returns-clause-next c = datagrams-next
