-- No peers are in good order.
use Rattle.swarm.proofs.ExpireLemmas.{none_orderly}
use Rattle.swarm.proofs.late.LateMembers.time.Goals as goal

pub returns-in-None-clause-orderly : goal.returns-in-None-clause-orderly
returns-in-None-clause-orderly c = rw (← c.self.view_is, c.in-None.is) (none_orderly c.self.inside.time)
