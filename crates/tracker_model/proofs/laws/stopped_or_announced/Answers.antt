use Rattle.tracker_model.proofs.LawLemmas.{stopped_is_gone, announced_is_live}
use Rattle.tracker_model.proofs.laws.stopped_or_announced.Goals as goal

pub returns-clause-stopped : goal.returns-clause-stopped
returns-clause-stopped c = stopped_is_gone

pub returns-clause-announced : goal.returns-clause-announced
returns-clause-announced c = announced_is_live
