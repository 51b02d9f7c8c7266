use Rattle.tracker_model.proofs.StandsLemmas.{stands_first, stands_step}
use Rattle.tracker_model.proofs.JudgedLemmas.{stands_judged}
use Rattle.tracker_model.proofs.laws.stands_on.Goals as goal

pub returns-clause-first : goal.returns-clause-first
returns-clause-first c = stands_first

pub returns-clause-next : goal.returns-clause-next
returns-clause-next c = stands_step

pub returns-clause-judged : goal.returns-clause-judged
returns-clause-judged c = stands_judged
