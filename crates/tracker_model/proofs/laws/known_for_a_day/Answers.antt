use Rattle.tracker_model.proofs.LawLemmas.{forgotten, counts_anew, live_is_known}
use Rattle.tracker_model.proofs.laws.known_for_a_day.Goals as goal

pub returns-clause-forgotten : goal.returns-clause-forgotten
returns-clause-forgotten c = forgotten

pub returns-clause-anew : goal.returns-clause-anew
returns-clause-anew c = counts_anew

pub returns-clause-lively : goal.returns-clause-lively
returns-clause-lively c = live_is_known
