use Rattle.tracker_model.proofs.LawLemmas.{live_earlier, gone_at_45}
use Rattle.tracker_model.proofs.laws.live_for_a_while.Goals as goal

pub returns-clause-earlier : goal.returns-clause-earlier
returns-clause-earlier c = live_earlier

pub returns-clause-gone : goal.returns-clause-gone
returns-clause-gone c = gone_at_45
