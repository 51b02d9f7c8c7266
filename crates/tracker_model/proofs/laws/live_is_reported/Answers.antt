use Rattle.tracker_model.proofs.LawLemmas.{live_reported}
use Rattle.tracker_model.proofs.laws.live_is_reported.Goals as goal

pub returns : goal.returns
returns c = live_reported
