use Rattle.tracker_model.proofs.StandsLemmas.{same_then_step}
use Rattle.tracker_model.proofs.laws.passing_then_step.Goals as goal

pub returns : goal.returns
returns c = same_then_step
