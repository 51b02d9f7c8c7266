use Rattle.tracker_core.proofs.HeadLemmas.{one_plan}
use Rattle.tracker_core.proofs.laws.one_plan.Goals as goal

pub returns : goal.returns
returns c = one_plan
