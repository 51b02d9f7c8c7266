use Rattle.tracker_model.proofs.KindLemmas.{right_kind}
use Rattle.tracker_model.proofs.laws.right_is_of_kind.Goals as goal

pub returns : goal.returns
returns c = right_kind
