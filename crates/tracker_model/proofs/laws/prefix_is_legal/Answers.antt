use Rattle.tracker_model.proofs.LawLemmas.{legal_prefix}
use Rattle.tracker_model.proofs.laws.prefix_is_legal.Goals as goal

pub returns : goal.returns
returns c = legal_prefix
