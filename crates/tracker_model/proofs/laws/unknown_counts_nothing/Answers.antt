use Rattle.tracker_model.proofs.LawLemmas.{unknown_counts}
use Rattle.tracker_model.proofs.laws.unknown_counts_nothing.Goals as goal

pub returns : goal.returns
returns c = unknown_counts
