use Rattle.tracker_model.proofs.LawLemmas.{seed_adds_nothing}
use Rattle.tracker_model.proofs.laws.seed_adds_no_download.Goals as goal

pub returns : goal.returns
returns c = seed_adds_nothing
