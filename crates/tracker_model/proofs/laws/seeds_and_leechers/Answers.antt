use Rattle.tracker_model.proofs.CountLemmas.{seeds_and_leechers}
use Rattle.tracker_model.proofs.laws.seeds_and_leechers.Goals as goal

pub returns : goal.returns
returns c = seeds_and_leechers
