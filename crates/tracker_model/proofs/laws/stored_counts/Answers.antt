use Rattle.tracker_model.proofs.CountLemmas.{how_many-stored, counts_of-stored, known_count-stored}
use Rattle.tracker_model.proofs.PairLemmas.{live_count-stored}
use Rattle.tracker_model.proofs.laws.stored_counts.Goals as goal

pub returns-clause-peers : goal.returns-clause-peers
returns-clause-peers c = how_many-stored

pub returns-clause-counts : goal.returns-clause-counts
returns-clause-counts c = counts_of-stored

pub returns-clause-torrents : goal.returns-clause-torrents
returns-clause-torrents c = known_count-stored

pub returns-clause-all_peers : goal.returns-clause-all_peers
returns-clause-all_peers c = live_count-stored
