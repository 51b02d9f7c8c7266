use Rattle.tracker_model.proofs.CountLemmas.{same_counts, same_known}
use Rattle.tracker_model.proofs.laws.bodies_agree.Goals as goal

pub returns-clause-counts : goal.returns-clause-counts
returns-clause-counts c = same_counts

pub returns-clause-torrents : goal.returns-clause-torrents
returns-clause-torrents c = same_known
