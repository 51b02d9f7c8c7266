use Rattle.tracker_model.proofs.LiveLemmas.{live_agrees_later}
use Rattle.tracker_model.proofs.KnownLemmas.{known_agrees_later}
use Rattle.tracker_model.proofs.laws.agree_now_and_later.Goals as goal

pub returns-clause-peers : goal.returns-clause-peers
returns-clause-peers c = live_agrees_later

pub returns-clause-torrents : goal.returns-clause-torrents
returns-clause-torrents c = known_agrees_later
