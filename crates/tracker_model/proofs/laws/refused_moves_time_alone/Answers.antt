use Rattle.tracker_model.proofs.LawLemmas.{refused_peers, refused_torrents, refused_notes, refused_dropped}
use Rattle.tracker_model.proofs.laws.refused_moves_time_alone.Goals as goal

pub returns-clause-peers : goal.returns-clause-peers
returns-clause-peers c = refused_peers

pub returns-clause-torrents : goal.returns-clause-torrents
returns-clause-torrents c = refused_torrents

pub returns-clause-notes : goal.returns-clause-notes
returns-clause-notes c = refused_notes

pub returns-clause-dropped : goal.returns-clause-dropped
returns-clause-dropped c = refused_dropped
