use Rattle.lines.proofs.ReplyLemmas.{Adds-sent, Loses-sent}
use Rattle.lines.proofs.replies.Replies.add.Goals as goal

pub returns-clause-added : goal.returns-clause-added
returns-clause-added g c = Adds-sent _ _ _ _ _ _ c.send.result c.in_ok-flush.ensures.written c.flush.ensures.none c.send.ensures.written

pub returns-clause-lost : goal.returns-clause-lost
returns-clause-lost g c = Loses-sent _ _ _ _ _ c.send.result c.in_ok-flush.ensures.written c.send.ensures.lost
