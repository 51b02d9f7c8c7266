use Rattle.request_handler.proofs.Announcing.{announced}
use Rattle.request_handler.proofs.datagram.carry_out.Goals as goal

pub returns-in-Announce-clause-carried : goal.returns-in-Announce-clause-carried
returns-in-Announce-clause-carried g c =
    let t = g.T.Tracker in
    announced t.made c.args.minute c.args.tracker.now c.announce.new.tracker (t.bits c.args.tracker.now) c.args.plan.now c.in-Announce.transaction c.in-Announce.call c.announce.new.reply c.announce.result
    c.in-Announce.is c.announce.ensures.made
