use Rattle.request_handler.proofs.Announcing.{report_front, reported}
use Rattle.request_handler.proofs.Made.{OnErr-holds}
use Rattle.request_handler.proofs.connection.answer.Goals as goal

pub returns-in_err-announce-in-Announce-clause-front :
    goal.returns-in_err-announce-in-Announce-clause-front
returns-in_err-announce-in-Announce-clause-front g c =
    let t = g.T.Tracker in
    let made = c.announce.ensures.made in
    OnErr-holds c.from_residual-in_err-announce-in-Announce.result
    (report_front t.made c.args.minute c.args.tracker.now c.announce.new.tracker (t.bits c.args.tracker.now) c.args.plan.now c.in-Announce.call made.0 c.in-Announce.is made.1)

pub returns-in_ok-announce-in-Announce-clause-answered :
    goal.returns-in_ok-announce-in-Announce-clause-answered
returns-in_ok-announce-in-Announce-clause-answered g c =
    let t = g.T.Tracker in
    reported t.made c.args.minute c.args.tracker.now c.announce.new.tracker (t.bits c.args.tracker.now) c.args.plan.now c.in-Announce.call c.in_ok-announce-in-Announce.field-0 c.in-Announce.is
    c.in_ok-announce-in-Announce.ensures.made
