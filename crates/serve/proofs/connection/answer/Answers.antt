use Rattle.std.proofs.Common.{◌≡◌, refl, subst, sym}
use Rattle.tracker_core.specs.declared.connection_plan.ConnectionPlan.{ConnectionPlan}
use Rattle.tracker_core.specs.declared.connection_plan.ConnectionPlan.TheVariants.{Planned}
use Rattle.tracker_core.specs.declared.http_plan.HttpPlan.TheVariants.{Full}
use Rattle.serve.specs.Connection.{EndsConnection}
use Rattle.serve.proofs.ConnectionLemmas.{reply_sent, reply_short}
use Rattle.serve.proofs.connection.answer.Goals as goal

pub returns-then-asks_for_all-clause-ended : goal.returns-then-asks_for_all-clause-ended
returns-then-asks_for_all-clause-ended g c =
    let k = g.N.Sink in
    let all : c.args.plan.now ≡ Planned Full = c.if-asks_for_all.ensures.all refl in
    let Ends : ConnectionPlan → Type 0 = λ plan.
    EndsConnection c.args.minute c.args.pass.now c.tell_torrents.new.pass plan (k.written c.args.conn.now) (k.written c.tell_torrents.new.conn) c.tell_torrents.result in
    subst Ends (sym all) c.tell_torrents.ensures.ended

pub returns-in-Ok-clause-ended : goal.returns-in-Ok-clause-ended
returns-in-Ok-clause-ended g c =
    let k = g.N.Sink in
    reply_sent c.args.minute c.args.pass.now c.make_reply.new.pass c.args.plan.now c.in-Some.code c.in-Ok.reply (k.written c.args.conn.now) (k.written c.send_reply.new.conn) c.send_reply.result
    (c.if-asks_for_all.ensures.bounded refl) (sym c.in-Some.ensures) c.in-Ok.ensures.made c.send_reply.ensures.sent

pub returns-in-Err-clause-ended : goal.returns-in-Err-clause-ended
returns-in-Err-clause-ended g c =
    reply_short c.args.minute c.args.pass.now c.make_reply.new.pass c.args.plan.now c.in-Some.code (g.N.Sink.written c.args.conn.now)
    (c.if-asks_for_all.ensures.bounded refl) (sym c.in-Some.ensures) c.in-Err.ensures.front
