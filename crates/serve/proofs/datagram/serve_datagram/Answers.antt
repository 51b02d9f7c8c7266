-- What came is planned by its first 2,048 bytes.
use Rattle.std.proofs.Common.{◌∙◌, [], ◌∷◌, ap, take, option_copied}
use Rattle.ot_base.specs.Minute.{minute_at}
use Rattle.ot_io.specs.Traffic.{datagram}
use Rattle.serve.proofs.Handling.{answered}
use Rattle.serve.proofs.datagram.serve_datagram.Goals as goal

pub returns-in-Done-clause-served : goal.returns-in-Done-clause-served
returns-in-Done-clause-served g c =
    let got = c.in-Got.ensures.received in
    answered (record { secret = c.args.secret.now; access = option_copied c.args.access; minute = minute_at (g.C.Clock.told c.now.new.self) })
    c.in-Got.from got.0 (take c.in-Got.len c.recv.new.buf) c.of_seconds-minute.result c.plan_udp-plan.result got.2
    (c.of_seconds-minute.ensures ∙ ap minute_at c.now.ensures) c.plan_udp-plan.ensures.planned
    c.args.pass.now c.carry.new.pass c.carry.new.reply c.in-Replied.len
    (g.W.Wire.traffic c.args.wire.now) (g.W.Wire.traffic c.recv.new.self) (g.W.Wire.traffic c.send.new.self) (λ came reply. datagram came.peer reply ∷ [])
    c.in-Replied.ensures.carried got.1 c.in-Done.ensures.sent

pub returns-in-Failed-send-clause-served : goal.returns-in-Failed-send-clause-served
returns-in-Failed-send-clause-served g c =
    let got = c.in-Got.ensures.received in
    answered (record { secret = c.args.secret.now; access = option_copied c.args.access; minute = minute_at (g.C.Clock.told c.now.new.self) })
    c.in-Got.from got.0 (take c.in-Got.len c.recv.new.buf) c.of_seconds-minute.result c.plan_udp-plan.result got.2
    (c.of_seconds-minute.ensures ∙ ap minute_at c.now.ensures) c.plan_udp-plan.ensures.planned
    c.args.pass.now c.carry.new.pass c.carry.new.reply c.in-Replied.len
    (g.W.Wire.traffic c.args.wire.now) (g.W.Wire.traffic c.recv.new.self) (g.W.Wire.traffic c.send.new.self) (λ came reply. [])
    c.in-Replied.ensures.carried got.1 c.in-Failed-send.ensures.sent
