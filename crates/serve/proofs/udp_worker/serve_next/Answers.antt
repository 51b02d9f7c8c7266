-- What was done for one datagram is one turn at most.
use Rattle.std.proofs.Common.{◌∙◌, option_copied, sym}
use Rattle.ot_base.specs.Minute.{minute_at}
use Rattle.serve.proofs.Working.{rests_once, worked_once}
use Rattle.serve.proofs.udp_worker.serve_next.Goals as goal

pub returns-clause-worked : goal.returns-clause-worked
returns-clause-worked g c =
    let of = g.W.Wire in
    let did = c.serve_datagram-served in
    worked_once c.args.secret.now (option_copied c.args.access) c.args.pass.now did.new.pass
    (of.traffic c.args.wire.now) (of.traffic did.new.wire) (of.faults c.args.wire.now) (of.faults did.new.wire)
    did.ensures.pass (minute_at (g.C.Clock.told did.new.clock)) did.result did.ensures.served did.ensures.faults

pub returns-clause-rests : goal.returns-clause-rests
returns-clause-rests g c =
    let of = g.W.Wire in
    let did = c.serve_datagram-served in
    λ not.
    rests_once c.args.secret.now (option_copied c.args.access) c.args.pass.now did.new.pass
    (of.traffic c.args.wire.now) (of.traffic did.new.wire) (of.faults c.args.wire.now) (of.faults did.new.wire)
    did.ensures.pass (minute_at (g.C.Clock.told did.new.clock)) did.result did.ensures.served did.ensures.faults (sym c.is_received.ensures ∙ not)
