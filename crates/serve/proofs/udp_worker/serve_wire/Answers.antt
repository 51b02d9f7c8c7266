-- The turns so far, and then one more or none.
use Rattle.std.proofs.Common.{option_copied}
use Rattle.serve.proofs.Working.{worked_on}
use Rattle.serve.proofs.udp_worker.serve_wire.Goals as goal

pub loop-preserved-then-serve_next : goal.loop-preserved-then-serve_next
loop-preserved-then-serve_next g c =
    let of = g.W.Wire in
    worked_on c.args.secret.now (option_copied c.args.access) c.args.pass.now c.loop.pass c.serve_next.new.pass
    (of.traffic c.args.wire.now) (of.traffic c.loop.wire) (of.traffic c.serve_next.new.wire) (of.faults c.args.wire.now) (of.faults c.loop.wire) (of.faults c.serve_next.new.wire)
    c.loop.invariant c.serve_next.ensures.worked

pub returns-then-load-clause-worked : goal.returns-then-load-clause-worked
returns-then-load-clause-worked g c =
    let of = g.W.Wire in
    worked_on c.args.secret.now (option_copied c.args.access) c.args.pass.now c.loop.pass c.serve_next.new.pass
    (of.traffic c.args.wire.now) (of.traffic c.loop.wire) (of.traffic c.serve_next.new.wire) (of.faults c.args.wire.now) (of.faults c.loop.wire) (of.faults c.serve_next.new.wire)
    c.loop.invariant c.serve_next.ensures.worked

pub loop-preserved : goal.loop-preserved
loop-preserved g c =
    let of = g.W.Wire in
    worked_on c.args.secret.now (option_copied c.args.access) c.args.pass.now c.loop.pass c.serve_next.new.pass
    (of.traffic c.args.wire.now) (of.traffic c.loop.wire) (of.traffic c.serve_next.new.wire) (of.faults c.args.wire.now) (of.faults c.loop.wire) (of.faults c.serve_next.new.wire)
    c.loop.invariant c.serve_next.ensures.worked
