-- The connections so far, and then one more or none.
use Rattle.std.proofs.Common.{option_copied}
use Rattle.serve.proofs.Linking.{linked_on}
use Rattle.serve.proofs.http_worker.serve_listener.Goals as goal

pub loop-preserved-then-serve_next : goal.loop-preserved-then-serve_next
loop-preserved-then-serve_next g c =
    let of = g.L.Listener in
    linked_on (option_copied c.args.access) c.args.full c.args.pass.now c.loop.pass c.serve_next.new.pass
    (of.links c.args.listener.now) (of.links c.loop.listener) (of.links c.serve_next.new.listener) (of.faults c.args.listener.now) (of.faults c.loop.listener) (of.faults c.serve_next.new.listener)
    c.loop.invariant c.serve_next.ensures.worked

pub returns-then-load-clause-worked : goal.returns-then-load-clause-worked
returns-then-load-clause-worked g c =
    let of = g.L.Listener in
    linked_on (option_copied c.args.access) c.args.full c.args.pass.now c.loop.pass c.serve_next.new.pass
    (of.links c.args.listener.now) (of.links c.loop.listener) (of.links c.serve_next.new.listener) (of.faults c.args.listener.now) (of.faults c.loop.listener) (of.faults c.serve_next.new.listener)
    c.loop.invariant c.serve_next.ensures.worked

pub loop-preserved : goal.loop-preserved
loop-preserved g c =
    let of = g.L.Listener in
    linked_on (option_copied c.args.access) c.args.full c.args.pass.now c.loop.pass c.serve_next.new.pass
    (of.links c.args.listener.now) (of.links c.loop.listener) (of.links c.serve_next.new.listener) (of.faults c.args.listener.now) (of.faults c.loop.listener) (of.faults c.serve_next.new.listener)
    c.loop.invariant c.serve_next.ensures.worked
