-- A run that ended in the access list, or that served on what was made.
use Rattle.std.proofs.Common.{refl, subst, arith}
use Rattle.std.proofs.KnownBytes.{Appends-nil}
use Rattle.server.specs.Run.{ServesTo}
use Rattle.server.proofs.DeviceLemmas.{lends_so, shut_after}
use Rattle.server.proofs.RunLemmas.{begins_further, ends_in_list, ends_served}
use Rattle.server.proofs.run.serve.Goals as goal

pub returns-in-Err-clause-served : goal.returns-in-Err-clause-served
returns-in-Err-clause-served g c =
    ends_in_list c.args.settings.now _ _ _ _ _ _ _ _ _ _ _ c.in-Err.status c.in-Err.ensures.caused (Appends-nil (g.O.Sink.written c.args.out.now))

pub returns-in-Ok-open_devices-clause-served : goal.returns-in-Ok-open_devices-clause-served
returns-in-Ok-open_devices-clause-served g c =
    let outside = g.N.Outside in
    let made = c.in-Ok-open_devices.ensures in
    let served = c.serve_on.ensures in
    let serves = subst
    (λ x. ServesTo c.args.settings.now x 0 0 (outside.wires_lent c.open_devices.new.outside) (outside.wires_lent c.serve_on.new.outside) (outside.listeners_lent c.open_devices.new.outside) (outside.listeners_lent c.serve_on.new.outside) (g.O.Sink.written c.args.out.now) (g.O.Sink.written c.serve_on.new.out) c.serve_on.result)
    c.as_ref.ensures.value served.served in
    ends_served c.args.settings.now (g.S.Source.ends c.args.input.now) (g.S.Source.ends c.serve_on.new.input) (g.S.Source.left c.args.input.now)
    (outside.wires_lent c.args.outside.now) (outside.wires_lent c.serve_on.new.outside) (outside.listeners_lent c.args.outside.now) (outside.listeners_lent c.serve_on.new.outside) (g.O.Sink.written c.args.out.now) (g.O.Sink.written c.serve_on.new.out)
    c.in-Ok.access (outside.wires_lent c.open_devices.new.outside) (outside.listeners_lent c.open_devices.new.outside)
    (lends_so _ _ _ _ _ made.wires refl (omega (arith, made.devices.wire_count, made.devices.sync_wire_count))) (lends_so _ _ _ _ _ made.listeners refl made.devices.listener_count) c.serve_on.result
    (begins_further (g.S.Source.ends c.args.input.now) (g.S.Source.ends c.read_access.new.input) (g.S.Source.ends c.serve_on.new.input) c.args.settings.now.replay.access (g.S.Source.left c.args.input.now) c.in-Ok.access served.input.ended c.in-Ok.ensures.begins)
    serves

pub returns-in-Ok-open_devices-clause-wires : goal.returns-in-Ok-open_devices-clause-wires
returns-in-Ok-open_devices-clause-wires g c =
    let took = c.serve_on.ensures.wires in
    shut_after _ _ _ _ _ _ took.back c.in-Ok-open_devices.ensures.wires refl took.lends refl took.many

pub returns-in-Ok-open_devices-clause-listeners : goal.returns-in-Ok-open_devices-clause-listeners
returns-in-Ok-open_devices-clause-listeners g c =
    let took = c.serve_on.ensures.listeners in
    shut_after _ _ _ _ _ _ took.back c.in-Ok-open_devices.ensures.listeners refl took.lends refl took.many
