-- One datagram.
use Rattle.std.proofs.Common.{◌∙◌, sym}
use Rattle.upkeep.proofs.Turning.{hears_stranger, tellable_held}
use Rattle.upkeep.proofs.sync_in.sync_in_turn.Goals as goal

pub returns-then-not-is_among-clause-hears : goal.returns-then-not-is_among-clause-hears
returns-then-not-is_among-clause-hears g c =
    let got = c.in-Got.ensures.received in
    hears_stranger c.args.own c.args.nodes.now c.args.minute c.args.pass.now (g.W.Wire.traffic c.args.wire.now) (g.W.Wire.traffic c.recv.new.self) c.in-Got.from got.0 got.1
    (sym c.is_among.ensures ∙ (cc))

pub apply-requires-clause-tellable : goal.apply-requires-clause-tellable
apply-requires-clause-tellable g c = tellable_held c.in-Ok.batch.notes c.in-Ok.ensures.written.0.held
