-- The turns so far, and then one more or none.
use Rattle.std.proofs.Common.{◌∙◌, ap, sym}
use Rattle.shards.specs.Shape.{PassShape}
use Rattle.upkeep.proofs.Turning.{heard_then, rests_then}
use Rattle.upkeep.proofs.receiver.keep_receiving.Goals as goal

pub loop-preserved-then-is_received : goal.loop-preserved-then-is_received
loop-preserved-then-is_received g c =
    let of = g.W.Wire in
    let did = c.sync_in_turn in record {
      heard = heard_then c.args.own c.args.nodes.now c.args.pass.now c.loop.pass did.new.pass
          (of.traffic c.args.wire.now) (of.traffic c.loop.wire) (of.traffic did.new.wire) (of.faults c.args.wire.now) (of.faults c.loop.wire) (of.faults did.new.wire) c.loop.invariant.heard
          c.of_seconds-minute.result did.result did.ensures.hears did.ensures.faults did.ensures.pass;
      shards = ap (λ (p : PassShape). p.shards) did.ensures.pass ∙ c.loop.invariant.shards;
    }

pub loop-preserved : goal.loop-preserved
loop-preserved g c =
    let of = g.W.Wire in
    let did = c.sync_in_turn in record {
      heard = heard_then c.args.own c.args.nodes.now c.args.pass.now c.loop.pass did.new.pass
          (of.traffic c.args.wire.now) (of.traffic c.loop.wire) (of.traffic did.new.wire) (of.faults c.args.wire.now) (of.faults c.loop.wire) (of.faults did.new.wire) c.loop.invariant.heard
          c.of_seconds-minute.result did.result did.ensures.hears did.ensures.faults did.ensures.pass;
      shards = ap (λ (p : PassShape). p.shards) did.ensures.pass ∙ c.loop.invariant.shards;
    }

pub returns-then-load-clause-heard : goal.returns-then-load-clause-heard
returns-then-load-clause-heard g c =
    let of = g.W.Wire in
    let did = c.sync_in_turn in
    heard_then c.args.own c.args.nodes.now c.args.pass.now c.loop.pass did.new.pass
    (of.traffic c.args.wire.now) (of.traffic c.loop.wire) (of.traffic did.new.wire) (of.faults c.args.wire.now) (of.faults c.loop.wire) (of.faults did.new.wire) c.loop.invariant.heard
    c.of_seconds-minute.result did.result did.ensures.hears did.ensures.faults did.ensures.pass

pub returns-then-load-clause-rests : goal.returns-then-load-clause-rests
returns-then-load-clause-rests g c =
    let of = g.W.Wire in
    let did = c.sync_in_turn in
    rests_then c.args.own c.args.nodes.now c.args.pass.now c.loop.pass did.new.pass
    (of.traffic c.args.wire.now) (of.traffic c.loop.wire) (of.traffic did.new.wire) (of.faults c.args.wire.now) (of.faults c.loop.wire) (of.faults did.new.wire) c.loop.invariant.heard
    c.of_seconds-minute.result did.result did.ensures.hears did.ensures.faults (sym c.is_received.ensures ∙ c.if-is_received.false)
