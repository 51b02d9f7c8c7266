-- One more node was sent it.
use Rattle.std.proofs.Common.{◌∙◌, ◌+◌, ◌∷◌, [], ap, arith, drop, get_or, refl}
use Rattle.std.proofs.lemmas.List.{drop_more}
use Rattle.ot_io.specs.Traffic.{datagram}
use Rattle.upkeep.specs.Telling.{to_each}
use Rattle.upkeep.proofs.Lists.{no_node}
use Rattle.upkeep.proofs.Sending.{sent_more}
use Rattle.upkeep.proofs.sync_out.send_to_each.Goals as goal

pub loop-node-preserved : goal.loop-node-preserved
loop-node-preserved g c =
    let of = g.W.Wire in
    let before = c.loop-node.invariant in
    let nodes = c.args.nodes.now in
    let bytes = c.args.bytes.now in
    let i = c.loop-node.node-index in record {
      sent = sent_more (to_each nodes bytes) (to_each (drop i nodes) bytes) (datagram (get_or nodes i no_node) bytes ∷ []) (to_each (drop (i + 1) nodes) bytes)
          (of.traffic c.args.wire.now) (of.traffic c.loop-node.wire) (of.traffic c.send.new.self) c.loop-node.count 1 before.sent
          (ap (λ ns. to_each ns bytes) (drop_more nodes i no_node c.loop-node-test.true)) (refl, c.in-Done.ensures.sent);
      count = omega (arith, before.count);
      faults = omega (arith, before.faults, c.in-Done.ensures.failed);
      idles = c.in-Done.ensures.idles ∙ before.idles;
    }
