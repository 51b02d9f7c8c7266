-- The nodes so far were sent the datagram.
use Rattle.std.proofs.Common.{◌≡◌, ◌≤◌, drop}
use Rattle.upkeep.specs.Telling.{to_each}
use Rattle.upkeep.proofs.Sending.{SentSoFar}
use Rattle.upkeep.proofs.sync_out.send_to_each.Given as goal

abbrev pub invariant-loop-node : goal.invariant-loop-node
invariant-loop-node g l =
    let of = g.W.Wire in record {
      sent : SentSoFar (to_each l.nodes l.bytes) (to_each (drop l.node-index l.nodes) l.bytes) (of.traffic l.fn.wire) (of.traffic l.wire) l.count;
      count : l.count ≡ l.node-index;
      faults : of.faults l.fn.wire ≤ of.faults l.wire;
      idles : of.idles l.wire ≡ of.idles l.fn.wire;
    }
