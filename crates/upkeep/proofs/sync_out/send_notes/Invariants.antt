-- What was sent for the notes so far.
use Rattle.std.proofs.Common.{◌≡◌, ◌+◌, ◌*◌, ◌≤◌, All, length}
use Rattle.sync_wire.specs.Notes.{IsTellable}
use Rattle.upkeep.specs.Telling.{outgoing}
use Rattle.upkeep.proofs.Sending.{SentSoFar}
use Rattle.upkeep.proofs.sync_out.send_notes.Given as goal

abbrev pub invariant-loop-left : goal.invariant-loop-left
invariant-loop-left g l =
    let of = g.W.Wire in record {
      sent : SentSoFar (outgoing l.own l.nodes l.notes) (outgoing l.own l.nodes l.left) (of.traffic l.fn.wire) (of.traffic l.wire) l.count;
      few : l.count + 16 * length l.left ≤ 65536;
      tellable : All IsTellable l.left;
      faults : of.faults l.fn.wire ≤ of.faults l.wire;
      idles : of.idles l.wire ≡ of.idles l.fn.wire;
    }

abbrev pub decreases-loop-left : goal.decreases-loop-left
decreases-loop-left g l = length l.left
