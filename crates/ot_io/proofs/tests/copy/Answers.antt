-- One more piece: what was taken and what was written grew by the same bytes.
use Rattle.std.proofs.Common.{◌∙◌, arith}
use Rattle.std.proofs.KnownBytes.{Appends-trans, Consumes-trans}
use Rattle.ot_io.proofs.tests.copy.Goals as goal

pub loop-preserved : goal.loop-preserved
loop-preserved g c =
    let before = c.loop.invariant in
    record {
      moved = (
        _,
        Consumes-trans _ _ _ _ _ before.moved.1 c.in-Got.ensures.piece.2,
        Appends-trans _ _ _ _ _ before.moved.2 c.in-Took.ensures.sent.1,
      );
      ends = omega (arith, before.ends, c.in-Got.ensures.end);
      source_faults = omega (arith, before.source_faults, c.in-Got.ensures.failed);
      sink_faults = omega (arith, before.sink_faults, c.in-Took.ensures.failed);
      source_aside = c.read.ensures.aside ∙ before.source_aside;
      sink_aside = c.send_all.ensures.aside ∙ before.sink_aside;
    }
