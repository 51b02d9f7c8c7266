-- One more piece: a read leaves what was written, and a write what is left, by the connection's
-- laws.
use Rattle.std.proofs.Common.{◌∙◌, sym, arith}
use Rattle.std.proofs.KnownBytes.{Appends-trans, Consumes-trans}
use Rattle.ot_io.proofs.Asides.{same_written, same_left, same_client_read, same_client_written}
use Rattle.ot_io.proofs.tests.echo.Goals as goal

pub loop-preserved : goal.loop-preserved
loop-preserved g c =
    let before = c.loop.invariant in
    let law = g.met.C.Conn in
    let by_read = sym (law.read_keeps c.read.new.self) ∙ c.read.ensures.aside ∙ law.read_keeps c.loop.conn in
    let by_write = sym (law.write_keeps c.send_all.new.sink) ∙ c.send_all.ensures.aside ∙ law.write_keeps c.read.new.self in
    let written = same_written _ _ _ _ by_read in
    let left = same_left _ _ _ _ _ _ by_write in
    record {
      moved = (
        _,
        rw left (Consumes-trans _ _ _ _ _ before.moved.1 c.in-Got.ensures.piece.2),
        Appends-trans _ _ _ _ _ before.moved.2 (rw written at c.in-Took.ensures.sent.1),
      );
      faults = omega (
        arith,
        before.faults,
        c.in-Got.ensures.failed,
        c.in-Took.ensures.failed,
        law.one_count c.read.new.self,
        law.one_count c.send_all.new.sink,
      );
      client = same_client_written _ _ _ _ _ _ by_write ∙ same_client_read _ _ _ _ by_read ∙ before.client;
    }
