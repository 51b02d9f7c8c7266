use Rattle.std.proofs.Common.{◌≡◌, ◌≤◌, ℕ, List}
use Rattle.std.specs.Io.KnownBytes.{Appends, Consumes}
use Rattle.ot_io.proofs.tests.echo.Given as goal

-- what was read was written, the client stays, and the count of faults didn't fall
abbrev pub invariant-loop : goal.invariant-loop
invariant-loop g l = record {
  moved : (bytes : List ℕ)
      × Consumes (g.C.Source.left l.initial.conn) (g.C.Source.left l.conn) bytes
      × Appends (g.C.Sink.written l.initial.conn) (g.C.Sink.written l.conn) bytes;
  faults : g.C.Source.faults l.initial.conn ≤ g.C.Source.faults l.conn;
  client : g.C.Conn.client l.conn ≡ g.C.Conn.client l.initial.conn;
}
