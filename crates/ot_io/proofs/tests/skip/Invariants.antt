use Rattle.std.proofs.Common.{◌≡◌}
use Rattle.ot_io.proofs.tests.skip.Given as goal

-- what was written stays, and the client
abbrev pub invariant-loop : goal.invariant-loop
invariant-loop g l = record {
  written : g.C.Sink.written l.conn ≡ g.C.Sink.written l.initial.conn;
  client : g.C.Conn.client l.conn ≡ g.C.Conn.client l.initial.conn;
}
