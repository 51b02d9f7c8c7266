use Rattle.std.proofs.Common.{◌≡◌, ◌≤◌, ℕ, List}
use Rattle.std.specs.Io.KnownBytes.{Appends, Consumes}
use Rattle.ot_io.proofs.tests.copy.Given as goal

-- what was taken from the source stands in the sink, and no count fell
abbrev pub invariant-loop : goal.invariant-loop
invariant-loop g l = record {
  moved : (bytes : List ℕ)
      × Consumes (g.S.Source.left l.initial.source) (g.S.Source.left l.source) bytes
      × Appends (g.K.Sink.written l.initial.sink) (g.K.Sink.written l.sink) bytes;
  ends : g.S.Source.ends l.initial.source ≤ g.S.Source.ends l.source;
  source_faults : g.S.Source.faults l.initial.source ≤ g.S.Source.faults l.source;
  sink_faults : g.K.Sink.faults l.initial.sink ≤ g.K.Sink.faults l.sink;
  source_aside : g.S.Source.aside l.source ≡ g.S.Source.aside l.initial.source;
  sink_aside : g.K.Sink.aside l.sink ≡ g.K.Sink.aside l.initial.sink;
}
