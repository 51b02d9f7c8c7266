-- The lines of the phases so far were written.
use Rattle.std.proofs.Common.{◌≡◌}
use Rattle.std.specs.Io.KnownBytes.{Appends}
use Rattle.lines.specs.Streams.{IsLaterSink}
use Rattle.load_model.specs.Text.{phase_lines}
use Rattle.drill.specs.Phases.{IsAfter}
use Rattle.drill.proofs.run.run_phases.Given as goal

abbrev pub invariant-loop-phase : goal.invariant-loop-phase
invariant-loop-phase g l = record {
  wrote : Appends (g.O.Sink.written l.initial.out) (g.O.Sink.written l.out) (phase_lines l.settings l.phase);
  later : IsLaterSink g.O.Sink.faults g.O.Sink.aside l.initial.out l.out;
  of_shards : l.pass.shards ≡ l.shards;
  after : IsAfter l.settings l.phase l.load l.pass;
}
