use Rattle.std.proofs.Common.{◌+◌, ◌-◌, ◌*◌}
use Rattle.lines.specs.Streams.{IsLaterSource, IsLaterSink}
use Rattle.lines.specs.Reading.{read_limit}
use Rattle.lines.specs.Turns.{Progress}
use Rattle.lines.proofs.run.run_turns.Given as goal

-- the lines that were taken so far were answered
abbrev pub invariant-turns : goal.invariant-turns
invariant-turns g l = record {
  progress : Progress g.R.Responder.answers l.fn.responder l.responder (g.S.Source.left l.fn.input) (g.S.Source.left l.input) (g.O.Sink.written l.fn.out) (g.O.Sink.written l.out) l.replies l.lines;
  input : IsLaterSource g.S.Source.faults g.S.Source.ends g.S.Source.aside l.fn.input l.input;
  output : IsLaterSink g.O.Sink.faults g.O.Sink.aside l.fn.out l.out;
}

-- each turn takes a line or a byte
abbrev pub decreases-turns : goal.decreases-turns
decreases-turns g l = 2 * read_limit - (l.lines.number + l.lines.count)
