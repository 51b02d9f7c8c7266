use Rattle.std.specs.Io.KnownBytes.{IsAtEnd}
use Rattle.ot_io.specs.Counts.{Rose}
use Rattle.lines.proofs.EndLemmas.{RunsLines-none}
use Rattle.lines.proofs.run.run_lines.Goals as goal

pub returns-in_default-clause-runs : goal.returns-in_default-clause-runs
returns-in_default-clause-runs g c =
    RunsLines-none (Rose (g.S.Source.ends c.args.input.now) (g.S.Source.ends c.args.input.now) × IsAtEnd (g.S.Source.left c.args.input.now))
    g.R.Responder.answers g.R.Responder.refuses g.R.Responder.may_end g.R.Responder.refuses_end c.args.responder.now _ _

pub returns-in_default-new-clause-runs : goal.returns-in_default-new-clause-runs
returns-in_default-new-clause-runs g c =
    RunsLines-none (Rose (g.S.Source.ends c.args.input.now) (g.S.Source.ends c.args.input.now) × IsAtEnd (g.S.Source.left c.args.input.now))
    g.R.Responder.answers g.R.Responder.refuses g.R.Responder.may_end g.R.Responder.refuses_end c.args.responder.now _ _
