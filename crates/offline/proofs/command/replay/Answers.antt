use Rattle.offline.proofs.Replaying.{no_run, replay_run}
use Rattle.std.proofs.Common.{sym, subst}
use Rattle.offline.specs.Command.{ReplayRun}
use Rattle.ot_io.specs.declared.status.Status.{Status}
use Rattle.offline.proofs.command.replay.Goals as goal

pub returns-in-Ok-clause-replayed : goal.returns-in-Ok-clause-replayed
returns-in-Ok-clause-replayed g c =
    let Ran : Status → Type 0 = λ status. ReplayRun g.S.Source.left g.S.Source.ends g.S.Source.faults g.O.Sink.written g.O.Sink.faults c.args.settings.now c.args.input.now c.run_lines.new.input c.args.out.now c.run_lines.new.out status in
    subst Ran (sym c.status.ensures)
    (replay_run g.S.Source.left g.S.Source.ends g.S.Source.faults g.O.Sink.written g.O.Sink.faults c.args.settings.now c.args.input.now c.run_lines.new.input c.args.out.now c.run_lines.new.out _ _ c.run_lines.result
    c.in-Ok.ensures.settings c.in-Ok.ensures.phase c.in-Ok.ensures.shelf c.in-Ok.ensures.stand c.run_lines.ensures.runs c.run_lines.ensures.done c.run_lines.ensures.read_fault c.run_lines.ensures.write_fault)

pub returns-in-Err-clause-replayed : goal.returns-in-Err-clause-replayed
returns-in-Err-clause-replayed g c = no_run _ _ _ _ _ _ _ _
