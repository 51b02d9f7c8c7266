use Rattle.std.proofs.Common.{ap, subst, ◌∙◌}
use Rattle.load_model.specs.Text.{phase_line}
use Rattle.drill.specs.Run.{Writes}
use Rattle.drill.proofs.run.tell_phase.Goals as goal

pub returns-in-Ok-clause-written : goal.returns-in-Ok-clause-written
returns-in-Ok-clause-written g c =
    subst
    (λ text. Writes (g.O.Sink.written c.args.out.now) (g.O.Sink.written c.write.new.out) (g.O.Sink.faults c.args.out.now) (g.O.Sink.faults c.write.new.out) text c.write.result)
    (c.as_str.ensures.value ∙ c.line_of_phase.ensures ∙ ap (phase_line c.args.phase) c.in-Ok.ensures.totals)
    c.write.ensures.written
