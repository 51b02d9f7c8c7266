use Rattle.std.proofs.Common.{ap, subst, ◌∙◌}
use Rattle.load_model.specs.Text.{calls_line}
use Rattle.drill.specs.Run.{Writes}
use Rattle.drill.proofs.RunLemmas.{all_calls}
use Rattle.drill.proofs.run.finish.Goals as goal

pub returns-clause-written : goal.returns-clause-written
returns-clause-written g c =
    let after = c.requires.after in
    subst
    (λ text. Writes (g.O.Sink.written c.args.out.now) (g.O.Sink.written c.write.new.out) (g.O.Sink.faults c.args.out.now) (g.O.Sink.faults c.write.new.out) text c.write.result)
    (c.as_str.ensures.value ∙ c.line_of_calls.ensures ∙ ap calls_line (c.in-Ok.ensures.calls ∙ all_calls c.args.settings.now after.0 c.args.pass after.1))
    c.write.ensures.written
