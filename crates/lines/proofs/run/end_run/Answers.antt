use Rattle.std.proofs.Common.{◌+◌, inr, ap, ◌∙◌, arith}
use Rattle.ot_io.specs.Counts.{Rose}
use Rattle.lines.specs.Text.{all_lines}
use Rattle.lines.proofs.EndLemmas.{EndsAfter-stopped, EndsAfter-finished}
use Rattle.lines.proofs.run.end_run.Goals as goal

pub returns-in-Some-clause-ends : goal.returns-in-Some-clause-ends
returns-in-Some-clause-ends g c = λ first left left' before progress.
    let stops = c.in-Some.ensures.answers first left left' before progress in (
      stops.0,
      stops.1,
      EndsAfter-stopped
          (Rose (g.O.Sink.faults c.args.out.now) (g.O.Sink.faults c.answer_last.new.out))
          (Rose (g.O.Sink.faults c.args.out.now) (g.O.Sink.faults c.answer_last.new.out))
          (λ rose. rose)
          g.R.Responder.answers g.R.Responder.refuses g.R.Responder.may_end g.R.Responder.refuses_end
          first c.answer_last.new.responder (all_lines progress.read) stops.0 c.in-Some.ending stops.2,
    )

pub returns-in-Ok-clause-ends : goal.returns-in-Ok-clause-ends
returns-in-Ok-clause-ends g c = λ first left left' before progress.
    let all = c.in_default.ensures.answers first left left' before progress in
    EndsAfter-finished
    (Rose (g.O.Sink.faults c.answer_last.new.out) (g.O.Sink.faults c.finish.new.out))
    (Rose (g.O.Sink.faults c.args.out.now) (g.O.Sink.faults c.finish.new.out))
    (λ rose. omega (arith, rose, c.answer_last.ensures.output.counted))
    g.R.Responder.answers g.R.Responder.refuses g.R.Responder.may_end g.R.Responder.refuses_end
    first c.answer_last.new.responder (all_lines progress.read) before _ _ _ _ _ c.finish.result
    all (all.answered, c.in-Ok.ensures) c.finish.ensures.finished

pub returns-in-Err-clause-ends : goal.returns-in-Err-clause-ends
returns-in-Err-clause-ends g c = λ first left left' before progress.
    let all = c.in_default.ensures.answers first left left' before progress in
    EndsAfter-finished
    (Rose (g.O.Sink.faults c.answer_last.new.out) (g.O.Sink.faults c.finish-in-Err.new.out))
    (Rose (g.O.Sink.faults c.args.out.now) (g.O.Sink.faults c.finish-in-Err.new.out))
    (λ rose. omega (arith, rose, c.answer_last.ensures.output.counted))
    g.R.Responder.answers g.R.Responder.refuses g.R.Responder.may_end g.R.Responder.refuses_end
    first c.answer_last.new.responder (all_lines progress.read) before _ _ _ _ _ c.finish-in-Err.result
    all (inr (all.answered, c.in-Err.ensures, ap (λ n. n + 1) (c.number-after.ensures.number ∙ all.numbered))) c.finish-in-Err.ensures.finished
