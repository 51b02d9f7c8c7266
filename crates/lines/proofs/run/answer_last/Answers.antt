use Rattle.ot_io.specs.Counts.{Rose}
use Rattle.lines.proofs.EndLemmas.{AnswersLast-line}
use Rattle.lines.proofs.run.answer_last.Goals as goal

pub returns-clause-answers : goal.returns-clause-answers
returns-clause-answers g c = λ first left left' before progress.
    AnswersLast-line (Rose (g.O.Sink.faults c.args.out.now) (g.O.Sink.faults c.answer.new.out)) g.R.Responder.answers g.R.Responder.refuses
    first c.args.responder.now c.answer.new.responder left left' before _ _ _ c.answer.new.replies c.args.lines.now c.take_last.new.self c.answer.result
    progress c.requires.0 c.requires.1 c.if-not-take_last.ensures c.answer.ensures.answers
