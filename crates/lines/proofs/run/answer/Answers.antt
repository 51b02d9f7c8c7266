use Rattle.std.proofs.Common.{arith}
use Rattle.ot_io.specs.Counts.{Rose}
use Rattle.lines.proofs.AnswerLemmas.{AnswersOrEnds-refused, AnswersOrEnds-memory}
use Rattle.lines.proofs.run.answer.Goals as goal

pub returns-in-Err-Refused-clause-answers : goal.returns-in-Err-Refused-clause-answers
returns-in-Err-Refused-clause-answers g c =
    AnswersOrEnds-refused
    (Rose (g.O.Sink.faults c.respond.new.out) (g.O.Sink.faults c.finish.new.out))
    (Rose (g.O.Sink.faults c.args.out.now) (g.O.Sink.faults c.finish.new.out))
    (λ rose. omega (arith, rose, c.respond.ensures.later.counted))
    g.R.Responder.answers g.R.Responder.refuses c.args.responder.now c.respond.new.self c.args.lines.now.line c.line.result.now c.args.lines.now.number c.number-line.result
    _ _ _ _ c.respond.new.replies c.finish.new.replies c.in-Err-Refused.fault c.finish.result
    c.line.ensures c.number-line.ensures.number (rw c.in-Err-Refused.field-0-is at c.in-Err-Refused.ensures.responds) c.finish.ensures.finished

pub returns-in-Err-NoMemory-clause-answers : goal.returns-in-Err-NoMemory-clause-answers
returns-in-Err-NoMemory-clause-answers g c =
    AnswersOrEnds-memory
    (Rose (g.O.Sink.faults c.respond.new.out) (g.O.Sink.faults c.finish-in-Err-NoMemory.new.out))
    (Rose (g.O.Sink.faults c.args.out.now) (g.O.Sink.faults c.finish-in-Err-NoMemory.new.out))
    (λ rose. omega (arith, rose, c.respond.ensures.later.counted))
    g.R.Responder.answers g.R.Responder.refuses c.args.responder.now c.respond.new.self c.args.lines.now.line c.line.result.now c.args.lines.now.number
    _ _ _ _ c.respond.new.replies c.finish-in-Err-NoMemory.new.replies c.finish-in-Err-NoMemory.result
    c.line.ensures (rw c.in-Err-NoMemory.field-0-is at c.in-Err-NoMemory.ensures.responds) c.finish-in-Err-NoMemory.ensures.finished
