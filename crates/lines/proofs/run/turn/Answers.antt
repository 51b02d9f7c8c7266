use Rattle.std.proofs.Common.{sym, subst}
use Rattle.std.specs.Io.KnownBytes.{IsAtEnd}
use Rattle.ot_io.specs.Counts.{Rose}
use Rattle.lines.specs.Reading.{Reading}
use Rattle.lines.specs.Turns.{Progress}
use Rattle.lines.proofs.EndLemmas.{GoesOnOrEnds-line, EndsByCause-too_long}
use Rattle.lines.proofs.run.turn.Goals as goal

pub returns-in-Line-clause-turns : goal.returns-in-Line-clause-turns
returns-in-Line-clause-turns g c = λ first from before progress.
    GoesOnOrEnds-line
    (Rose (g.S.Source.ends c.args.input.now) (g.S.Source.ends c.args.input.now) × IsAtEnd (g.S.Source.left c.args.input.now))
    (Rose (g.S.Source.faults c.args.input.now) (g.S.Source.faults c.args.input.now))
    (Rose (g.O.Sink.faults c.args.out.now) (g.O.Sink.faults c.answer.new.out))
    g.R.Responder.answers g.R.Responder.refuses g.R.Responder.may_end g.R.Responder.refuses_end
    first c.args.responder.now c.answer.new.responder from _ before _ _ _ c.answer.new.replies c.args.lines.now c.take.new.self c.answer.result
    progress c.in-Line.ensures c.answer.ensures.answers

pub returns-in-TooLong-clause-turns : goal.returns-in-TooLong-clause-turns
returns-in-TooLong-clause-turns g c = λ first from before progress.
    EndsByCause-too_long
    (Rose (g.S.Source.ends c.args.input.now) (g.S.Source.ends c.args.input.now) × IsAtEnd (g.S.Source.left c.args.input.now))
    (Rose (g.S.Source.faults c.args.input.now) (g.S.Source.faults c.args.input.now))
    (Rose (g.O.Sink.faults c.args.out.now) (g.O.Sink.faults c.finish.new.out))
    g.R.Responder.answers g.R.Responder.refuses g.R.Responder.may_end g.R.Responder.refuses_end
    first c.args.responder.now from _ before _ _ _ c.take.new.self c.number-line.result c.finish.result
    (subst (λ (l : Reading). Progress g.R.Responder.answers first c.args.responder.now from (g.S.Source.left c.args.input.now) before (g.O.Sink.written c.args.out.now) c.args.replies.now l) (sym c.in-TooLong.ensures.0) progress)
    (rw c.in-TooLong.ensures.0 c.in-TooLong.ensures.1) c.number-line.ensures.number c.finish.ensures.finished
