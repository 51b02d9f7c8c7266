use Rattle.std.proofs.Common.{arith, refl}
use Rattle.std.specs.Io.KnownBytes.{IsAtEnd}
use Rattle.ot_io.specs.Counts.{Rose}
use Rattle.lines.proofs.RunLemmas.{Progress-flushed, Progress-read}
use Rattle.lines.proofs.EndLemmas.{Progress-kept, EndsByCause-unwritten, EndsByCause-unread, EndsByCause-too_much, EndsByCause-ended, EndsByCause-since}
use Rattle.lines.proofs.run.read_on.Goals as goal

pub returns-in-Err-clause-turns : goal.returns-in-Err-clause-turns
returns-in-Err-clause-turns g c = λ first from before progress.
    EndsByCause-unwritten
    (Rose (g.S.Source.ends c.args.input.now) (g.S.Source.ends c.args.input.now) × IsAtEnd (g.S.Source.left c.args.input.now))
    (Rose (g.S.Source.faults c.args.input.now) (g.S.Source.faults c.args.input.now))
    (Rose (g.O.Sink.faults c.args.out.now) (g.O.Sink.faults c.flush.new.out))
    g.R.Responder.answers g.R.Responder.refuses g.R.Responder.may_end g.R.Responder.refuses_end
    first c.args.responder.now from _ before _ _ _ _ progress c.in-Err.ensures.lost c.in-Err.ensures.fault

pub returns-in-Got-clause-turns : goal.returns-in-Got-clause-turns
returns-in-Got-clause-turns g c = λ first from before progress.
    let flushed = Progress-flushed g.R.Responder.answers first c.args.responder.now from _ before _ _ _ c.flush.new.self _ progress c.in_default.ensures.written c.flush.ensures.none in
    Progress-read g.R.Responder.answers first c.args.responder.now from _ _ before _ _ _ _ flushed c.in-Got.ensures.filled

pub returns-in-End-clause-turns : goal.returns-in-End-clause-turns
returns-in-End-clause-turns g c = λ first from before progress.
    let flushed = Progress-flushed g.R.Responder.answers first c.args.responder.now from _ before _ _ _ c.flush.new.self _ progress c.in_default.ensures.written c.flush.ensures.none in
    let filled = c.in-End.ensures.filled in
    let at_end = Progress-kept g.R.Responder.answers first c.args.responder.now from _ _ before _ _ _ c.fill.new.self flushed filled.0 filled.2 in
    EndsByCause-since
    (Rose (g.S.Source.ends c.args.input.now) (g.S.Source.ends c.fill.new.input) × IsAtEnd (g.S.Source.left c.fill.new.input))
    (Rose (g.S.Source.faults c.args.input.now) (g.S.Source.faults c.fill.new.input))
    (Rose (g.O.Sink.faults c.flush.new.out) (g.O.Sink.faults c.end_run.new.out))
    (Rose (g.S.Source.ends c.args.input.now) (g.S.Source.ends c.fill.new.input) × IsAtEnd (g.S.Source.left c.fill.new.input))
    (Rose (g.S.Source.faults c.args.input.now) (g.S.Source.faults c.fill.new.input))
    (Rose (g.O.Sink.faults c.args.out.now) (g.O.Sink.faults c.end_run.new.out))
    (λ ended. ended) (λ rose. rose) (λ rose. omega (arith, rose, c.flush.ensures.later.counted))
    g.R.Responder.answers g.R.Responder.refuses g.R.Responder.may_end g.R.Responder.refuses_end from _ before _ first c.end_run.new.responder c.end_run.result
    (EndsByCause-ended
    (Rose (g.S.Source.ends c.args.input.now) (g.S.Source.ends c.fill.new.input) × IsAtEnd (g.S.Source.left c.fill.new.input))
    (Rose (g.S.Source.faults c.args.input.now) (g.S.Source.faults c.fill.new.input))
    (Rose (g.O.Sink.faults c.flush.new.out) (g.O.Sink.faults c.end_run.new.out))
    g.R.Responder.answers g.R.Responder.refuses g.R.Responder.may_end g.R.Responder.refuses_end
    first c.args.responder.now c.end_run.new.responder from _ before _ _ _ _ c.end_run.result
    at_end (c.in-End.ensures.end refl, filled.1) (c.end_run.ensures.ends first from _ before at_end))

pub returns-in-Failed-clause-turns : goal.returns-in-Failed-clause-turns
returns-in-Failed-clause-turns g c = λ first from before progress.
    let flushed = Progress-flushed g.R.Responder.answers first c.args.responder.now from _ before _ _ _ c.flush.new.self _ progress c.in_default.ensures.written c.flush.ensures.none in
    let filled = c.in-Failed.ensures.filled in
    let failed = Progress-kept g.R.Responder.answers first c.args.responder.now from _ _ before _ _ _ c.fill.new.self flushed filled.0 filled.1 in
    EndsByCause-unread
    (Rose (g.S.Source.ends c.args.input.now) (g.S.Source.ends c.fill.new.input) × IsAtEnd (g.S.Source.left c.fill.new.input))
    (Rose (g.S.Source.faults c.args.input.now) (g.S.Source.faults c.fill.new.input))
    (Rose (g.O.Sink.faults c.args.out.now) (g.O.Sink.faults c.flush.new.out))
    g.R.Responder.answers g.R.Responder.refuses g.R.Responder.may_end g.R.Responder.refuses_end
    first c.args.responder.now from _ before _ c.flush.new.self c.fill.new.self failed (rw filled.1 c.requires.0) c.flush.ensures.none (c.in-Failed.ensures.failed refl)

pub returns-in-TooMuch-clause-turns : goal.returns-in-TooMuch-clause-turns
returns-in-TooMuch-clause-turns g c = λ first from before progress.
    let flushed = Progress-flushed g.R.Responder.answers first c.args.responder.now from _ before _ _ _ c.flush.new.self _ progress c.in_default.ensures.written c.flush.ensures.none in
    EndsByCause-too_much
    (Rose (g.S.Source.ends c.args.input.now) (g.S.Source.ends c.fill.new.input) × IsAtEnd (g.S.Source.left c.fill.new.input))
    (Rose (g.S.Source.faults c.args.input.now) (g.S.Source.faults c.fill.new.input))
    (Rose (g.O.Sink.faults c.args.out.now) (g.O.Sink.faults c.flush.new.out))
    g.R.Responder.answers g.R.Responder.refuses g.R.Responder.may_end g.R.Responder.refuses_end
    first c.args.responder.now from _ _ before _ c.flush.new.self c.args.lines.now c.fill.new.self flushed c.requires.0 c.flush.ensures.none c.in-TooMuch.ensures.filled
