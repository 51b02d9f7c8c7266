use Rattle.std.proofs.Common.{◌∙◌}
use Rattle.std.proofs.lemmas.Result.{err_from_is_err_and}
use Rattle.serve.proofs.FullLemmas.{part_sent, part_short, short_counted}
use Rattle.serve.proofs.full.tell_part.Goals as goal

pub returns-in_err-part-clause-told : goal.returns-in_err-part-clause-told
returns-in_err-part-clause-told g c =
    let came = err_from_is_err_and c.from_residual.result c.from_residual.ensures.1 in
    part_short g.T.Tracker.made c.args.minute c.args.tracker.now c.args.bucket c.full_part.new.tracker (g.K.Sink.written c.args.sink.now) c.from_residual.result came.0 came.1
    c.in_err-part.ensures.scanned

pub returns-in_err-part-clause-faults : goal.returns-in_err-part-clause-faults
returns-in_err-part-clause-faults g c =
    let came = err_from_is_err_and c.from_residual.result c.from_residual.ensures.1 in
    short_counted (g.K.Sink.faults c.args.sink.now) c.from_residual.result came.0 came.1 came.2

pub returns-clause-told : goal.returns-clause-told
returns-clause-told g c =
    let part = c.in_ok-part.ensures.told in
    part_sent g.T.Tracker.made c.args.minute c.args.tracker.now c.args.bucket c.full_part.new.tracker (g.K.Sink.written c.args.sink.now) (g.K.Sink.written c.send.new.sink)
    c.as_slice.result.now part.0 c.send.result part.1 (c.as_slice.ensures ∙ part.2) c.send.ensures.sent
