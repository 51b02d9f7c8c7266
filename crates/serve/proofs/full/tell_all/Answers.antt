use Rattle.std.proofs.Common.{◌∙◌}
use Rattle.std.proofs.lemmas.Result.{err_from_is_err_and}
use Rattle.serve.proofs.FullLemmas.{back_sent, front_lost, front_short, parts_lost, short_counted}
use Rattle.serve.proofs.full.tell_all.Goals as goal

pub returns-in_err-front-clause-told : goal.returns-in_err-front-clause-told
returns-in_err-front-clause-told g c =
    let t = g.T.Tracker in
    let came = err_from_is_err_and c.from_residual.result c.from_residual.ensures.1 in
    front_short t.made c.args.minute (t.bits c.args.tracker.now) c.args.tracker.now c.args.tracker.now (g.K.Sink.written c.args.sink.now) c.from_residual.result came.0 came.1

pub returns-in_err-front-clause-faults : goal.returns-in_err-front-clause-faults
returns-in_err-front-clause-faults g c =
    let came = err_from_is_err_and c.from_residual.result c.from_residual.ensures.1 in
    short_counted (g.K.Sink.faults c.args.sink.now) c.from_residual.result came.0 came.1 came.2

pub returns-in_err-send-clause-told : goal.returns-in_err-send-clause-told
returns-in_err-send-clause-told g c =
    let t = g.T.Tracker in
    let k = g.K.Sink in
    let came = err_from_is_err_and c.from_residual-in_err-send.result c.from_residual-in_err-send.ensures.1 in
    front_lost t.made c.args.minute (t.bits c.args.tracker.now) c.args.tracker.now c.args.tracker.now (k.written c.args.sink.now) (k.written c.send.new.sink)
    c.as_slice.result.now c.send.result c.from_residual-in_err-send.result _ came.0 (c.as_slice.ensures.value ∙ c.in_ok-front.ensures) (c.in_err-send.was {u = tt}) c.send.ensures.sent came.1

pub returns-in_err-tell_parts-clause-told : goal.returns-in_err-tell_parts-clause-told
returns-in_err-tell_parts-clause-told g c =
    let t = g.T.Tracker in
    let k = g.K.Sink in
    let came = err_from_is_err_and c.from_residual-in_err-tell_parts.result c.from_residual-in_err-tell_parts.ensures.1 in
    parts_lost t.made c.args.minute (t.bits c.args.tracker.now) c.args.tracker.now c.tell_parts.new.tracker (k.written c.args.sink.now) (k.written c.send.new.sink) (k.written c.tell_parts.new.sink)
    c.as_slice.result.now c.tell_parts.result c.from_residual-in_err-tell_parts.result _ came.0 (c.as_slice.ensures.value ∙ c.in_ok-front.ensures) c.in_ok-send.ensures.sent
    (c.in_err-tell_parts.was {u = tt}) c.tell_parts.ensures.told came.1

pub returns-clause-told : goal.returns-clause-told
returns-clause-told g c =
    let t = g.T.Tracker in
    let k = g.K.Sink in
    back_sent t.made c.args.minute (t.bits c.args.tracker.now) c.args.tracker.now c.tell_parts.new.tracker
    (k.written c.args.sink.now) (k.written c.send.new.sink) (k.written c.tell_parts.new.sink) (k.written c.send-2.new.sink)
    c.as_slice.result.now c.end.result.now c.send-2.result (c.as_slice.ensures.value ∙ c.in_ok-front.ensures) c.end.ensures c.in_ok-send.ensures.sent c.in_ok-tell_parts.ensures.told c.send-2.ensures.sent
