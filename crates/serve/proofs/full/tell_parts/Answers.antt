use Rattle.std.proofs.Common.{◌∙◌, arith, refl}
use Rattle.std.proofs.lemmas.Result.{err_from_is_err_and}
use Rattle.serve.proofs.FullLemmas.{counted_on, first_next, first_none, parts_stopped}
use Rattle.serve.proofs.full.tell_parts.Goals as goal

pub buckets-init : goal.buckets-init
buckets-init g c = record {
  settings = refl;
  bits = refl;
  told = first_none g.T.Tracker.made c.args.minute c.args.tracker.now (g.K.Sink.written c.args.sink.now);
  counted = omega arith;
  aside = refl;
}

pub returns-in_err-tell_part-clause-told : goal.returns-in_err-tell_part-clause-told
returns-in_err-tell_part-clause-told g c =
    let t = g.T.Tracker in
    let k = g.K.Sink in
    let came = err_from_is_err_and c.from_residual.result c.from_residual.ensures.1 in
    parts_stopped t.made c.args.minute c.args.tracker.now (t.bits c.args.tracker.now) c.buckets.bucket c.buckets.tracker c.tell_part.new.tracker
    (k.written c.args.sink.now) (k.written c.buckets.sink) (k.written c.tell_part.new.sink) c.tell_part.result c.from_residual.result _ came.0
    (omega (arith, c.bucket_count-bucket-end.ensures)) c.buckets.invariant.told (c.in_err-tell_part.was {u = tt}) c.tell_part.ensures.told came.1

pub returns-in_err-tell_part-clause-faults : goal.returns-in_err-tell_part-clause-faults
returns-in_err-tell_part-clause-faults g c =
    let k = g.K.Sink in
    let came = err_from_is_err_and c.from_residual.result c.from_residual.ensures.1 in
    counted_on (k.faults c.args.sink.now) (k.faults c.buckets.sink) (k.faults c.tell_part.new.sink) c.tell_part.result c.from_residual.result _ came.0
    c.buckets.invariant.counted (c.in_err-tell_part.was {u = tt}) c.tell_part.ensures.faults came.1 came.2

pub buckets-preserved : goal.buckets-preserved
buckets-preserved g c =
    let t = g.T.Tracker in
    let k = g.K.Sink in
    let before = c.buckets.invariant in
    let part = c.in_ok-tell_part.ensures in record {
      settings = part.settings ∙ before.settings;
      bits = part.bits ∙ before.bits;
      told = first_next t.made c.args.minute c.args.tracker.now c.buckets.bucket c.buckets.tracker c.tell_part.new.tracker
          (k.written c.args.sink.now) (k.written c.buckets.sink) (k.written c.tell_part.new.sink) before.told part.told;
      counted = omega (arith, before.counted, part.faults);
      aside = part.aside ∙ before.aside;
    }
