-- One more write: what it took stands after what was sent before.
use Rattle.std.proofs.Common.{◌∙◌, arith, length-drop}
use Rattle.std.proofs.Math.Seq.{take-add}
use Rattle.std.proofs.lemmas.List.{take_rest}
use Rattle.std.proofs.KnownBytes.{Appends-trans}
use Rattle.ot_io.proofs.sink.send_all.Goals as goal

pub loop-sent-preserved : goal.loop-sent-preserved
loop-sent-preserved g c =
    let taken = rw (take_rest c.args.bytes.now c.loop-sent.sent) at c.in-Took.ensures.taken in
    record {
      within = omega (arith, length-drop c.loop-sent.sent c.args.bytes.now, taken.1);
      appended = rw take-add (Appends-trans _ _ _ _ _ c.loop-sent.invariant.appended taken.2);
      counted = omega (arith, c.loop-sent.invariant.counted, c.in-Took.ensures.failed);
      aside = c.write.ensures.aside ∙ c.loop-sent.invariant.aside;
      nothing = λ none. absurd (omega (arith, taken.0));
    }
