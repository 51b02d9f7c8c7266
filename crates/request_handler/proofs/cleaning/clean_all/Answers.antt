use Rattle.std.proofs.Common.{◌+◌, [], ◌∷◌, ◌++◌, ◌∙◌, refl, sym, ap, arith}
use Rattle.std.specs.Prelude.{Some}
use Rattle.tracker_model.specs.declared.answer.Answer.TheVariants.{Cleaned}
use Rattle.tracker_model.specs.declared.call.Call.TheVariants.{Clean}
use Rattle.request_handler.proofs.EachBucket.{held_sum-push, makes_next}
use Rattle.request_handler.proofs.cleaning.clean_all.Goals as goal

pub buckets-preserved : goal.buckets-preserved
buckets-preserved g c =
    let t = g.T.Tracker in
    let before = c.buckets.invariant in
    let held = c.clean.result in record {
      settings = c.clean.ensures.settings ∙ before.settings;
      bits = c.clean.ensures.bits ∙ before.bits;
      cleaned = record {
        answers = before.cleaned.answers ++ Cleaned held ∷ [];
        makes = makes_next t.made c.args.minute c.args.tracker.now c.buckets.tracker c.clean.new.self c.buckets.bucket Clean before.cleaned.answers (Cleaned held) before.cleaned.makes c.clean.ensures.made;
        came = held_sum-push before.cleaned.answers c.buckets.left (Cleaned held) held before.cleaned.came refl ∙ ap (λ n. Some (c.buckets.left + n)) (sym c.from-left.ensures);
      };
      bounded = omega arith;
    }
