use Rattle.std.proofs.Common.{◌∙◌, [], ◌++◌, refl}
use Rattle.std.proofs.lemmas.Result.{err_from_is_err_and}
use Rattle.lines.proofs.ReplyLemmas.{Adds-none, Adds-trans}
use Rattle.hex.specs.Hex.{encode_lower}
use Rattle.offline.proofs.Adding.{later_none, later_trans}
use Rattle.offline.proofs.FullLemmas.{parts_write_failed, tells_next, tells_none}
use Rattle.offline.proofs.full.add_parts.Goals as goal

pub buckets-init : goal.buckets-init
buckets-init g c = record {
  settings = refl;
  bits = refl;
  told = ([], tells_none c.args.minute c.args.shelf.now, Adds-none _ c.args.replies.now);
  later = later_none g.O.Sink.faults g.O.Sink.aside c.args.out.now;
}

pub returns-in_err-add_digits-clause-added : goal.returns-in_err-add_digits-clause-added
returns-in_err-add_digits-clause-added g c =
    let so_far = c.buckets.invariant.told in
    let part = c.in_ok-part.ensures.told in
    let came = err_from_is_err_and c.from_residual-in_err-add_digits.result c.from_residual-in_err-add_digits.ensures.1 in
    parts_write_failed c.args.minute c.buckets.bucket c.args.shelf.now c.buckets.shelf c.full_part.new.tracker _ _ _ c.args.replies.now c.buckets.replies c.add_digits.new.replies
    so_far.0 c.as_slice.result.now part.0 _ _ so_far.1 so_far.2 part.1 (c.as_slice.ensures ∙ part.2) c.in_err-add_digits.ensures.lost came.1 came.2

pub buckets-preserved : goal.buckets-preserved
buckets-preserved g c =
    let so_far = c.buckets.invariant.told in
    let part = c.in_ok-part.ensures.told in record {
      settings = c.in_ok-part.ensures.settings ∙ c.buckets.invariant.settings;
      bits = c.in_ok-part.ensures.bits ∙ c.buckets.invariant.bits;
      told = (
        so_far.0 ++ encode_lower c.as_slice.result.now,
        tells_next c.args.minute c.buckets.bucket c.args.shelf.now c.buckets.shelf c.full_part.new.tracker so_far.0 c.as_slice.result.now part.0 so_far.1 part.1 (c.as_slice.ensures ∙ part.2),
        Adds-trans _ _ _ c.args.replies.now c.buckets.replies c.add_digits.new.replies so_far.0 (encode_lower c.as_slice.result.now) so_far.2 c.in_ok-add_digits.ensures.added,
      );
      later = later_trans g.O.Sink.faults g.O.Sink.aside c.args.out.now c.buckets.out c.add_digits.new.out c.buckets.invariant.later c.in_ok-add_digits.ensures.later;
    }
