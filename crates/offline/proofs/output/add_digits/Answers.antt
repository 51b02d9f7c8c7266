use Rattle.std.proofs.Common.{[], ◌++◌, append_assoc, refl, sym, ◌∙◌}
use Rattle.offline.proofs.Adding.{cut_again, digits_added, digits_lost, later_none, later_trans, none_added, on_err}
use Rattle.offline.proofs.output.add_digits.Goals as goal

pub loop-rest-init : goal.loop-rest-init
loop-rest-init g c = (([], refl, none_added _ c.args.replies.now), later_none g.O.Sink.faults g.O.Sink.aside c.args.out.now)

pub returns-in_err-add-clause-lost : goal.returns-in_err-add-clause-lost
returns-in_err-add-clause-lost g c =
    let so_far = c.loop-rest.invariant.0 in
    let piece = c.split_at.result.0.now in
    let after = c.split_at.result.1.now in
    on_err c.from_residual.result
    (digits_lost _ _ _ c.args.replies.now c.loop-rest.replies c.args.bytes.now so_far.0 piece after _
    (cut_again c.args.bytes.now so_far.0 c.loop-rest.rest.now piece after _ so_far.1 c.split_at.ensures.front c.split_at.ensures.back)
    so_far.2 c.encode_digits.ensures c.in_err-add.ensures.lost)

pub loop-rest-preserved : goal.loop-rest-preserved
loop-rest-preserved g c =
    let so_far = c.loop-rest.invariant.0 in
    let piece = c.split_at.result.0.now in
    let after = c.split_at.result.1.now in (
      (
        so_far.0 ++ piece,
        cut_again c.args.bytes.now so_far.0 c.loop-rest.rest.now piece after _ so_far.1 c.split_at.ensures.front c.split_at.ensures.back
            ∙ sym (append_assoc so_far.0 piece after),
        digits_added _ _ _ c.args.replies.now c.loop-rest.replies c.add.new.self so_far.0 piece _ so_far.2 c.encode_digits.ensures c.in_ok-add.ensures.added,
      ),
      later_trans g.O.Sink.faults g.O.Sink.aside c.args.out.now c.loop-rest.out c.add.new.out c.loop-rest.invariant.1 c.in_ok-add.ensures.later,
    )
