use Rattle.std.proofs.Common.{◌∙◌}
use Rattle.std.proofs.lemmas.Result.{err_from_is_err_and}
use Rattle.offline.proofs.FullLemmas.{front_added, front_lost, front_lost_in_body, front_lost_in_head, front_write_failed}
use Rattle.offline.proofs.full.add_front.Goals as goal

pub returns-in_err-add-clause-added : goal.returns-in_err-add-clause-added
returns-in_err-add-clause-added g c =
    let came = err_from_is_err_and c.from_residual-in_err-add.result c.from_residual-in_err-add.ensures.1 in
    front_write_failed _ _ c.args.replies.now c.add.new.self _ _ came.1 came.2
    (front_lost _ _ c.args.replies.now c.in_err-add.ensures.lost)

pub returns-in_err-add_digits-clause-added : goal.returns-in_err-add_digits-clause-added
returns-in_err-add_digits-clause-added g c =
    let came = err_from_is_err_and c.from_residual-in_err-add_digits.result c.from_residual-in_err-add_digits.ensures.1 in
    front_write_failed _ _ c.args.replies.now c.add_digits.new.replies _ _ came.1 came.2
    (front_lost_in_head _ _ _ c.args.replies.now c.add.new.self c.as_slice.result.now (c.as_slice.ensures ∙ c.in_ok-head.ensures) c.in_ok-add.ensures.added c.in_err-add_digits.ensures.lost)

pub returns-in_err-add_digits-2-clause-added : goal.returns-in_err-add_digits-2-clause-added
returns-in_err-add_digits-2-clause-added g c =
    let came = err_from_is_err_and c.from_residual-in_err-add_digits-2.result c.from_residual-in_err-add_digits-2.ensures.1 in
    front_write_failed _ _ c.args.replies.now c.add_digits-2.new.replies _ _ came.1 came.2
    (front_lost_in_body _ _ _ _ c.args.replies.now c.add.new.self c.add_digits.new.replies c.as_slice.result.now c.begin.result.now (c.as_slice.ensures ∙ c.in_ok-head.ensures) c.begin.ensures
    c.in_ok-add.ensures.added c.in_ok-add_digits.ensures.added c.in_err-add_digits-2.ensures.lost)

pub returns-clause-added : goal.returns-clause-added
returns-clause-added g c =
    front_added _ _ _ _ c.args.replies.now c.add.new.self c.add_digits.new.replies c.add_digits-2.new.replies c.as_slice.result.now c.begin.result.now (c.as_slice.ensures ∙ c.in_ok-head.ensures) c.begin.ensures
    c.in_ok-add.ensures.added c.in_ok-add_digits.ensures.added c.in_ok-add_digits-2.ensures.added
