use Rattle.std.proofs.lemmas.Result.{err_from_is_err_and}
use Rattle.offline.proofs.FullLemmas.{all_added, back_failed, front_failed, parts_failed}
use Rattle.offline.proofs.full.add_full_line.Goals as goal

pub returns-in_err-add_front-clause-responds : goal.returns-in_err-add_front-clause-responds
returns-in_err-add_front-clause-responds g c =
    let came = err_from_is_err_and c.from_residual.result c.from_residual.ensures.1 in
    λ line. front_failed c.args.minute c.args.shelf.now c.args.shelf.now line _ _ c.args.replies.now c.add_front.new.replies c.add_front.result _ _ _
    (c.in_err-add_front.was {u = tt}) c.add_front.ensures.added came.1 came.2

pub returns-in_err-add_parts-clause-responds : goal.returns-in_err-add_parts-clause-responds
returns-in_err-add_parts-clause-responds g c =
    let came = err_from_is_err_and c.from_residual-in_err-add_parts.result c.from_residual-in_err-add_parts.ensures.1 in
    λ line. parts_failed c.args.minute c.args.shelf.now c.add_parts.new.shelf line _ _ _ c.args.replies.now c.add_front.new.replies c.add_parts.new.replies c.add_parts.result _ _ _
    c.in_ok-add_front.ensures.added (c.in_err-add_parts.was {u = tt}) c.add_parts.ensures.added came.1 came.2

pub returns-in_err-add_back-clause-responds : goal.returns-in_err-add_back-clause-responds
returns-in_err-add_back-clause-responds g c =
    let came = err_from_is_err_and c.from_residual-in_err-add_back.result c.from_residual-in_err-add_back.ensures.1 in
    let parts = c.in_ok-add_parts.ensures.added in
    λ line. back_failed c.args.minute c.args.shelf.now c.add_parts.new.shelf line _ _ _ _ c.args.replies.now c.add_front.new.replies c.add_parts.new.replies c.add_back.new.replies parts.0 _ _
    c.in_ok-add_front.ensures.added parts.1 parts.2 c.in_err-add_back.ensures.lost came.1 came.2

pub returns-clause-responds : goal.returns-clause-responds
returns-clause-responds g c =
    let parts = c.in_ok-add_parts.ensures.added in
    λ line. all_added c.args.minute c.args.shelf.now c.add_parts.new.shelf line _ _ _ _ c.args.replies.now c.add_front.new.replies c.add_parts.new.replies c.add_back.new.replies parts.0
    c.in_ok-add_front.ensures.added parts.1 parts.2 c.in_ok-add_back.ensures.added
