use Rattle.offline.proofs.Adding.{on_err}
use Rattle.offline.proofs.FullLemmas.{back_added, back_lost, back_lost_late}
use Rattle.offline.proofs.full.add_back.Goals as goal

pub returns-in_err-add_digits-clause-lost : goal.returns-in_err-add_digits-clause-lost
returns-in_err-add_digits-clause-lost g c =
    on_err c.from_residual.result (back_lost _ _ c.args.replies.now c.end.result.now c.end.ensures c.in_err-add_digits.ensures.lost)

pub returns-clause-added : goal.returns-clause-added
returns-clause-added g c =
    back_added _ _ _ c.args.replies.now c.add_digits.new.replies c.add.new.self c.end.result.now c.add.result c.end.ensures c.in_ok-add_digits.ensures.added c.add.ensures.added

pub returns-clause-lost : goal.returns-clause-lost
returns-clause-lost g c =
    back_lost_late _ _ _ c.args.replies.now c.add_digits.new.replies c.end.result.now c.add.result c.end.ensures c.in_ok-add_digits.ensures.added c.add.ensures.lost
