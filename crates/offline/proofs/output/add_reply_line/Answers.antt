use Rattle.offline.proofs.Adding.{first_lost, last_lost, line_added, middle_lost, on_err}
use Rattle.offline.proofs.output.add_reply_line.Goals as goal

pub returns-in_err-add-clause-lost : goal.returns-in_err-add-clause-lost
returns-in_err-add-clause-lost g c = on_err c.from_residual.result (first_lost _ _ c.args.replies.now c.args.reply.now c.in_err-add.ensures.lost)

pub returns-in_err-add_digits-clause-lost : goal.returns-in_err-add_digits-clause-lost
returns-in_err-add_digits-clause-lost g c =
    on_err c.from_residual-in_err-add_digits.result
    (middle_lost _ _ _ c.args.replies.now c.add.new.self c.args.reply.now c.in_ok-add.ensures.added c.in_err-add_digits.ensures.lost)

pub returns-clause-added : goal.returns-clause-added
returns-clause-added g c =
    line_added _ _ _ _ c.args.replies.now c.add.new.self c.add_digits.new.replies c.add-2.new.self c.args.reply.now c.add-2.result
    c.in_ok-add.ensures.added c.in_ok-add_digits.ensures.added c.add-2.ensures.added

pub returns-clause-lost : goal.returns-clause-lost
returns-clause-lost g c =
    last_lost _ _ _ _ c.args.replies.now c.add.new.self c.add_digits.new.replies c.args.reply.now c.add-2.result
    c.in_ok-add.ensures.added c.in_ok-add_digits.ensures.added c.add-2.ensures.lost
