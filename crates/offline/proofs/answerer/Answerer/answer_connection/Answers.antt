use Rattle.std.proofs.Common.{refl}
use Rattle.std.specs.Prelude.{option_copied}
use Rattle.trace_text.specs.Trace.{arrival_in}
use Rattle.offline.specs.Follows.{AnswersAt, RefusesRecord}
use Rattle.offline.specs.Full.{TellsAllAt}
use Rattle.offline.specs.Records.{sent_line}
use Rattle.offline.proofs.Following.{answers_connection, answers_full, memory_wanted, responds_by, write_failed}
use Rattle.offline.proofs.answerer.Answerer.answer_connection.Goals as goal

pub returns-in_err-plan-clause-responds : goal.returns-in_err-plan-clause-responds
returns-in_err-plan-clause-responds g c = λ line read.
    memory_wanted (AnswersAt c.args.self.now.settings (option_copied c.args.access)) RefusesRecord c.args.self.now.shelf c.args.self.now.shelf line _ c.args.replies.now
    c.from_residual.result c.from_residual.ensures.1

pub returns-then-asks_for_all-clause-responds : goal.returns-then-asks_for_all-clause-responds
returns-then-asks_for_all-clause-responds g c = λ line read.
    responds_by (TellsAllAt c.of_seconds-minute.result) (λ _ _ _. ⊥) (AnswersAt c.args.self.now.settings (option_copied c.args.access)) RefusesRecord (λ shelf. shelf)
    c.args.self.now.shelf c.args.self.now.shelf line
    (answers_full c.args.self.now.settings (option_copied c.args.access) c.args.self.now.shelf line (arrival_in c.args.received c.args.self.now.bytes) c.of_seconds-minute.result c.in_ok-plan.plan
    c.requires.of read c.of_seconds-minute.ensures c.in_ok-plan.ensures.planned (c.if-asks_for_all.ensures.all refl))
    (λ why none. absurd none)
    c.add_full_line.new.shelf _ _ c.args.replies.now c.add_full_line.new.replies c.add_full_line.result (c.add_full_line.ensures.responds line)

pub returns-in_err-sent-clause-responds : goal.returns-in_err-sent-clause-responds
returns-in_err-sent-clause-responds g c = λ line read.
    memory_wanted (AnswersAt c.args.self.now.settings (option_copied c.args.access)) RefusesRecord c.args.self.now.shelf c.serve.new.tracker line _ c.args.replies.now
    c.from_residual-in_err-sent.result c.from_residual-in_err-sent.ensures.1

pub returns-in_err-add_sent_line-clause-responds : goal.returns-in_err-add_sent_line-clause-responds
returns-in_err-add_sent_line-clause-responds g c = λ line read.
    write_failed (AnswersAt c.args.self.now.settings (option_copied c.args.access)) RefusesRecord c.args.self.now.shelf c.serve.new.tracker line (sent_line c.in_ok-sent.sent) _ _ c.args.replies.now
    c.add_sent_line.new.replies c.from_residual-in_err-add_sent_line.result c.from_residual-in_err-add_sent_line.ensures.1
    (answers_connection c.args.self.now.settings (option_copied c.args.access) c.args.self.now.shelf c.serve.new.tracker line (arrival_in c.args.received c.args.self.now.bytes)
    c.of_seconds-minute.result c.in_ok-plan.plan c.in_ok-sent.sent c.requires.of read c.of_seconds-minute.ensures c.in_ok-plan.ensures.planned c.in_ok-sent.ensures.served)
    c.in_err-add_sent_line.ensures.lost

pub returns-clause-responds : goal.returns-clause-responds
returns-clause-responds g c = λ line read. (
  sent_line c.in_ok-sent.sent,
  answers_connection c.args.self.now.settings (option_copied c.args.access) c.args.self.now.shelf c.serve.new.tracker line (arrival_in c.args.received c.args.self.now.bytes)
      c.of_seconds-minute.result c.in_ok-plan.plan c.in_ok-sent.sent c.requires.of read c.of_seconds-minute.ensures c.in_ok-plan.ensures.planned c.in_ok-sent.ensures.served,
  c.in_ok-add_sent_line.ensures.added,
)
