use Rattle.std.proofs.Common.{[], take, refl, inl}
use Rattle.std.specs.Prelude.{option_copied}
use Rattle.lines.proofs.ReplyLemmas.{Adds-none}
use Rattle.trace_text.specs.Trace.{arrival_in}
use Rattle.offline.specs.Follows.{AnswersAt, RefusesRecord}
use Rattle.offline.proofs.Following.{answers_datagram, write_failed}
use Rattle.offline.proofs.answerer.Answerer.answer_datagram.Goals as goal

pub returns-in_default-clause-responds : goal.returns-in_default-clause-responds
returns-in_default-clause-responds g c = λ line read. ([], inl refl, Adds-none _ c.args.replies.now)

pub returns-in_err-add-clause-responds : goal.returns-in_err-add-clause-responds
returns-in_err-add-clause-responds g c = λ line read.
    write_failed (AnswersAt c.args.self.now.settings (option_copied c.args.access)) RefusesRecord c.args.self.now.shelf c.carry_out-outcome.new.tracker line
    (take c.in-Some.len c.write_outcome.new.out) _ _ c.args.replies.now c.add.new.self c.from_residual.result c.from_residual.ensures.1
    (answers_datagram c.args.self.now.settings (option_copied c.args.access) c.args.self.now.shelf c.carry_out-outcome.new.tracker line _ (arrival_in c.args.received c.args.self.now.bytes)
    c.of_seconds-minute.result c.plan_udp-plan.result c.carry_out-outcome.new.reply c.carry_out-outcome.result
    c.requires.of read c.of_seconds-minute.ensures c.plan_udp-plan.ensures.planned c.carry_out-outcome.ensures.carried c.in-Some.ensures.line)
    c.in_err-add.ensures.lost

pub returns-clause-responds : goal.returns-clause-responds
returns-clause-responds g c = λ line read. (
  take c.in-Some.len c.write_outcome.new.out,
  answers_datagram c.args.self.now.settings (option_copied c.args.access) c.args.self.now.shelf c.carry_out-outcome.new.tracker line _ (arrival_in c.args.received c.args.self.now.bytes)
      c.of_seconds-minute.result c.plan_udp-plan.result c.carry_out-outcome.new.reply c.carry_out-outcome.result
      c.requires.of read c.of_seconds-minute.ensures c.plan_udp-plan.ensures.planned c.carry_out-outcome.ensures.carried c.in-Some.ensures.line,
  c.in_ok-add.ensures.added,
)
