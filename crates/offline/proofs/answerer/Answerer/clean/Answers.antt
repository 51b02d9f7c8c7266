use Rattle.std.proofs.Common.{take}
use Rattle.offline.specs.Follows.{AnswersAt, RefusesRecord}
use Rattle.offline.proofs.Following.{answers_cleaning, write_failed}
use Rattle.offline.proofs.answerer.Answerer.clean.Goals as goal

pub returns-in_err-add-clause-responds : goal.returns-in_err-add-clause-responds
returns-in_err-add-clause-responds g c = λ line access read.
    write_failed (AnswersAt c.args.self.now.settings access) RefusesRecord c.args.self.now.shelf c.clean_all-held.new.tracker line
    (take c.write_cleaned_line-len.result c.write_cleaned_line-len.new.out) _ _ c.args.replies.now c.add.new.self c.from_residual.result c.from_residual.ensures.1
    (answers_cleaning c.args.self.now.settings access c.args.self.now.shelf c.clean_all-held.new.tracker line _ c.args.seconds c.of_seconds.result c.clean_all-held.result
    c.write_cleaned_line-len.ensures.line c.requires.of read c.of_seconds.ensures c.clean_all-held.ensures.cleaned)
    c.in_err-add.ensures.lost

pub returns-clause-responds : goal.returns-clause-responds
returns-clause-responds g c = λ line access read. (
  take c.write_cleaned_line-len.result c.write_cleaned_line-len.new.out,
  answers_cleaning c.args.self.now.settings access c.args.self.now.shelf c.clean_all-held.new.tracker line _ c.args.seconds c.of_seconds.result c.clean_all-held.result
      c.write_cleaned_line-len.ensures.line c.requires.of read c.of_seconds.ensures c.clean_all-held.ensures.cleaned,
  c.in_ok-add.ensures.added,
)
