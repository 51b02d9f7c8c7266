use Rattle.std.proofs.Common.{sym, ◌∙◌, ap}
use Rattle.std.specs.Prelude.{option_copied}
use Rattle.offline.specs.declared.phase.Phase.TheVariants as phase
use Rattle.offline.proofs.Following.{list_responds, record_responds}
use Rattle.offline.proofs.replay.ReplayResponder.respond.Goals as goal

pub returns-in-Listing-clause-responds : goal.returns-in-Listing-clause-responds
returns-in-Listing-clause-responds g c =
    list_responds c.args.self.now c.self.inside.answerer.settings c.self.inside.answerer.shelf c.self.inside.phase c.take_list_line.new.self c.args.line.now _ c.args.replies.now c.take_list_line.result
    c.self.view_is c.take_list_line.ensures

pub returns-in-Answering-clause-responds : goal.returns-in-Answering-clause-responds
returns-in-Answering-clause-responds g c =
    record_responds c.args.self.now c.self.inside.answerer.settings c.answer.new.self.settings c.self.inside.answerer.shelf c.answer.new.self.shelf (option_copied c.as_ref.result) c.self.inside.phase
    c.args.line.now _ _ c.args.replies.now c.answer.new.replies c.answer.result
    c.self.view_is (c.in-Answering.is ∙ ap phase.Answering (sym c.as_ref.ensures.value)) c.answer.ensures.settings c.answer.ensures.responds
