use Rattle.tracker_model.proofs.OutboxLemmas.{keeps_all, keeps_few, drops_others}
use Rattle.tracker_model.proofs.laws.room_for_notes.Goals as goal

pub returns-clause-all : goal.returns-clause-all
returns-clause-all c = keeps_all

pub returns-clause-no_more : goal.returns-clause-no_more
returns-clause-no_more c = keeps_few

pub returns-clause-others : goal.returns-clause-others
returns-clause-others c = drops_others
