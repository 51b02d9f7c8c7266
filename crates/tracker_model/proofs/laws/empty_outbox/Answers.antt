use Rattle.tracker_model.proofs.OutboxLemmas.{drained_notes, drained_dropped}
use Rattle.tracker_model.proofs.laws.empty_outbox.Goals as goal

pub returns-clause-drained : goal.returns-clause-drained
returns-clause-drained c = drained_notes

pub returns-clause-none_dropped : goal.returns-clause-none_dropped
returns-clause-none_dropped c = drained_dropped
