use Rattle.sync_wire.proofs.BatchAgain.{batch_again, length-batch}
use Rattle.sync_wire.proofs.laws.batch_is_read_again.Goals as goal

pub returns-clause-again : goal.returns-clause-again
returns-clause-again c = batch_again

pub returns-clause-len : goal.returns-clause-len
returns-clause-len c = length-batch
