use Rattle.udp_wire.proofs.ReplyAgain.{error_again, error_fits}
use Rattle.udp_wire.proofs.laws.error_is_read_again.Goals as goal

pub returns-clause-again : goal.returns-clause-again
returns-clause-again c = error_again

pub returns-clause-fits : goal.returns-clause-fits
returns-clause-fits c = error_fits
