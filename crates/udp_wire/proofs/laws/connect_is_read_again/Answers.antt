use Rattle.udp_wire.proofs.ReplyAgain.{connect_again, connect_fits}
use Rattle.udp_wire.proofs.laws.connect_is_read_again.Goals as goal

pub returns-clause-again : goal.returns-clause-again
returns-clause-again c = connect_again

pub returns-clause-fits : goal.returns-clause-fits
returns-clause-fits c = connect_fits
