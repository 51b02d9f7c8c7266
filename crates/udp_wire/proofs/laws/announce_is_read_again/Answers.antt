use Rattle.udp_wire.proofs.ReplyAgain.{announce_again, announce_fits}
use Rattle.udp_wire.proofs.laws.announce_is_read_again.Goals as goal

pub returns-clause-again : goal.returns-clause-again
returns-clause-again c = announce_again

pub returns-clause-fits : goal.returns-clause-fits
returns-clause-fits c = announce_fits
