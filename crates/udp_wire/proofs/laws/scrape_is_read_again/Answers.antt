use Rattle.udp_wire.proofs.ReplyAgain.{scrape_again, scrape_fits}
use Rattle.udp_wire.proofs.laws.scrape_is_read_again.Goals as goal

pub returns-clause-again : goal.returns-clause-again
returns-clause-again c = scrape_again

pub returns-clause-fits : goal.returns-clause-fits
returns-clause-fits c = scrape_fits
