use Rattle.swarm.proofs.FoundLemmas.{found_expired}
use Rattle.swarm.proofs.laws.found_after_advance.Goals as goal

pub returns : goal.returns
returns c = found_expired
