use Rattle.swarm.proofs.FoundLemmas.{found_put}
use Rattle.swarm.proofs.laws.found_after_put.Goals as goal

pub returns : goal.returns
returns c = found_put
