use Rattle.swarm.proofs.FoundLemmas.{found_take}
use Rattle.swarm.proofs.laws.found_after_take.Goals as goal

pub returns : goal.returns
returns c = found_take
