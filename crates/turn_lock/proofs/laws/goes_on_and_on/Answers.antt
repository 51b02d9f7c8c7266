use Rattle.turn_lock.proofs.LawLemmas.{goes_twice}
use Rattle.turn_lock.proofs.laws.goes_on_and_on.Goals as goal

pub returns : goal.returns
returns c = goes_twice
