use Rattle.turn_lock.proofs.LawLemmas.{none_added}
use Rattle.turn_lock.proofs.laws.none_is_added.Goals as goal

pub returns : goal.returns
returns c = none_added
