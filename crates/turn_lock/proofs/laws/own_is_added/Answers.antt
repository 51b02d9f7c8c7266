use Rattle.turn_lock.proofs.LawLemmas.{own_added}
use Rattle.turn_lock.proofs.laws.own_is_added.Goals as goal

pub returns : goal.returns
returns c = own_added
