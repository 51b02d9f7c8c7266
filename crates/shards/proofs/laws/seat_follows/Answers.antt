use Rattle.shards.proofs.PassingLemmas.{made_by_follows}
use Rattle.shards.proofs.laws.seat_follows.Goals as goal

pub returns : goal.returns
returns g c = made_by_follows (λ seat. seat.pass.now) (λ seat. seat.pass.ghost_name)
