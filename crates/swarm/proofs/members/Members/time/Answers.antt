-- The index lets no endpoint stand twice, and the ring no old one.
use Rattle.std.proofs.Common.{ℕ, subst}
use Rattle.std.specs.List.{All}
use Rattle.age_ring.specs.Ring.{IsYoung}
use Rattle.swarm.specs.Index.{place_in}
use Rattle.swarm.proofs.ExpireLemmas.{orderly}
use Rattle.swarm.proofs.members.Members.time.Goals as goal

pub returns-clause-orderly : goal.returns-clause-orderly
returns-clause-orderly c =
    let k = c.self.inside in
    let P : ℕ → Type 0 = λ a. All (IsYoung a k.order.time) k.order.pairs in
    rw (← c.self.view_is) (orderly (place_in k.index) k.order.pairs k.order.time c.self.invariant.indexed c.time.ensures.past (subst P c.self.invariant.ages c.time.ensures.young))
