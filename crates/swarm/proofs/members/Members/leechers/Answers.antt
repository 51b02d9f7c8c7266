-- Seeds and others are all the peers.
use Rattle.std.proofs.Common.{arith}
use Rattle.std.proofs.lemmas.List.{length-map}
use Rattle.swarm.specs.Index.{place_in}
use Rattle.swarm.specs.Members.{held_by, peers_by}
use Rattle.swarm.proofs.PlaceLemmas.{seeds_and_others}
use Rattle.swarm.proofs.members.Members.leechers.Goals as goal

pub overflow_sub-result : goal.overflow_sub-result
overflow_sub-result c =
    let k = c.self.inside in
    omega (arith, c.len.ensures.len, c.self.invariant.seeds_counted, seeds_and_others (peers_by (place_in k.index) k.order.pairs), length-map k.order.pairs (held_by (place_in k.index)))

pub returns-clause-leechers : goal.returns-clause-leechers
returns-clause-leechers c =
    let k = c.self.inside in
    rw (← c.self.view_is) (omega (arith, c.len.ensures.len, c.self.invariant.seeds_counted, seeds_and_others (peers_by (place_in k.index) k.order.pairs), length-map k.order.pairs (held_by (place_in k.index))))

pub returns-clause-within : goal.returns-clause-within
returns-clause-within c =
    let k = c.self.inside in
    rw (← c.self.view_is) (omega (arith, c.len.ensures.len, length-map k.order.pairs (held_by (place_in k.index))))
