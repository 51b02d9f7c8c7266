-- No more seeds than peers.
use Rattle.std.proofs.Common.{arith}
use Rattle.swarm.specs.Index.{place_in}
use Rattle.swarm.specs.Members.{peers_by}
use Rattle.swarm.proofs.PlaceLemmas.{seeds_within}
use Rattle.swarm.proofs.members.Members.seeds.Goals as goal

pub returns-clause-within : goal.returns-clause-within
returns-clause-within c =
    let k = c.self.inside in
    rw (← c.self.view_is) (omega (arith, c.self.invariant.seeds_counted, seeds_within (peers_by (place_in k.index) k.order.pairs)))
