-- The ring has the endpoint and the stamp, and the flag is what the index tells.
use Rattle.swarm.specs.Index.{place_in}
use Rattle.swarm.proofs.FlagLemmas.{peer_flagged}
use Rattle.swarm.proofs.members.Members.at.Goals as goal

pub returns : goal.returns
returns c =
    let k = c.self.inside in
    rw (← c.self.view_is) (peer_flagged (place_in k.index) k.order.pairs k.flags.items c.args.i c.item.result c.stamp.result c.index.result.now c.index.result.now c.self.invariant.flagged c.item.ensures c.stamp.ensures c.index.ensures)
