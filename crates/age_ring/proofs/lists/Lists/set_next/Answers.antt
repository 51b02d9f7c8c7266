-- Writing one link changes nothing else.
use Rattle.age_ring.proofs.Nodes.{sets_next}
use Rattle.age_ring.proofs.lists.Lists.set_next.Goals as goal

pub returns-else-prev-eq-NO_PLACE-clause-nodes : goal.returns-else-prev-eq-NO_PLACE-clause-nodes
returns-else-prev-eq-NO_PLACE-clause-nodes g c =
    sets_next c.args.self.now.nodes.nodes c.write.new.self.nodes c.args.prev c.args.next c.read-node.result c.read-node.ensures.value c.write.ensures.nodes
