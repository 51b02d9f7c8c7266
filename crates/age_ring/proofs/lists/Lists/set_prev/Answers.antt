-- Writing one link changes nothing else.
use Rattle.age_ring.proofs.Nodes.{sets_prev}
use Rattle.age_ring.proofs.lists.Lists.set_prev.Goals as goal

pub returns-then-next-ne-NO_PLACE-clause-nodes : goal.returns-then-next-ne-NO_PLACE-clause-nodes
returns-then-next-ne-NO_PLACE-clause-nodes g c =
    sets_prev c.args.self.now.nodes.nodes c.write.new.self.nodes c.args.next c.args.prev c.read-node.result c.read-node.ensures.value c.write.ensures.nodes
