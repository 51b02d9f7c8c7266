-- The parts of the node that was read.
use Rattle.age_ring.proofs.Nodes.{item_at, stamp_in}
use Rattle.age_ring.proofs.lists.Lists.pair.Goals as goal

pub returns-clause-item : goal.returns-clause-item
returns-clause-item g c = item_at c.args.self.now.nodes.nodes c.args.i c.read-node.result c.read-node.ensures.value

pub returns-clause-stamp : goal.returns-clause-stamp
returns-clause-stamp g c = stamp_in c.args.self.now.nodes.nodes c.args.i c.read-node.result c.read-node.ensures.value
