-- The neighbours name each other.
use Rattle.std.proofs.Common.{◌∙◌, arith}
use Rattle.age_ring.proofs.Nodes.{unlinked_nodes, linked_prev, linked_next, item_at, length_as_pairs}
use Rattle.age_ring.proofs.lists.Lists.unlink.Goals as goal

pub set_next-requires-clause-within : goal.set_next-requires-clause-within
set_next-requires-clause-within g c =
    linked_prev c.args.self.now.nodes.nodes c.args.self.now.heads.items c.args.i c.read-node.result c.requires.linked c.read-node.ensures.value

pub set_prev-requires-clause-within : goal.set_prev-requires-clause-within
set_prev-requires-clause-within g c = λ some.
    let before = linked_next c.args.self.now.nodes.nodes c.args.self.now.heads.items c.args.i c.read-node.result c.requires.linked c.read-node.ensures.value some in
    omega (arith, before, length_as_pairs c.args.self.now.nodes.nodes c.set_next.new.self.nodes.nodes c.set_next.ensures.nodes.pairs)

pub returns-clause-item : goal.returns-clause-item
returns-clause-item g c = item_at c.args.self.now.nodes.nodes c.args.i c.read-node.result c.read-node.ensures.value

pub returns-clause-linked : goal.returns-clause-linked
returns-clause-linked g c =
    unlinked_nodes c.args.self.now.nodes.nodes c.set_next.new.self.nodes.nodes c.set_prev.new.self.nodes.nodes c.args.self.now.heads.items c.set_prev.new.self.heads.items c.args.i c.read-node.result
    c.requires.linked c.read-node.ensures.value c.set_next.ensures.nodes c.set_prev.ensures.nodes (c.set_prev.ensures.heads ∙ c.set_next.ensures.heads)
