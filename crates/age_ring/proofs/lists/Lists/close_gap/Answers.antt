-- The neighbours of the node that moved name it at its new place.
use Rattle.std.proofs.Common.{◌≤◌, ◌∙◌, length, arith}
use Rattle.age_ring.proofs.Nodes.{next_below, moved_nodes, dropped_nodes, pairs_of-swap_remove, length_as_pairs}
use Rattle.age_ring.proofs.lists.Lists.close_gap.Goals as goal

pub set_prev-requires-clause-within : goal.set_prev-requires-clause-within
set_prev-requires-clause-within g c = λ some.
    let before = next_below c.args.self.now.nodes.nodes c.swap_remove.new.self.nodes c.args.self.now.heads.items c.args.i c.swap_remove.result c.read-moved.result c.requires.linked c.swap_remove.ensures.nodes c.requires.within c.read-moved.ensures.value some in
    omega (arith, before, length_as_pairs c.swap_remove.new.self.nodes c.set_next.new.self.nodes.nodes c.set_next.ensures.nodes.pairs)

pub returns-then-i-len-clause-pairs : goal.returns-then-i-len-clause-pairs
returns-then-i-len-clause-pairs g c = λ pair.
    c.set_prev.ensures.nodes.pairs ∙ c.set_next.ensures.nodes.pairs
    ∙ pairs_of-swap_remove c.args.self.now.nodes.nodes c.swap_remove.new.self.nodes c.args.i c.swap_remove.result pair c.swap_remove.ensures.nodes c.requires.within

pub returns-then-i-len-clause-linked : goal.returns-then-i-len-clause-linked
returns-then-i-len-clause-linked g c =
    moved_nodes c.args.self.now.nodes.nodes c.swap_remove.new.self.nodes c.args.self.now.heads.items c.args.i c.swap_remove.result c.read-moved.result c.requires.linked c.swap_remove.ensures.nodes c.requires.within c.read-moved.ensures.value
    c.set_next.new.self.nodes.nodes c.set_prev.new.self.nodes.nodes c.set_prev.new.self.heads.items c.set_next.ensures.nodes c.set_prev.ensures.nodes (c.set_prev.ensures.heads ∙ c.set_next.ensures.heads)

pub returns-else-i-len-clause-linked : goal.returns-else-i-len-clause-linked
returns-else-i-len-clause-linked g c =
    let past : length c.swap_remove.new.self.nodes ≤ c.args.i = omega (arith, c.if-i-len.false, c.len.ensures.len) in
    dropped_nodes c.args.self.now.nodes.nodes c.swap_remove.new.self.nodes c.args.self.now.heads.items c.args.i c.swap_remove.result c.requires.linked c.swap_remove.ensures.nodes c.requires.within past
