-- The place stands before the old head of its slot.
use Rattle.std.proofs.Common.{◌≡◌, ◌<◌, ◌%◌, ◌∙◌, sym, ap, length, arith, refl, get_or, set}
use Rattle.std.proofs.lemmas.List.{get_or_default}
use Rattle.age_ring.proofs.Nodes.{linked_nodes_at, pairs_set}
use Rattle.age_ring.proofs.lists.Lists.link_first.Goals as goal

pub nonzero_rem-slot : goal.nonzero_rem-slot
nonzero_rem-slot g c = omega (arith, c.requires.linked.within 0, c.args.self.now.heads.ok.0)

pub index-next-requires : goal.index-next-requires
index-next-requires g c = omega (arith, c.requires.linked.within 0, c.args.self.now.heads.ok.0)

pub set_prev-requires-clause-within : goal.set_prev-requires-clause-within
set_prev-requires-clause-within g c = λ some.
    let heads = c.args.self.now.heads.items in
    let slot = c.args.stamp % c.len.result in
    let inside : slot < length heads = omega (arith, c.requires.linked.within 0, c.args.self.now.heads.ok.0) in
    let is : get_or heads slot 0 ≡ c.index-next.result.now = sym (c.index-next.ensures ∙ get_or_default heads slot c.index-next.result.now 0 inside) in
    let first = c.requires.linked.heads slot inside (λ e. some (sym is ∙ e)) in
    omega (arith, first.0, is)

pub index_mut-requires : goal.index_mut-requires
index_mut-requires g c = omega (arith, c.requires.linked.within 0, c.args.self.now.heads.ok.0, c.set_prev.new.self.heads.ok.0, ap length c.set_prev.ensures.heads)

pub returns-clause-pairs : goal.returns-clause-pairs
returns-clause-pairs g c =
    pairs_set c.args.self.now.nodes.nodes c.set_prev.new.self.nodes.nodes c.write.new.self.nodes c.args.i (record { item = c.args.item; stamp = c.args.stamp; prev = 4294967295; next = c.index-next.result.now }) c.set_prev.ensures.nodes.pairs c.write.ensures.nodes

pub returns-clause-linked : goal.returns-clause-linked
returns-clause-linked g c =
    let heads = c.args.self.now.heads.items in
    let slot = c.args.stamp % c.len.result in
    let inside : slot < length heads = omega (arith, c.requires.linked.within 0, c.args.self.now.heads.ok.0) in
    let ages : c.len.result ≡ length heads = omega (arith, c.len.ensures, c.args.self.now.heads.ok.0) in
    let is : get_or heads slot 0 ≡ c.index-next.result.now = sym (c.index-next.ensures ∙ get_or_default heads slot c.index-next.result.now 0 inside) in
    linked_nodes_at c.args.self.now.nodes.nodes c.set_prev.new.self.nodes.nodes c.write.new.self.nodes heads (set c.set_prev.new.self.heads.items slot c.args.i) c.args.i slot (record { item = c.args.item; stamp = c.args.stamp; prev = 4294967295; next = c.index-next.result.now })
    c.requires.linked c.requires.within (ap (λ n. c.args.stamp % n) ages) is refl c.set_prev.ensures.nodes c.write.ensures.nodes (ap (λ l. set l slot c.args.i) c.set_prev.ensures.heads)
