-- The last item moves into the gap.
use Rattle.std.proofs.Common.{◌∙◌, ap, ℕ, ◌<◌, length, arith}
use Rattle.age_ring.specs.Links.{pairs_of}
use Rattle.age_ring.proofs.Nodes.{length-pairs_of}
use Rattle.std.specs.List.{swap_remove}
use Rattle.age_ring.proofs.Pairs.{items_of-swap_remove, length-swap_remove}
use Rattle.age_ring.proofs.Rings.{is_ring-swap_remove}
use Rattle.age_ring.proofs.ring.AgeRing.remove.Goals as goal

pub invariant_of-self : goal.invariant_of-self
invariant_of-self g c =
    let within : c.args.i < length c.self.inside.lists.nodes.nodes = omega (arith, length-pairs_of c.self.inside.lists.nodes.nodes, ap (λ r. length r.pairs) c.self.view_is) in
    is_ring-swap_remove c.self.inside.lists.nodes.nodes c.unlink-item.new.self.nodes.nodes c.close_gap.new.self.nodes.nodes c.self.inside.lists.heads.items c.close_gap.new.self.heads.items c.args.i c.self.inside.time c.self.inside.lists.nodes.spare c.close_gap.new.self.nodes.spare c.unlink-item.result
    c.self.invariant within c.unlink-item.ensures.pairs c.close_gap.ensures.pairs c.close_gap.ensures.linked (c.close_gap.ensures.ages ∙ c.unlink-item.ensures.ages) (omega arith)

pub returns-clause-items : goal.returns-clause-items
returns-clause-items g c =
    items_of-swap_remove c.args.self.now.pairs (pairs_of c.close_gap.new.self.nodes.nodes) c.args.i c.unlink-item.result
    (λ pair. c.close_gap.ensures.pairs pair ∙ ap (λ l. swap_remove l c.args.i pair) (c.unlink-item.ensures.pairs ∙ ap (λ r. r.pairs) c.self.view_is))

pub returns-clause-len : goal.returns-clause-len
returns-clause-len g c =
    let pair : g.row.T.Denot × ℕ = (c.unlink-item.result, 0) in
    omega (arith, c.requires, ap length (c.close_gap.ensures.pairs pair), length-swap_remove (pairs_of c.unlink-item.new.self.nodes.nodes) c.args.i pair, ap length c.unlink-item.ensures.pairs, ap (λ r. length r.pairs) c.self.view_is)
