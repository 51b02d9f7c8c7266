-- The short forms follow their endpoints.
use Rattle.std.proofs.Common.{◌<◌, arith, sym, ◌∙◌, ap, length, map}
use Rattle.std.specs.List.{swap_remove}
use Rattle.std.proofs.lemmas.List.{length-map}
use Rattle.age_ring.specs.Ring.{items_of}
use Rattle.swarm.specs.Short.{beside}
use Rattle.swarm.proofs.ListLemmas.{swap_remove-map}
use Rattle.swarm.proofs.order.Order.remove.Goals as goal

pub invariant_of-self : goal.invariant_of-self
invariant_of-self g c =
    let names = items_of c.self.inside.ring.pairs in
    let within : c.args.i < length names = omega (arith, c.requires, ap (λ r. length r.pairs) c.self.view_is, length-map c.self.inside.ring.pairs (λ p. p.0)) in (
      c.swap_remove.ensures.items
          ∙ ap (λ l. swap_remove l c.args.i c.swap_remove.result) c.self.invariant.0
          ∙ swap_remove-map beside names c.args.i c.remove.result c.swap_remove.result within
          ∙ ap (λ l. map beside l) (sym c.remove.ensures.items),
      omega (arith, c.self.invariant.1, c.swap_remove.ensures.capacity, c.remove.ensures.len, c.remove.ensures.spare),
    )
