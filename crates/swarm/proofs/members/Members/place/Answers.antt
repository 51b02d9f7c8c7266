-- The endpoint's place is what the index tells.
use Rattle.std.proofs.Common.{sym, ◌∙◌}
use Rattle.swarm.specs.Index.{place_in}
use Rattle.swarm.proofs.PlaceLemmas.{unknown_place, found_peer, placed_at}
use Rattle.swarm.proofs.members.Members.place.Goals as goal

pub returns-in_err-place : goal.returns-in_err-place
returns-in_err-place c =
    let k = c.self.inside in
    rw (← c.self.view_is) (c.from_residual.ensures ∙ sym (unknown_place (place_in k.index) k.order.pairs c.args.who.now c.self.invariant.indexed (sym c.in_err-place.ensures)))

pub returns : goal.returns
returns c =
    let k = c.self.inside in
    let it = found_peer (place_in k.index) k.order.pairs c.args.who.now c.in_ok-place.place c.self.invariant.indexed (sym c.in_ok-place.ensures) in
    rw (← c.self.view_is) (sym it.stands)

pub returns-then-stands_at : goal.returns-then-stands_at
returns-then-stands_at c =
    let k = c.self.inside in
    rw (← c.self.view_is) (sym (placed_at (place_in k.index) k.order.pairs c.args.who.now k.recent c.self.invariant.indexed (c.stands_at.ensures c.if-stands_at.true)))
