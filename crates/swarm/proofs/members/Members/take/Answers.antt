-- The peer stands where the index tells.
use Rattle.std.proofs.Common.{Some, refl, sym, ◌∙◌, ap, arith}
use Rattle.std.proofs.lemmas.List.{length-map}
use Rattle.std.specs.List.{swap_remove}
use Rattle.std.specs.Option.{option_map_or}
use Rattle.swarm.specs.Index.{place_in}
use Rattle.swarm.specs.Members.{held_by, peers_by}
use Rattle.swarm.specs.Peers.{no_peer}
use Rattle.swarm.proofs.PlaceLemmas.{unknown_place, unknown_find, found_peer, removed_count, same_peer}
use Rattle.swarm.proofs.members.Members.take.Goals as goal

pub returns-in_err-place-clause-peers : goal.returns-in_err-place-clause-peers
returns-in_err-place-clause-peers g c =
    let k = c.self.inside in
    let peers = peers_by (place_in k.index) k.order.pairs in
    let none = unknown_place (place_in k.index) k.order.pairs c.args.who.now c.self.invariant.indexed (sym c.in_err-place.ensures) in
    rw (← c.self.view_is) (sym (ap (λ o. option_map_or (λ i. swap_remove peers i no_peer) o peers) none))

pub returns-in_err-place-clause-taken : goal.returns-in_err-place-clause-taken
returns-in_err-place-clause-taken g c =
    let k = c.self.inside in
    rw (← c.self.view_is) (c.from_residual.ensures ∙ sym (unknown_find (place_in k.index) k.order.pairs c.args.who.now c.self.invariant.indexed (sym c.in_err-place.ensures)))

pub remove_at-held-requires-clause-within : goal.remove_at-held-requires-clause-within
remove_at-held-requires-clause-within g c =
    let k = c.self.inside in
    let it = found_peer (place_in k.index) k.order.pairs c.args.who.now c.in_ok-place.place c.self.invariant.indexed (sym c.in_ok-place.ensures) in
    omega (arith, it.within, length-map k.order.pairs (held_by (place_in k.index)))

pub overflow_sub-self : goal.overflow_sub-self
overflow_sub-self g c =
    let k = c.self.inside in
    let peers = peers_by (place_in k.index) k.order.pairs in
    let n = removed_count peers (swap_remove peers c.in_ok-place.place.at no_peer) c.in_ok-place.place.at c.remove_at-held.result k.seeds c.remove_at-held.ensures.value refl c.self.invariant.seeds_counted in
    omega (arith, n.0, c.one_if.ensures)

pub invariant_of-self : goal.invariant_of-self
invariant_of-self g c =
    let k = c.self.inside in
    let peers = peers_by (place_in k.index) k.order.pairs in
    let new = peers_by (place_in c.remove_at-held.new.index) c.remove_at-held.new.order.pairs in
    let n = removed_count peers new c.in_ok-place.place.at c.remove_at-held.result k.seeds c.remove_at-held.ensures.value (c.remove_at-held.ensures.peers no_peer) c.self.invariant.seeds_counted in
    record {
      indexed = c.remove_at-held.ensures.indexed;
      ages = c.remove_at-held.ensures.clock.ages ∙ c.self.invariant.ages;
      few = omega (arith, c.remove_at-held.ensures.len, c.self.invariant.few);
      flagged = c.remove_at-held.ensures.flags;
      seeds_counted = rw c.one_if.ensures n.1;
    }

pub returns-clause-peers : goal.returns-clause-peers
returns-clause-peers g c =
    let k = c.self.inside in
    let peers = peers_by (place_in k.index) k.order.pairs in
    let it = found_peer (place_in k.index) k.order.pairs c.args.who.now c.in_ok-place.place c.self.invariant.indexed (sym c.in_ok-place.ensures) in
    rw (← c.self.view_is) (c.remove_at-held.ensures.peers no_peer ∙ sym (ap (λ o. option_map_or (λ i. swap_remove peers i no_peer) o peers) it.stands))

pub returns-clause-taken : goal.returns-clause-taken
returns-clause-taken g c =
    let k = c.self.inside in
    let peers = peers_by (place_in k.index) k.order.pairs in
    let it = found_peer (place_in k.index) k.order.pairs c.args.who.now c.in_ok-place.place c.self.invariant.indexed (sym c.in_ok-place.ensures) in
    rw (← c.self.view_is) (ap Some (same_peer peers c.args.who.now c.in_ok-place.place c.remove_at-held.result it c.remove_at-held.ensures.value) ∙ sym it.found)
