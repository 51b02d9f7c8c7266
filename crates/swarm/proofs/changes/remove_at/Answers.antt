-- The last endpoint moves into the gap, and the index follows it.
use Rattle.std.proofs.Common.{◌+◌, ◌≤◌, ℕ, List, refl, sym, ◌∙◌, ap, subst, arith, length}
use Rattle.std.specs.List.{slice_get}
use Rattle.std.proofs.lemmas.List.{length-map}
use Rattle.ot_base.specs.declared.address.Endpoint.{Endpoint}
use Rattle.age_ring.specs.Ring.{items_of}
use Rattle.swarm.specs.Index.{IsIndexed, place_in}
use Rattle.swarm.specs.Members.{held_by, peers_by}
use Rattle.swarm.specs.Peers.{no_peer}
use Rattle.swarm.proofs.ListLemmas.{length-swap_remove, left_gap}
use Rattle.swarm.proofs.FlagLemmas.{flags_removed}
use Rattle.swarm.proofs.Indexed.{indexed_moved, indexed_without_last}
use Rattle.swarm.proofs.PeerLemmas.{names_removed, peer_at, peers_removed, moved_seed}
use Rattle.swarm.proofs.changes.remove_at.Goals as goal

pub returns-then-at-len-clause-value : goal.returns-then-at-len-clause-value
returns-then-at-len-clause-value g c =
    peer_at (place_in c.args.index.now) c.args.order.now.pairs c.args.at c.remove-who.result c.stamp.result c.take-seed.result c.remove-who.ensures.item c.stamp.ensures c.take-seed.ensures.seed

pub returns-then-at-len-clause-peers : goal.returns-then-at-len-clause-peers
returns-then-at-len-clause-peers g c d =
    let pair : Endpoint × ℕ = (c.remove-who.result, 0) in
    ap (λ l. peers_by (place_in c.move_to.new.self) l) (c.remove-who.ensures.pairs pair)
    ∙ peers_removed (place_in c.args.index.now) (place_in c.take-seed.new.self) (place_in c.move_to.new.self) c.args.order.now.pairs c.remove-who.result c.args.at pair d c.requires.indexed c.remove-who.ensures.item c.take-seed.ensures.gone
    (moved_seed (place_in c.take-seed.new.self) (place_in c.move_to.new.self) c.item-moved.result c.args.at c.move_to.ensures)

pub returns-then-at-len-clause-len : goal.returns-then-at-len-clause-len
returns-then-at-len-clause-len g c =
    let pair : Endpoint × ℕ = (c.remove-who.result, 0) in
    omega (arith, ap length (c.remove-who.ensures.pairs pair), length-swap_remove c.args.order.now.pairs c.args.at pair, c.requires.within)

pub returns-then-at-len-clause-indexed : goal.returns-then-at-len-clause-indexed
returns-then-at-len-clause-indexed g c =
    let pairs = c.args.order.now.pairs in
    let who = c.remove-who.result in
    let names = names_removed pairs c.remove-who.new.self.pairs c.args.at (who, 0) c.requires.within (c.remove-who.ensures.pairs (who, 0)) in
    let last = left_gap (items_of pairs) c.args.at who c.item-moved.result (ap (λ l. slice_get l c.args.at) (sym names) ∙ c.item-moved.ensures) in
    let P : List Endpoint → Type 0 = λ l. IsIndexed l (place_in c.move_to.new.self) in
    subst P (sym names) (indexed_moved (items_of pairs) (place_in c.args.index.now) (place_in c.take-seed.new.self) (place_in c.move_to.new.self) who c.item-moved.result who c.args.at c.requires.indexed c.remove-who.ensures.item last.1 last.0 c.take-seed.ensures.gone c.move_to.ensures)

pub returns-else-at-len-clause-value : goal.returns-else-at-len-clause-value
returns-else-at-len-clause-value g c =
    peer_at (place_in c.args.index.now) c.args.order.now.pairs c.args.at c.remove-who.result c.stamp.result c.take-seed.result c.remove-who.ensures.item c.stamp.ensures c.take-seed.ensures.seed

pub returns-else-at-len-clause-peers : goal.returns-else-at-len-clause-peers
returns-else-at-len-clause-peers g c d =
    let pair : Endpoint × ℕ = (c.remove-who.result, 0) in
    ap (λ l. peers_by (place_in c.take-seed.new.self) l) (c.remove-who.ensures.pairs pair)
    ∙ peers_removed (place_in c.args.index.now) (place_in c.take-seed.new.self) (place_in c.take-seed.new.self) c.args.order.now.pairs c.remove-who.result c.args.at pair d c.requires.indexed c.remove-who.ensures.item c.take-seed.ensures.gone
    (λ e. refl)

pub returns-else-at-len-clause-len : goal.returns-else-at-len-clause-len
returns-else-at-len-clause-len g c =
    let pair : Endpoint × ℕ = (c.remove-who.result, 0) in
    omega (arith, ap length (c.remove-who.ensures.pairs pair), length-swap_remove c.args.order.now.pairs c.args.at pair, c.requires.within)

pub returns-else-at-len-clause-indexed : goal.returns-else-at-len-clause-indexed
returns-else-at-len-clause-indexed g c =
    let pairs = c.args.order.now.pairs in
    let who = c.remove-who.result in
    let names = names_removed pairs c.remove-who.new.self.pairs c.args.at (who, 0) c.requires.within (c.remove-who.ensures.pairs (who, 0)) in
    let last : length (items_of pairs) ≤ c.args.at + 1 = omega (arith, ap length (c.remove-who.ensures.pairs (who, 0)), length-swap_remove pairs c.args.at (who, 0), c.len.ensures.len, c.if-at-len.false, length-map pairs (λ (p : Endpoint × ℕ). p.0)) in
    let P : List Endpoint → Type 0 = λ l. IsIndexed l (place_in c.take-seed.new.self) in
    subst P (sym names) (indexed_without_last (items_of pairs) (place_in c.args.index.now) (place_in c.take-seed.new.self) who who c.args.at c.requires.indexed c.remove-who.ensures.item last c.take-seed.ensures.gone)

pub returns-then-at-len-clause-flags : goal.returns-then-at-len-clause-flags
returns-then-at-len-clause-flags g c =
    let peers = peers_by (place_in c.args.index.now) c.args.order.now.pairs in
    flags_removed peers (peers_by (place_in c.move_to.new.self) c.remove-who.new.self.pairs) c.args.flags.now.items c.swap_remove.new.self.items c.args.at c.swap_remove.result (omega (arith, c.requires.within, length-map c.args.order.now.pairs (held_by (place_in c.args.index.now)))) c.requires.flags c.swap_remove.ensures.items (returns-then-at-len-clause-peers g c no_peer)

pub returns-else-at-len-clause-flags : goal.returns-else-at-len-clause-flags
returns-else-at-len-clause-flags g c =
    let peers = peers_by (place_in c.args.index.now) c.args.order.now.pairs in
    flags_removed peers (peers_by (place_in c.take-seed.new.self) c.remove-who.new.self.pairs) c.args.flags.now.items c.swap_remove.new.self.items c.args.at c.swap_remove.result (omega (arith, c.requires.within, length-map c.args.order.now.pairs (held_by (place_in c.args.index.now)))) c.requires.flags c.swap_remove.ensures.items (returns-else-at-len-clause-peers g c no_peer)
