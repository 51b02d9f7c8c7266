-- A peer that the index knows stands at its place, and another is put last.
use Rattle.std.proofs.Common.{rules, ◌≡◌, ◌<◌, ◌⊎◌, inl, inr, ◌++◌, ◌∷◌, [], None, sym, ◌∙◌, ap, subst, arith, length}
use Rattle.std.proofs.Math.ListN.{set}
use Rattle.std.proofs.lemmas.List.{length-map}
use Rattle.std.specs.Option.{option_map_or, IsSome}
use Rattle.ot_base.specs.declared.peer.Held.{Held}
use Rattle.swarm.specs.Index.{place_in}
use Rattle.swarm.specs.Members.{HeldAt, held_by, peers_by}
use Rattle.swarm.specs.Peers.{place_of, put_answer}
use Rattle.swarm.specs.declared.members.TheConstants.{MOST_PEERS}
use Rattle.swarm.specs.declared.members.Put.TheVariants.{Again}
use Rattle.swarm.proofs.FlagLemmas.{flags_added}
use Rattle.swarm.proofs.PlaceLemmas.{none_some, unknown_place, unknown_find, found_peer, seeds_within, seed_counted, stood_counted, one_at_most, renewed_count, added_count}
use Rattle.swarm.proofs.members.Members.put.Goals as goal

pub overflow_add-self : goal.overflow_add-self
overflow_add-self g c =
    let k = c.self.inside in
    let peers = peers_by (place_in k.index) k.order.pairs in
    omega (arith, c.self.invariant.seeds_counted, seeds_within peers, length-map k.order.pairs (held_by (place_in k.index)), c.self.invariant.few, one_at_most c.args.seed, c.one_if.ensures)

pub overflow_sub-self : goal.overflow_sub-self
overflow_sub-self g c =
    let k = c.self.inside in
    let peers = peers_by (place_in k.index) k.order.pairs in
    let it = found_peer (place_in k.index) k.order.pairs c.args.who c.in-Some.place c.self.invariant.indexed (sym c.in-Some.ensures) in
    let stood = c.one_if-in-Some.ensures ∙ stood_counted peers c.args.who c.in-Some.place it in
    omega (arith, stood, seed_counted peers c.in-Some.place.at it.within, c.self.invariant.seeds_counted)

pub invariant_of-self : goal.invariant_of-self
invariant_of-self g c =
    let k = c.self.inside in
    let peers = peers_by (place_in k.index) k.order.pairs in
    let new = peers_by (place_in c.renew_at.new.index) c.renew_at.new.order.pairs in
    let at = c.in-Some.place.at in
    let it = found_peer (place_in k.index) k.order.pairs c.args.who c.in-Some.place c.self.invariant.indexed (sym c.in-Some.ensures) in
    let peer : Held = record { who = c.args.who; seed = c.args.seed; stamp = record { 0 = k.order.time } } in
    let stood = c.one_if-in-Some.ensures ∙ stood_counted peers c.args.who c.in-Some.place it in
    record {
      indexed = c.renew_at.ensures.indexed;
      ages = c.renew_at.ensures.clock.ages ∙ c.self.invariant.ages;
      few = omega (arith, c.renew_at.ensures.len, c.self.invariant.few);
      flagged = c.renew_at.ensures.flags;
      seeds_counted = rw c.one_if.ensures (renewed_count peers new at peer k.seeds c.one_if-in-Some.result it.within c.renew_at.ensures.peers c.self.invariant.seeds_counted stood);
    }

pub returns-in-Some-clause-peers : goal.returns-in-Some-clause-peers
returns-in-Some-clause-peers g c =
    let k = c.self.inside in
    let peers = peers_by (place_in k.index) k.order.pairs in
    let it = found_peer (place_in k.index) k.order.pairs c.args.who c.in-Some.place c.self.invariant.indexed (sym c.in-Some.ensures) in
    let peer : Held = record { who = c.args.who; seed = c.args.seed; stamp = record { 0 = k.order.time } } in
    rw (← c.self.view_is) (c.renew_at.ensures.peers ∙ sym (ap (λ o. option_map_or (λ i. set peers i peer) o (peers ++ peer ∷ [])) it.stands))

pub returns-in-Some-clause-answer : goal.returns-in-Some-clause-answer
returns-in-Some-clause-answer g c =
    let k = c.self.inside in
    let it = found_peer (place_in k.index) k.order.pairs c.args.who c.in-Some.place c.self.invariant.indexed (sym c.in-Some.ensures) in
    rw (← c.self.view_is) (ap Again (sym it.seed) ∙ sym (ap put_answer it.found))

pub add_last-requires-clause-few : goal.add_last-requires-clause-few
add_last-requires-clause-few g c =
    let k = c.self.inside in
    let none = unknown_place (place_in k.index) k.order.pairs c.args.who c.self.invariant.indexed (sym c.in-None.ensures) in
    let P : HeldAt → Type 0 = λ v. IsSome (place_of c.args.who v.peers) ⊎ (length v.peers < MOST_PEERS) in
    elim (subst P (sym c.self.view_is) c.requires) [
      | inl some ↦ absurd (none_some none some)
      | inr few ↦ omega (arith, few, length-map k.order.pairs (held_by (place_in k.index)))
    ]

pub returns-in_err-add_last-in-None-clause-fresh : goal.returns-in_err-add_last-in-None-clause-fresh
returns-in_err-add_last-in-None-clause-fresh g c =
    let k = c.self.inside in
    let none : place_of c.args.who c.args.self.now.peers ≡ None = rw (← c.self.view_is) (unknown_place (place_in k.index) k.order.pairs c.args.who c.self.invariant.indexed (sym c.in-None.ensures)) in
    search rules

pub overflow_add-self-in-None : goal.overflow_add-self-in-None
overflow_add-self-in-None g c =
    let k = c.self.inside in
    let peers = peers_by (place_in k.index) k.order.pairs in
    omega (arith, c.self.invariant.seeds_counted, seeds_within peers, length-map k.order.pairs (held_by (place_in k.index)), c.self.invariant.few, one_at_most c.args.seed, c.one_if-in-None.ensures)

pub invariant_of-self-in-None : goal.invariant_of-self-in-None
invariant_of-self-in-None g c =
    let k = c.self.inside in
    let peers = peers_by (place_in k.index) k.order.pairs in
    let new = peers_by (place_in c.add_last.new.index) c.add_last.new.order.pairs in
    let peer : Held = record { who = c.args.who; seed = c.args.seed; stamp = record { 0 = k.order.time } } in
    let none = unknown_place (place_in k.index) k.order.pairs c.args.who c.self.invariant.indexed (sym c.in-None.ensures) in
    let P : HeldAt → Type 0 = λ v. IsSome (place_of c.args.who v.peers) ⊎ (length v.peers < MOST_PEERS) in
    let few : length k.order.pairs < MOST_PEERS = elim (subst P (sym c.self.view_is) c.requires) [
      | inl some ↦ absurd (none_some none some)
      | inr few ↦ omega (arith, few, length-map k.order.pairs (held_by (place_in k.index)))
    ] in
    record {
      indexed = c.add_last.ensures.indexed;
      ages = c.add_last.ensures.clock.ages ∙ c.self.invariant.ages;
      few = omega (arith, c.in_ok-add_last-in-None.ensures.one_more, few);
      flagged = flags_added peers new k.flags.items c.add_last.new.flags.items peer c.self.invariant.flagged c.in_ok-add_last-in-None.ensures.flags c.in_ok-add_last-in-None.ensures.ok;
      seeds_counted = rw c.one_if-in-None.ensures (added_count peers new peer k.seeds c.in_ok-add_last-in-None.ensures.ok c.self.invariant.seeds_counted);
    }

pub returns-in_ok-add_last-in-None-clause-peers : goal.returns-in_ok-add_last-in-None-clause-peers
returns-in_ok-add_last-in-None-clause-peers g c =
    let k = c.self.inside in
    let peers = peers_by (place_in k.index) k.order.pairs in
    let none = unknown_place (place_in k.index) k.order.pairs c.args.who c.self.invariant.indexed (sym c.in-None.ensures) in
    let peer : Held = record { who = c.args.who; seed = c.args.seed; stamp = record { 0 = k.order.time } } in
    rw (← c.self.view_is) (c.in_ok-add_last-in-None.ensures.ok ∙ sym (ap (λ o. option_map_or (λ i. set peers i peer) o (peers ++ peer ∷ [])) none))

pub returns-in_ok-add_last-in-None-clause-answer : goal.returns-in_ok-add_last-in-None-clause-answer
returns-in_ok-add_last-in-None-clause-answer g c =
    let k = c.self.inside in
    rw (← c.self.view_is) (sym (ap put_answer (unknown_find (place_in k.index) k.order.pairs c.args.who c.self.invariant.indexed (sym c.in-None.ensures))))
