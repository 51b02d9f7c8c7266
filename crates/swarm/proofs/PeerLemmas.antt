-- The peers of a ring with its index, after each kind of change.
use Rattle.std.proofs.Common.{◌≡◌, ◌≢◌, ℕ, zero, suc, ◌-◌, ◌<◌, Bool, List, [], ◌∷◌, ◌++◌, Option, Some, None, inl, inr, refl, sym, ◌∙◌, ap, subst, length, map, arith, get_or}
use Rattle.std.specs.List.{slice_get, swap_remove}
use Rattle.std.specs.Option.{option_map}
use Rattle.std.proofs.Math.ListN.{set}
use Rattle.std.proofs.lemmas.List.{map-append, map-set, length-map}
use Rattle.std.proofs.lemmas.Bool.{cases_eq}
use Rattle.std.proofs.lemmas.Option.{slice_get-map, slice_get_within, none-some, same_Some}
use Rattle.ot_base.specs.declared.address.Endpoint.{Endpoint}
use Rattle.ot_base.specs.declared.peer.Held.{Held}
use Rattle.age_ring.specs.Ring.{items_of, stamps_of}
use Rattle.swarm.specs.Index.{Puts, at_place, with_seed, at_of, seed_of, IsIndexed}
use Rattle.swarm.specs.Members.{held_by, peers_by}
use Rattle.swarm.specs.declared.index.Place.{Place}
use Rattle.swarm.proofs.ListLemmas.{swap_remove-map, left_other, left_gap}
use Rattle.swarm.proofs.Indexed.{by_endpoint, one_place, unfound}

-- the same word on each endpoint gives the same peers
pub peers_same : (look look' : Endpoint → Option Place) (pairs : List (Endpoint × ℕ)) → ((e : Endpoint) (i : ℕ) → slice_get (items_of pairs) i ≡ Some e → seed_of (look' e) ≡ seed_of (look e)) → peers_by look' pairs ≡ peers_by look pairs
peers_same look look' [] same = refl
peers_same look look' (p ∷ ps) same =
    let head : held_by look' p ≡ held_by look p = ap (λ s. let h : Held = record { who = p.0; seed = s; stamp = record { 0 = p.1 } } in h) (same p.0 zero refl) in
    ap (λ h. h ∷ peers_by look' ps) head ∙ ap (λ l. held_by look p ∷ l) (peers_same look look' ps (λ e i h. same e (suc i) h))

-- at one place another peer stands, and the others are the same
pub peers_set : (look look' : Endpoint → Option Place) (pairs : List (Endpoint × ℕ)) (k : ℕ) (peer : Held) → ((e : Endpoint) (i : ℕ) → slice_get (items_of pairs) i ≡ Some e → i ≢ k → seed_of (look' e) ≡ seed_of (look e)) → set (peers_by look' pairs) k peer ≡ set (peers_by look pairs) k peer
peers_set look look' [] k peer same = refl
peers_set look look' (p ∷ ps) zero peer same =
    ap (λ l. peer ∷ l) (peers_same look look' ps (λ e i h. same e (suc i) h (λ z. omega arith)))
peers_set look look' (p ∷ ps) (suc k) peer same =
    let head : held_by look' p ≡ held_by look p = ap (λ s. let h : Held = record { who = p.0; seed = s; stamp = record { 0 = p.1 } } in h) (same p.0 zero refl (λ z. omega arith)) in
    ap (λ h. h ∷ set (peers_by look' ps) k peer) head ∙ ap (λ l. held_by look p ∷ l) (peers_set look look' ps k peer (λ e i h apart. same e (suc i) h (λ z. apart (omega arith))))

pub endpoints-peers : (look : Endpoint → Option Place) (pairs : List (Endpoint × ℕ)) → map (λ h. h.who) (peers_by look pairs) ≡ items_of pairs
endpoints-peers look [] = refl
endpoints-peers look (p ∷ ps) = ap (λ l. p.0 ∷ l) (endpoints-peers look ps)

pub peers_push : (look look' : Endpoint → Option Place) (pairs : List (Endpoint × ℕ)) (who : Endpoint) (place : Place) (time : ℕ) → IsIndexed (items_of pairs) look → look who ≡ None → Puts look look' who (Some place)
    → peers_by look' (pairs ++ (who, time) ∷ []) ≡ peers_by look pairs ++ (record { who = who; seed = place.seed; stamp = record { 0 = time } }) ∷ []
peers_push look look' pairs who place time it none puts =
    map-append (held_by look') pairs ((who, time) ∷ [])
    ∙ ap (λ l. l ++ held_by look' (who, time) ∷ []) (peers_same look look' pairs (λ e i h. ap (λ o. seed_of o) (puts.others e (unfound (items_of pairs) look who e i it none h))))
    ∙ ap (λ o. let h : Held = record { who = who; seed = seed_of o; stamp = record { 0 = time } } in peers_by look pairs ++ h ∷ []) puts.here

pub peers_renewed : (look look' : Endpoint → Option Place) (pairs : List (Endpoint × ℕ)) (who : Endpoint) (place : Place) (seed : Bool) (time : ℕ) → IsIndexed (items_of pairs) look → look who ≡ Some place → Puts look look' who (with_seed seed (look who))
    → peers_by look' (set pairs place.at (who, time)) ≡ set (peers_by look pairs) place.at (record { who = who; seed = seed; stamp = record { 0 = time } })
peers_renewed look look' pairs who place seed time it known puts =
    let at = place.at in
    let is_seed : seed_of (look' who) ≡ seed = ap (λ o. seed_of o) puts.here ∙ ap (λ o. seed_of (with_seed seed o)) known in
    map-set (held_by look') pairs at (who, time)
    ∙ ap (λ s. let h : Held = record { who = who; seed = s; stamp = record { 0 = time } } in set (peers_by look' pairs) at h) is_seed
    ∙ peers_set look look' pairs at (record { who = who; seed = seed; stamp = record { 0 = time } }) (λ e i h apart.
    ap (λ o. seed_of o) (puts.others e (λ same. apart (one_place (items_of pairs) look e who i at it h (it.there who at (ap (λ o. at_of o) known)) same))))

-- who is left after a removal isn't who went
pub left_apart : (names : List Endpoint) (look : Endpoint → Option Place) (gone d e : Endpoint) (at k : ℕ) → IsIndexed names look → slice_get names at ≡ Some gone → slice_get (swap_remove names at d) k ≡ Some e → e ≢ gone
left_apart names look gone d e at k it here h same =
    elim (cases_eq k at) [
      | inl at_gap ↦
          let P : ℕ → Type 0 = λ m. slice_get (swap_remove names at d) m ≡ Some e in
          let last = left_gap names at d e (subst P at_gap h) in
          let f = one_place names look e gone (length names - 1) at it last.0 here same in
          omega (arith, last.1)
      | inr apart ↦ apart (one_place names look e gone k at it (left_other names at k d e apart h).0 here same)
    ]

seed_at_place : (at : ℕ) (o : Option Place) → seed_of (at_place at o) ≡ seed_of o
seed_at_place at None = refl
seed_at_place at (Some p) = refl

-- a peer that moves in the order stays what it is
pub moved_seed : (look look' : Endpoint → Option Place) (moved : Endpoint) (at : ℕ) → Puts look look' moved (at_place at (look moved)) → (e : Endpoint) → seed_of (look' e) ≡ seed_of (look e)
moved_seed look look' moved at puts e =
    by_endpoint moved e (seed_of (look' e) ≡ seed_of (look e))
    (λ same. let P : Endpoint → Type 0 = λ x. seed_of (look' x) ≡ seed_of (look x) in subst P same (ap (λ o. seed_of o) puts.here ∙ seed_at_place at (look moved)))
    (λ apart. ap (λ o. seed_of o) (puts.others e apart))

pub peers_removed : (look look1 look' : Endpoint → Option Place) (pairs : List (Endpoint × ℕ)) (gone : Endpoint) (at : ℕ) (pair : Endpoint × ℕ) (d : Held) → IsIndexed (items_of pairs) look → slice_get (items_of pairs) at ≡ Some gone → Puts look look1 gone None
    → ((e : Endpoint) → seed_of (look' e) ≡ seed_of (look1 e)) → peers_by look' (swap_remove pairs at pair) ≡ swap_remove (peers_by look pairs) at d
peers_removed look look1 look' pairs gone at pair d it here drops same =
    let within : at < length pairs = omega (arith, slice_get_within (items_of pairs) at gone here, length-map pairs (λ (p : Endpoint × ℕ). p.0)) in
    peers_same look look' (swap_remove pairs at pair) (λ e k h.
    same e ∙ ap (λ o. seed_of o) (drops.others e (left_apart (items_of pairs) look gone pair.0 e at k it here (ap (λ l. slice_get l k) (swap_remove-map (λ (p : Endpoint × ℕ). p.0) pairs at pair pair.0 within) ∙ h))))
    ∙ sym (swap_remove-map (held_by look) pairs at pair d within)

pub pair_at : (pairs : List (Endpoint × ℕ)) (at : ℕ) (who : Endpoint) (stamp : ℕ) → slice_get (items_of pairs) at ≡ Some who → slice_get (stamps_of pairs) at ≡ Some stamp → slice_get pairs at ≡ Some (who, stamp)
pair_at [] at who stamp h k = absurd (none-some who h)
pair_at (p ∷ ps) zero who stamp h k = ap Some (pair_eq p who stamp (same_Some p.0 who h) (same_Some p.1 stamp k))
  where
    pair_eq : (p : Endpoint × ℕ) (who : Endpoint) (stamp : ℕ) → p.0 ≡ who → p.1 ≡ stamp → p ≡ (who, stamp)
    pair_eq p who stamp a b = λ i. (a i, b i)
pair_at (p ∷ ps) (suc at) who stamp h k = pair_at ps at who stamp h k

pub peer_at : (look : Endpoint → Option Place) (pairs : List (Endpoint × ℕ)) (at : ℕ) (who : Endpoint) (stamp : ℕ) (seed : Bool) → slice_get (items_of pairs) at ≡ Some who → slice_get (stamps_of pairs) at ≡ Some stamp → seed ≡ seed_of (look who)
    → slice_get (peers_by look pairs) at ≡ Some (record { who = who; seed = seed; stamp = record { 0 = stamp } })
peer_at look pairs at who stamp seed h k is =
    slice_get-map (held_by look) pairs at ∙ ap (λ o. option_map (held_by look) o) (pair_at pairs at who stamp h k)
    ∙ ap (λ s. let x : Held = record { who = who; seed = s; stamp = record { 0 = stamp } } in Some x) (sym is)

pub first_at : (pairs : List (Endpoint × ℕ)) (at : ℕ) (who : Endpoint) (d : Endpoint × ℕ) → slice_get (items_of pairs) at ≡ Some who → (get_or pairs at d).0 ≡ who
first_at [] at who d h = absurd (none-some who h)
first_at (p ∷ ps) zero who d h = same_Some p.0 who h
first_at (p ∷ ps) (suc at) who d h = first_at ps at who d h

pub names_removed : (pairs pairs' : List (Endpoint × ℕ)) (at : ℕ) (pair : Endpoint × ℕ) → at < length pairs → pairs' ≡ swap_remove pairs at pair → items_of pairs' ≡ swap_remove (items_of pairs) at pair.0
names_removed pairs pairs' at pair within is = ap (λ l. items_of l) is ∙ sym (swap_remove-map (λ (p : Endpoint × ℕ). p.0) pairs at pair pair.0 within)

pub stamps-peers : (look : Endpoint → Option Place) (pairs : List (Endpoint × ℕ)) → map (λ h. h.stamp.0) (peers_by look pairs) ≡ stamps_of pairs
stamps-peers look [] = refl
stamps-peers look (p ∷ ps) = ap (λ l. p.1 ∷ l) (stamps-peers look ps)
