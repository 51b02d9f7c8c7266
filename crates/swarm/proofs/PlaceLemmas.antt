-- Where an endpoint's peer is found: at the place that the index tells, or nowhere.
use Rattle.std.proofs.Common.{◌≡◌, ◌≢◌, ℕ, ◌+◌, ◌-◌, ◌<◌, ◌≤◌, Bool, true, false, not, cond, nat_lt, List, [], ◌∷◌, ◌++◌, Option, Some, None, refl, sym, ◌∙◌, ap, subst, length, map, arith, get_or}
use Rattle.std.specs.List.{slice_get, swap_remove, find, position, position_or_len, sum_by}
use Rattle.std.specs.Option.{option_map, is_some, IsSome}
use Rattle.std.proofs.Math.ListN.{set}
use Rattle.std.proofs.lemmas.Bool.Decides.{nat_tests}
use Rattle.std.proofs.lemmas.List.{length-map}
use Rattle.std.proofs.lemmas.List.Folds.{find_at}
use Rattle.std.proofs.lemmas.List.Quantifiers.{position-Some}
use Rattle.std.proofs.lemmas.List.Recursion.{found_at}
use Rattle.std.proofs.lemmas.List.Sums.{fails_before_first, get_or-le-sum_by, sum_by-le, sum_by-set, sum_by-cons, sum_by_push, sum_by-swap_remove}
use Rattle.std.proofs.lemmas.Option.{slice_get-map, slice_get_within, slice_get_past, slice_get-get_or, get_or_from_slice_get, same_Some}
use Rattle.ot_base.proofs.SameLemmas.{same_endpoint_decides}
use Rattle.ot_base.specs.declared.address.Endpoint.{Endpoint}
use Rattle.ot_base.specs.declared.peer.Held.{Held}
use Rattle.age_ring.specs.Ring.{items_of}
use Rattle.swarm.specs.Index.{at_of, seed_of, IsIndexed}
use Rattle.swarm.specs.Members.{held_by, peers_by}
use Rattle.swarm.specs.Peers.{is_of, place_of, no_peer, one_if, other_one, seed_one}
use Rattle.swarm.specs.declared.index.Place.{Place}
use Rattle.swarm.proofs.IndexLemmas.{by_test}

past_first : {X : Type 0} (p : X → Bool) (xs : List X) → position p xs ≡ None → length xs ≤ position_or_len p xs
past_first p xs nowhere =
    by_test (nat_lt (position_or_len p xs) (length xs)) (length xs ≤ position_or_len p xs)
    (λ yes. let e : Some (position_or_len p xs) ≡ None = sym (ap (λ b. cond b (Some (position_or_len p xs)) None) yes) ∙ nowhere in absurd (cc))
    (λ no. grind (arith, nat_tests))

-- what passes has a place
placed : {X : Type 0} (p : X → Bool) (xs : List X) (i : ℕ) (x : X) → slice_get xs i ≡ Some x → p x ≡ true → position p xs ≢ None
placed p xs i x here passes nowhere =
    let within = slice_get_within xs i x here in
    let fails : p (get_or xs i x) ≡ false = fails_before_first p xs i x (omega (arith, past_first p xs nowhere)) in
    let clash : true ≡ false = sym passes ∙ ap p (sym (get_or_from_slice_get xs i x x here)) ∙ fails in
    cc

pub find_placed : {X : Type 0} (p : X → Bool) (xs : List X) (i : ℕ) (d : X) → position p xs ≡ Some i → find p xs ≡ Some (get_or xs i d)
find_placed {X} p xs i d at =
    let place = position-Some p xs i d at in
    found_at (find p) p (λ x. Some x) None refl (λ _ _. refl) xs i d place.0 place.2 place.1

pub find_nowhere : {X : Type 0} (p : X → Bool) (xs : List X) → position p xs ≡ None → find p xs ≡ None
find_nowhere p xs nowhere = find_at p xs ∙ slice_get_past xs (position_or_len p xs) (past_first p xs nowhere)

-- an endpoint's peer stands where the index tells
pub place_indexed : (peers : List Held) (look : Endpoint → Option Place) (who : Endpoint) → IsIndexed (map (λ h. h.who) peers) look → place_of who peers ≡ at_of (look who)
place_indexed peers look who it = by_place peers look who it (place_of who peers) refl
  where
    nowhere : (peers : List Held) (look : Endpoint → Option Place) (who : Endpoint) → IsIndexed (map (λ h. h.who) peers) look → place_of who peers ≡ None → (o : Option ℕ) → at_of (look who) ≡ o → None ≡ o
    nowhere peers look who it none None is = refl
    nowhere peers look who it none (Some i) is =
        let here : slice_get (map (λ (h : Held). h.who) peers) i ≡ Some who = it.there who i is in
        let within : i < length peers = omega (arith, slice_get_within (map (λ (h : Held). h.who) peers) i who here, length-map peers (λ (h : Held). h.who)) in
        let peer = get_or peers i no_peer in
        let there = slice_get-get_or peers i no_peer within in
        let is_who : peer.who ≡ who = same_Some peer.who who (ap (λ o. option_map (λ (h : Held). h.who) o) (sym there) ∙ sym (slice_get-map (λ (h : Held). h.who) peers i) ∙ here) in
        absurd (placed (is_of who) peers i peer there ((same_endpoint_decides who peer.who).1 (sym is_who)) none)

    by_place : (peers : List Held) (look : Endpoint → Option Place) (who : Endpoint) → IsIndexed (map (λ h. h.who) peers) look → (o : Option ℕ) → place_of who peers ≡ o → place_of who peers ≡ at_of (look who)
    by_place peers look who it None none = none ∙ nowhere peers look who it none (at_of (look who)) refl
    by_place peers look who it (Some i) at =
        let place = position-Some (is_of who) peers i no_peer at in
        let peer = get_or peers i no_peer in
        let is_who : who ≡ peer.who = (same_endpoint_decides who peer.who).0 place.1 in
        let here : slice_get (map (λ (h : Held). h.who) peers) i ≡ Some who = slice_get-map (λ (h : Held). h.who) peers i ∙ ap (λ o. option_map (λ (h : Held). h.who) o) (slice_get-get_or peers i no_peer place.0) ∙ ap Some (sym is_who) in
        at ∙ sym (it.found who i here)

-- the peer of an endpoint that the index knows
pub record IsFound (peers : List Held) (who : Endpoint) (place : Place) : Type 0 where
  pub peer : Held
  pub within : place.at < length peers
  pub here : get_or peers place.at no_peer ≡ peer
  pub stands : place_of who peers ≡ Some place.at
  pub found : find (is_of who) peers ≡ Some peer
  pub seed : peer.seed ≡ place.seed

endpoints_by : (look : Endpoint → Option Place) (pairs : List (Endpoint × ℕ)) → map (λ h. h.who) (peers_by look pairs) ≡ items_of pairs
endpoints_by look [] = refl
endpoints_by look (p ∷ ps) = ap (λ l. p.0 ∷ l) (endpoints_by look ps)

pub indexed_peers : (look : Endpoint → Option Place) (pairs : List (Endpoint × ℕ)) → IsIndexed (items_of pairs) look → IsIndexed (map (λ h. h.who) (peers_by look pairs)) look
indexed_peers look pairs it =
    let P : List Endpoint → Type 0 = λ l. IsIndexed l look in
    subst P (sym (endpoints_by look pairs)) it

pub found_peer : (look : Endpoint → Option Place) (pairs : List (Endpoint × ℕ)) (who : Endpoint) (place : Place) → IsIndexed (items_of pairs) look → look who ≡ Some place → IsFound (peers_by look pairs) who place
found_peer look pairs who place it known =
    let peers = peers_by look pairs in
    let at : place_of who peers ≡ Some place.at = place_indexed peers look who (indexed_peers look pairs it) ∙ ap (λ o. at_of o) known in
    let p = position-Some (is_of who) peers place.at no_peer at in
    let within : place.at < length pairs = omega (arith, p.0, length-map pairs (held_by look)) in
    let pair = get_or pairs place.at (who, 0) in
    let is : get_or peers place.at no_peer ≡ held_by look pair = get_or_from_slice_get peers place.at (held_by look pair) no_peer (slice_get-map (held_by look) pairs place.at ∙ ap (λ o. option_map (held_by look) o) (slice_get-get_or pairs place.at (who, 0) within)) in
    let is_who : pair.0 ≡ who = ap (λ (h : Held). h.who) (sym is) ∙ sym ((same_endpoint_decides who (get_or peers place.at no_peer).who).0 p.1) in
    record {
      peer = get_or peers place.at no_peer;
      within = p.0;
      here = refl;
      stands = at;
      found = find_placed (is_of who) peers place.at no_peer at;
      seed = ap (λ (h : Held). h.seed) is ∙ ap (λ e. seed_of (look e)) is_who ∙ ap (λ o. seed_of o) known;
    }

pub unknown_place : (look : Endpoint → Option Place) (pairs : List (Endpoint × ℕ)) (who : Endpoint) → IsIndexed (items_of pairs) look → look who ≡ None → place_of who (peers_by look pairs) ≡ None
unknown_place look pairs who it none = place_indexed (peers_by look pairs) look who (indexed_peers look pairs it) ∙ ap (λ o. at_of o) none

-- an endpoint's place is where it stands
pub placed_at : (look : Endpoint → Option Place) (pairs : List (Endpoint × ℕ)) (who : Endpoint) (i : ℕ) → IsIndexed (items_of pairs) look → slice_get (items_of pairs) i ≡ Some who → place_of who (peers_by look pairs) ≡ Some i
placed_at look pairs who i it here = place_indexed (peers_by look pairs) look who (indexed_peers look pairs it) ∙ it.found who i here

pub unknown_find : (look : Endpoint → Option Place) (pairs : List (Endpoint × ℕ)) (who : Endpoint) → IsIndexed (items_of pairs) look → look who ≡ None → find (is_of who) (peers_by look pairs) ≡ None
unknown_find look pairs who it none = find_nowhere (is_of who) (peers_by look pairs) (unknown_place look pairs who it none)

-- the count of seeds with one peer, without one, and with another in one's place
pub seeds_set : (peers : List Held) (at : ℕ) (peer : Held) → at < length peers → sum_by seed_one (set peers at peer) + seed_one (get_or peers at no_peer) ≡ sum_by seed_one peers + seed_one peer
seeds_set peers at peer within = sum_by-set seed_one peers at peer no_peer within

pub seed_counted : (peers : List Held) (at : ℕ) → at < length peers → seed_one (get_or peers at no_peer) ≤ sum_by seed_one peers
seed_counted peers at within = get_or-le-sum_by seed_one peers at no_peer within

pub seeds_removed : (peers : List Held) (at : ℕ) → at < length peers → sum_by seed_one (swap_remove peers at no_peer) + seed_one (get_or peers at no_peer) ≡ sum_by seed_one peers
seeds_removed peers at within = sum_by-swap_remove seed_one peers at no_peer within

pub one_at_most : (b : Bool) → one_if b ≤ 1
one_at_most true = omega arith
one_at_most false = omega arith

pub seeds_within : (peers : List Held) → sum_by seed_one peers ≤ length peers
seeds_within peers = omega (arith, sum_by-le seed_one 1 peers (λ i d h. one_at_most (get_or peers i d).seed))

-- the count of seeds after a peer is renewed, added or taken out
pub renewed_count : (peers new : List Held) (at : ℕ) (peer : Held) (seeds stood : ℕ) → at < length peers → new ≡ set peers at peer → seeds ≡ sum_by seed_one peers → stood ≡ seed_one (get_or peers at no_peer) → seeds + seed_one peer - stood ≡ sum_by seed_one new
renewed_count peers new at peer seeds stood within is counted gone =
    omega (arith, seeds_set peers at peer within, seed_counted peers at within, ap (λ l. sum_by seed_one l) is)

pub added_count : (peers new : List Held) (peer : Held) (seeds : ℕ) → new ≡ peers ++ peer ∷ [] → seeds ≡ sum_by seed_one peers → seeds + seed_one peer ≡ sum_by seed_one new
added_count peers new peer seeds is counted =
    omega (arith, sum_by_push seed_one peers peer, ap (λ l. sum_by seed_one l) is)

pub removed_count : (peers new : List Held) (at : ℕ) (peer : Held) (seeds : ℕ) → slice_get peers at ≡ Some peer → new ≡ swap_remove peers at no_peer → seeds ≡ sum_by seed_one peers → (seed_one peer ≤ seeds) × (seeds - seed_one peer ≡ sum_by seed_one new)
removed_count peers new at peer seeds here is counted =
    let within = slice_get_within peers at peer here in
    let e = ap seed_one (get_or_from_slice_get peers at peer no_peer here) in
    (omega (arith, seed_counted peers at within, e), omega (arith, seeds_removed peers at within, ap (λ l. sum_by seed_one l) is, e))

-- what stands at the place is the peer
pub same_peer : (peers : List Held) (who : Endpoint) (place : Place) (peer : Held) (it : IsFound peers who place) → slice_get peers place.at ≡ Some peer → peer ≡ it.peer
same_peer peers who place peer it here = sym (get_or_from_slice_get peers place.at peer no_peer here) ∙ it.here

pub stood_counted : (peers : List Held) (who : Endpoint) (place : Place) (it : IsFound peers who place) → one_if place.seed ≡ seed_one (get_or peers place.at no_peer)
stood_counted peers who place it = sym (ap one_if (ap (λ (h : Held). h.seed) it.here ∙ it.seed))

pub none_some : {o : Option ℕ} → o ≡ None → IsSome o → ⊥
none_some {o} none some = let e : false ≡ true = subst (λ (x : Option ℕ). is_some x ≡ true) none some in cc

seed_or_other : (b : Bool) → one_if b + one_if (not b) ≡ 1
seed_or_other true = refl
seed_or_other false = refl

pub seeds_and_others : (peers : List Held) → sum_by seed_one peers + sum_by other_one peers ≡ length peers
seeds_and_others [] = refl
seeds_and_others (p ∷ ps) = omega (arith, sum_by-cons seed_one p ps, sum_by-cons other_one p ps, seeds_and_others ps, seed_or_other p.seed)
