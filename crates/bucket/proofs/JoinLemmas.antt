-- An endpoint takes part in what is stored of a torrent, or is refused.
use Rattle.std.proofs.Common.{◌≡◌, ℕ, ◌+◌, ◌<◌, ◌≤◌, ◌⊎◌, inl, inr, Bool, true, false, not, ◌&&◌, cond, List, [], ◌∷◌, ◌++◌, Option, Some, None, Result, Ok, Err, IsErr, IsErrAnd, refl, sym, ◌∙◌, ap, length, arith, nat_lt}
use Rattle.std.specs.Bool.{◌==◌}
use Rattle.std.specs.List.{find, swap_remove}
use Rattle.std.specs.Option.{is_none, is_some, option_map_or}
use Rattle.std.proofs.Math.ListN.{set}
use Rattle.std.proofs.lemmas.Bool.Decides.{Decides-eqb, nat_tests}
use Rattle.std.proofs.lemmas.List.{length-set, length_push}
use Rattle.ot_base.specs.Address.{family_of}
use Rattle.ot_base.specs.declared.address.Endpoint.{Endpoint}
use Rattle.ot_base.specs.declared.address.Family.{Family}
use Rattle.ot_base.specs.declared.address.Family.TheVariants.{Four, Six}
use Rattle.ot_base.specs.declared.peer.Held.{Held}
use Rattle.tracker_model.proofs.Cases.{by_test}
use Rattle.swarm.specs.Peers.{is_of, no_peer, place_of, put_peer, without_peer}
use Rattle.swarm.specs.Shape.{Shape, of_family, peer_count, with_family}
use Rattle.swarm.proofs.ListLemmas.{length-swap_remove}
use Rattle.swarm.proofs.PlaceLemmas.{find_nowhere, find_placed}
use Rattle.bucket.specs.Stored.{IsFit, IsTidySwarm, JoinsStored, PassesTo, put_stored}
use Rattle.bucket.specs.declared.joining.JoinError.{JoinError}
use Rattle.bucket.specs.declared.joining.JoinError.TheVariants.{SwarmFull, NoMemory}
use Rattle.bucket.specs.declared.joining.Joining.{Joining}
use Rattle.bucket.specs.declared.stored.Stored.{Stored}

-- the peers of an endpoint's family
abbrev pub peers_for : Endpoint → Shape → List Held
peers_for who swarm = of_family (family_of who.addr) swarm

same_time : (family : Family) (swarm : Shape) (peers : List Held) → (with_family family swarm peers).time ≡ swarm.time
same_time Four swarm peers = refl
same_time Six swarm peers = refl

count_with : (family : Family) (swarm : Shape) (peers : List Held) → peer_count (with_family family swarm peers) + length (of_family family swarm) ≡ peer_count swarm + length peers
count_with Four swarm peers = omega arith
count_with Six swarm peers = omega arith

length_without : (who : Endpoint) (peers : List Held) → length (without_peer who peers) ≤ length peers
length_without who peers = by_place who peers (place_of who peers) refl
  where
    by_place : (who : Endpoint) (peers : List Held) (o : Option ℕ) → place_of who peers ≡ o → length (without_peer who peers) ≤ length peers
    by_place who peers None none =
        omega (arith, ap (λ o. length (option_map_or (λ i. swap_remove peers i no_peer) o peers)) none)
    by_place who peers (Some i) at =
        omega (arith, ap (λ o. length (option_map_or (λ k. swap_remove peers k no_peer) o peers)) at, length-swap_remove peers i no_peer)

-- where an endpoint is held, or there is room for one
abbrev pub HasRoom : ℕ → Endpoint → Shape → Type 0
HasRoom limit who swarm = (is_some (place_of who (peers_for who swarm)) ≡ true) ⊎ (peer_count swarm < limit)

length_put : (held : Held) (peers : List Held) → length (put_peer held peers) ≤ length peers + 1
length_put held peers = by_place held peers (place_of held.who peers) refl
  where
    by_place : (held : Held) (peers : List Held) (o : Option ℕ) → place_of held.who peers ≡ o → length (put_peer held peers) ≤ length peers + 1
    by_place held peers None none =
        omega (arith, ap (λ o. length (option_map_or (λ i. set peers i held) o (peers ++ held ∷ []))) none, length_push peers held)
    by_place held peers (Some i) at =
        omega (arith, ap (λ o. length (option_map_or (λ k. set peers k held) o (peers ++ held ∷ []))) at, length-set peers i held)

length_put_again : (held : Held) (peers : List Held) → is_some (place_of held.who peers) ≡ true → length (put_peer held peers) ≡ length peers
length_put_again held peers again = by_place held peers (place_of held.who peers) refl again
  where
    by_place : (held : Held) (peers : List Held) (o : Option ℕ) → place_of held.who peers ≡ o → is_some (place_of held.who peers) ≡ true → length (put_peer held peers) ≡ length peers
    by_place held peers None none again = let clash : false ≡ true = sym (ap is_some none) ∙ again in absurd (let p : ⊥ = cc in p)
    by_place held peers (Some i) at again = ap (λ o. length (option_map_or (λ k. set peers k held) o (peers ++ held ∷ []))) at ∙ length-set peers i held

pub put_few : (limit : ℕ) (joining : Joining) (stored : Stored) → HasRoom limit joining.who stored.swarm → peer_count stored.swarm ≤ limit → peer_count (put_stored joining stored).swarm ≤ limit
put_few limit joining stored room few =
    let family = family_of joining.who.addr in
    let peers = of_family family stored.swarm in
    let held : Held = record { who = joining.who; seed = joining.seed; stamp = record { 0 = stored.swarm.time } } in
    let counted = count_with family stored.swarm (put_peer held peers) in
    elim room [
      | inl again ↦ omega (arith, counted, length_put_again held peers again)
      | inr less ↦ omega (arith, counted, length_put held peers)
    ]

pub put_time : (joining : Joining) (stored : Stored) → (put_stored joining stored).swarm.time ≡ stored.swarm.time
put_time joining stored = same_time (family_of joining.who.addr) stored.swarm _

pub put_fit : (limit minute : ℕ) (joining : Joining) (stored new : Stored) → HasRoom limit joining.who stored.swarm → IsFit limit minute stored → new ≡ put_stored joining stored → IsTidySwarm new.swarm → IsFit limit minute new
put_fit limit minute joining stored new room fit is tidy = record {
  past = omega (arith, fit.past, put_time joining stored, ap (λ (s : Stored). s.swarm.time) is);
  few = omega (arith, put_few limit joining stored room fit.few, ap (λ (s : Stored). peer_count s.swarm) is);
  tidy = tidy;
}

pub take_fit : (limit minute : ℕ) (who : Endpoint) (old : Stored) (swarm : Shape) → IsFit limit minute old → swarm ≡ with_family (family_of who.addr) old.swarm (without_peer who (peers_for who old.swarm)) → IsTidySwarm swarm
    → IsFit limit minute (record old { swarm = swarm })
take_fit limit minute who old swarm fit is tidy =
    let family = family_of who.addr in
    let peers = of_family family old.swarm in
    record {
      past = omega (arith, fit.past, same_time family old.swarm (without_peer who peers), ap (λ (s : Shape). s.time) is);
      few = omega (arith, fit.few, count_with family old.swarm (without_peer who peers), length_without who peers, ap peer_count is);
      tidy = tidy;
    }

-- an endpoint is new where it has no place
pub new_by : (who : Endpoint) (peers : List Held) → is_none (find (is_of who) peers) ≡ not (is_some (place_of who peers))
new_by who peers = by_place who peers (place_of who peers) refl
  where
    by_place : (who : Endpoint) (peers : List Held) (o : Option ℕ) → place_of who peers ≡ o → is_none (find (is_of who) peers) ≡ not (is_some (place_of who peers))
    by_place who peers None none = ap is_none (find_nowhere (is_of who) peers none) ∙ sym (ap (λ o. not (is_some o)) none)
    by_place who peers (Some i) at = ap is_none (find_placed (is_of who) peers i no_peer at) ∙ sym (ap (λ o. not (is_some o)) at)

pub not_equal : (n m : ℕ) → n < m → (n == m) ≡ false
not_equal n m less =
    by_test (n == m) ((n == m) ≡ false)
    (λ yes. let e : n ≡ m = (Decides-eqb n m).0 yes in absurd (omega arith))
    (λ no. no)

-- whether an endpoint isn't held, and there are as many as there may be
abbrev pub meets_full : ℕ → Endpoint → Shape → Bool
meets_full limit who swarm = is_none (find (is_of who) (peers_for who swarm)) && (peer_count swarm == limit)

both_first : (a b : Bool) → (a && b) ≡ true → (a ≡ true) × (b ≡ true)
both_first true b both = (refl, both)
both_first false b both = absurd (let clash : false ≡ true = both in cc)

pub refused_full : {A : Type 0} (limit minute : ℕ) (joining : Joining) (old fresh : Stored) → PassesTo minute old fresh → (full : Bool) → full ≡ meets_full limit joining.who fresh.swarm → full ≡ true → JoinsStored {A = A} limit minute joining old fresh (Err SwarmFull)
refused_full limit minute joining old fresh passes full is met =
    let both = both_first (is_none (find (is_of joining.who) (peers_for joining.who fresh.swarm))) (peer_count fresh.swarm == limit) (sym is ∙ met) in
    record { fresh = fresh; passes = passes; joins = (both.0, refl, sym (ap (λ b. cond b SwarmFull NoMemory) both.1)) }

pub room_where : (limit : ℕ) (who : Endpoint) (swarm : Shape) (full : Bool) → full ≡ meets_full limit who swarm → full ≡ false → peer_count swarm ≤ limit → HasRoom limit who swarm
room_where limit who swarm full is free few =
    let peers = peers_for who swarm in
    by_test (is_some (place_of who peers)) (HasRoom limit who swarm)
    (λ held. inl held)
    (λ unknown.
    let room : (peer_count swarm == limit) ≡ false = ap (λ b. b && (peer_count swarm == limit)) (sym (new_by who peers ∙ ap not unknown)) ∙ sym is ∙ free in
    by_test (nat_lt (peer_count swarm) limit) (HasRoom limit who swarm)
    (λ less. inr (grind (arith, nat_tests)))
    (λ most. let same : peer_count swarm ≡ limit = grind (arith, nat_tests) in absurd (let clash : true ≡ false = sym ((Decides-eqb (peer_count swarm) limit).1 same) ∙ room in cc)))

pub refused_memory : {A : Type 0} (limit minute : ℕ) (joining : Joining) (old fresh new : Stored) → PassesTo minute old fresh → HasRoom limit joining.who fresh.swarm → place_of joining.who (peers_for joining.who fresh.swarm) ≡ None → new ≡ fresh
    → JoinsStored {A = A} limit minute joining old new (Err NoMemory)
refused_memory limit minute joining old fresh new passes room none same =
    let peers = peers_for joining.who fresh.swarm in
    let less : peer_count fresh.swarm < limit = elim room [
      | inl again ↦ let clash : false ≡ true = sym (ap is_some none) ∙ again in absurd (let p : ⊥ = cc in p)
      | inr less ↦ less
    ] in
    record {
      fresh = fresh;
      passes = passes;
      joins = (
        new_by joining.who peers ∙ ap (λ o. not (is_some o)) none,
        same,
        sym (ap (λ b. cond b SwarmFull NoMemory) (not_equal (peer_count fresh.swarm) limit less)),
      );
    }

both_not : (a b : Bool) → (a ≡ true → b ≡ false) → (a && b) ≡ false
both_not true b not_b = not_b refl
both_not false b not_b = refl

pub joins_done : {A : Type 0} (limit minute : ℕ) (joining : Joining) (old fresh new : Stored) (done : A) → PassesTo minute old fresh → HasRoom limit joining.who fresh.swarm → new ≡ put_stored joining fresh
    → JoinsStored limit minute joining old new (Ok done)
joins_done limit minute joining old fresh new done passes room is =
    let peers = peers_for joining.who fresh.swarm in
    let is_new = is_none (find (is_of joining.who) peers) in
    record {
      fresh = fresh;
      passes = passes;
      joins = (
        both_not is_new (peer_count fresh.swarm == limit) (λ new_one. elim room [
          | inl again ↦ let clash : false ≡ true = sym (ap not again) ∙ sym (new_by joining.who peers) ∙ new_one in absurd (let p : ⊥ = cc in p)
          | inr less ↦ not_equal (peer_count fresh.swarm) limit less
        ]),
        is,
      );
    }

-- want of memory becomes this error
pub gave_memory : {A : Type 0} (r : Result A JoinError) → IsErr r → IsErrAnd r (λ e. e ≡ NoMemory) → r ≡ Err NoMemory
gave_memory (Ok x) err gave = absurd (let p : ⊥ = cc in p)
gave_memory (Err e) err gave = ap Err gave
