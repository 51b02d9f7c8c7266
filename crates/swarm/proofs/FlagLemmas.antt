-- The flags of a family's peers, which tell what the index tells.
use Rattle.std.proofs.Common.{◌≡◌, ◌≢◌, ℕ, ◌+◌, ◌<◌, ◌≤◌, Bool, true, false, not, List, [], ◌∷◌, ◌++◌, Option, Some, None, refl, sym, ◌∙◌, ap, length, arith, get_or}
use Rattle.std.specs.List.{slice_get, sum_by, swap_remove}
use Rattle.std.specs.Option.{option_map}
use Rattle.std.proofs.lemmas.List.{length-map, map-append}
use Rattle.std.proofs.lemmas.List.Sums.{get_or-le-sum_by, sum_by-cons}
use Rattle.std.proofs.lemmas.Option.{none-some, same_Some, slice_get-map, slice_get-get_or, get_or_from_slice_get}
use Rattle.ot_base.specs.declared.address.Endpoint.{Endpoint}
use Rattle.ot_base.specs.declared.peer.Held.{Held}
use Rattle.age_ring.specs.Ring.{items_of, stamps_of}
use Rattle.swarm.specs.Index.{IsIndexed, at_of, seed_of}
use Rattle.swarm.specs.Members.{flags_of, held_by, peers_by}
use Rattle.swarm.specs.Peers.{no_peer, one_if, seed_one}
use Rattle.swarm.specs.declared.index.Place.{Place}
use Rattle.swarm.proofs.ListLemmas.{swap_remove-map}
use Rattle.swarm.proofs.PeerLemmas.{peer_at}
use Rattle.swarm.proofs.PlaceLemmas.{IsFound, found_peer}

-- as many flags are set as peers are seeds
pub flags_counted : (peers : List Held) → sum_by one_if (flags_of peers) ≡ sum_by seed_one peers
flags_counted [] = refl
flags_counted (p ∷ ps) = omega (arith, sum_by-cons one_if p.seed (flags_of ps), sum_by-cons seed_one p ps, flags_counted ps)

both_flags : (flags : List Bool) → sum_by one_if flags + sum_by (λ b. one_if (not b)) flags ≡ length flags
both_flags [] = refl
both_flags (b ∷ bs) = omega (arith, sum_by-cons one_if b bs, sum_by-cons (λ b. one_if (not b)) b bs, both_flags bs, one_or_other b)
  where
    one_or_other : (b : Bool) → one_if b + one_if (not b) ≡ 1
    one_or_other true = refl
    one_or_other false = refl

-- where no flag is set, and where all are
pub flag_unset : (flags : List Bool) (at : ℕ) → at < length flags → sum_by one_if flags ≡ 0 → slice_get flags at ≡ Some false
flag_unset flags at within none = slice_get-get_or flags at false within ∙ ap Some (by_flag (get_or flags at false) (omega (arith, get_or-le-sum_by one_if flags at false within)))
  where
    by_flag : (b : Bool) → one_if b ≤ 0 → b ≡ false
    by_flag true le = absurd (omega (arith, le))
    by_flag false le = refl

pub flag_set : (flags : List Bool) (at : ℕ) → at < length flags → sum_by one_if flags ≡ length flags → slice_get flags at ≡ Some true
flag_set flags at within all = slice_get-get_or flags at false within ∙ ap Some (by_flag (get_or flags at false) (omega (arith, get_or-le-sum_by (λ b. one_if (not b)) flags at false within, both_flags flags)))
  where
    by_flag : (b : Bool) → one_if (not b) ≤ 0 → b ≡ true
    by_flag true le = refl
    by_flag false le = absurd (omega (arith, le))

-- the flag at the place of an endpoint
pub flag_found : (look : Endpoint → Option Place) (pairs : List (Endpoint × ℕ)) (flags : List Bool) (who : Endpoint) (place : Place) → IsIndexed (items_of pairs) look → flags ≡ flags_of (peers_by look pairs) → look who ≡ Some place → slice_get flags place.at ≡ Some place.seed
flag_found look pairs flags who place it flagged known =
    let peers = peers_by look pairs in
    let found : IsFound peers who place = found_peer look pairs who place it known in
    ap (λ l. slice_get l place.at) flagged ∙ slice_get-map (λ (h : Held). h.seed) peers place.at ∙ ap (λ o. option_map (λ (h : Held). h.seed) o) (slice_get-get_or peers place.at no_peer found.within) ∙ ap (λ (h : Held). Some h.seed) found.here ∙ ap Some found.seed

-- the flags after the last peer moves into a gap, and after one is put last
pub flags_removed : (peers new : List Held) (flags flags' : List Bool) (at : ℕ) (d : Bool) → at < length peers → flags ≡ flags_of peers → flags' ≡ swap_remove flags at d → new ≡ swap_remove peers at no_peer → flags' ≡ flags_of new
flags_removed peers new flags flags' at d within flagged gone is =
    gone ∙ ap (λ l. swap_remove l at d) flagged ∙ swap_remove-map (λ (h : Held). h.seed) peers at no_peer d within ∙ ap (λ l. flags_of l) (sym is)

pub flags_added : (peers new : List Held) (flags flags' : List Bool) (peer : Held) → flags ≡ flags_of peers → flags' ≡ flags ++ peer.seed ∷ [] → new ≡ peers ++ peer ∷ [] → flags' ≡ flags_of new
flags_added peers new flags flags' peer flagged more is =
    more ∙ ap (λ l. l ++ peer.seed ∷ []) flagged ∙ sym (map-append (λ (h : Held). h.seed) peers (peer ∷ [])) ∙ ap (λ l. flags_of l) (sym is)

-- what the order and the flags tell of an endpoint that stands at a place
pub told_at : (look : Endpoint → Option Place) (pairs : List (Endpoint × ℕ)) (flags : List Bool) (at : ℕ) (who : Endpoint) (seed : Bool) → IsIndexed (items_of pairs) look → flags ≡ flags_of (peers_by look pairs)
    → slice_get (items_of pairs) at ≡ Some who → slice_get flags at ≡ Some seed → look who ≡ Some (record { at = at; seed = seed })
told_at look pairs flags at who seed it flagged here flag = by_place look pairs flags at who seed it flagged here flag (look who) refl
  where
    by_place : (look : Endpoint → Option Place) (pairs : List (Endpoint × ℕ)) (flags : List Bool) (at : ℕ) (who : Endpoint) (seed : Bool) → IsIndexed (items_of pairs) look → flags ≡ flags_of (peers_by look pairs)
        → slice_get (items_of pairs) at ≡ Some who → slice_get flags at ≡ Some seed → (o : Option Place) → look who ≡ o → look who ≡ Some (record { at = at; seed = seed })
    by_place look pairs flags at who seed it flagged here flag None none =
        absurd (none-some at (ap (λ o. at_of o) (sym none) ∙ it.found who at here))
    by_place look pairs flags at who seed it flagged here flag (Some place) known =
        let same_at : place.at ≡ at = same_Some place.at at (ap (λ o. at_of o) (sym known) ∙ it.found who at here) in
        let same_seed : place.seed ≡ seed = same_Some place.seed seed (sym (flag_found look pairs flags who place it flagged known) ∙ ap (λ k. slice_get flags k) same_at ∙ flag) in
        known ∙ (λ i. Some (record { at = same_at i; seed = same_seed i }))

-- an endpoint that stands nowhere has no place
pub told_nowhere : (pairs : List (Endpoint × ℕ)) (look : Endpoint → Option Place) (who : Endpoint) → IsIndexed (items_of pairs) look → ((i : ℕ) → slice_get (items_of pairs) i ≢ Some who) → look who ≡ None
told_nowhere pairs look who it nowhere = by_place pairs look who it nowhere (look who) refl
  where
    by_place : (pairs : List (Endpoint × ℕ)) (look : Endpoint → Option Place) (who : Endpoint) → IsIndexed (items_of pairs) look → ((i : ℕ) → slice_get (items_of pairs) i ≢ Some who) → (o : Option Place) → look who ≡ o → look who ≡ None
    by_place pairs look who it nowhere None none = none
    by_place pairs look who it nowhere (Some place) known = absurd (nowhere place.at (it.there who place.at (ap (λ o. at_of o) known)))

-- the peer at a place has the flag that stands there
pub peer_flagged : (look : Endpoint → Option Place) (pairs : List (Endpoint × ℕ)) (flags : List Bool) (at : ℕ) (who : Endpoint) (stamp : ℕ) (seed d : Bool) → flags ≡ flags_of (peers_by look pairs) → slice_get (items_of pairs) at ≡ Some who → slice_get (stamps_of pairs) at ≡ Some stamp
    → seed ≡ get_or flags at d → slice_get (peers_by look pairs) at ≡ Some (record { who = who; seed = seed; stamp = record { 0 = stamp } })
peer_flagged look pairs flags at who stamp seed d flagged here stamped is =
    let peers = peers_by look pairs in
    let peer = peer_at look pairs at who stamp (seed_of (look who)) here stamped refl in
    let flag : slice_get flags at ≡ Some (seed_of (look who)) = ap (λ l. slice_get l at) flagged ∙ slice_get-map (λ (h : Held). h.seed) peers at ∙ ap (λ o. option_map (λ (h : Held). h.seed) o) peer in
    peer_at look pairs at who stamp seed here stamped (is ∙ get_or_from_slice_get flags at (seed_of (look who)) d flag)

-- a place has a flag
pub flag_within : (look : Endpoint → Option Place) (pairs : List (Endpoint × ℕ)) (flags : List Bool) → flags ≡ flags_of (peers_by look pairs) → length flags ≡ length pairs
flag_within look pairs flags flagged =
    ap length flagged ∙ length-map (peers_by look pairs) (λ (h : Held). h.seed) ∙ length-map pairs (held_by look)
