-- Peers that go by their age.
use Rattle.std.proofs.Common.{◌≡◌, ℕ, ◌+◌, ◌*◌, ◌<◌, ◌≤◌, Bool, true, false, List, [], ◌∷◌, ◌++◌, Option, Some, refl, sym, ◌∙◌, ap, subst, length, arith, get_or}
use Rattle.std.specs.List.{All, slice_get, slice_index, swap_remove, sum_by}
use Rattle.std.specs.List.Sorted.{IsPermutation}
use Rattle.std.specs.Option.{option_map}
use Rattle.std.proofs.lemmas.Bool.Decides.{nat_tests}
use Rattle.std.proofs.lemmas.List.{length-append, append_assoc}
use Rattle.std.proofs.lemmas.List.Elements.{All-append, All-push, All-weaker, All-map}
use Rattle.std.proofs.lemmas.List.Sorted.{IsPermutation-refl, IsPermutation-trans, IsPermutation-append_right, IsPermutation-pop_more, IsPermutation-swap_remove, length_permutation}
use Rattle.std.proofs.lemmas.List.Sums.{sum_by-swap_remove}
use Rattle.std.proofs.lemmas.Option.{slice_get-map, slice_get_within, get_or_from_slice_get, slice_get-get_or}
use Rattle.ot_base.specs.Same.{same_endpoint}
use Rattle.ot_base.proofs.SameLemmas.{same_endpoint_decides}
use Rattle.std.proofs.lemmas.Map.Keys.{IsDistinct-from_apart}
use Rattle.ot_base.specs.declared.address.Endpoint.{Endpoint}
use Rattle.ot_base.specs.declared.peer.Held.{Held}
use Rattle.age_ring.specs.Ring.{Ring, IsYoung, items_of, stamps_of}
use Rattle.swarm.specs.Index.{IsIndexed}
use Rattle.swarm.specs.Members.{AreOrderly, Expires, HeldAt, KeepsClock, flags_of, held_by, peers_by}
use Rattle.swarm.specs.Peers.{endpoints_of, is_young, one_if, seed_one}
use Rattle.swarm.specs.declared.index.Place.{Place}
use Rattle.swarm.specs.declared.members.TheConstants.{PEER_AGES}
use Rattle.swarm.proofs.ListLemmas.{length-swap_remove}
use Rattle.swarm.proofs.PeerLemmas.{stamps-peers}
use Rattle.swarm.proofs.PlaceLemmas.{one_at_most, indexed_peers}
use Rattle.swarm.proofs.IndexLemmas.{by_test}
use Rattle.swarm.proofs.Indexed.{one_place}

pub expires_none : (time : ℕ) (peers : List Held) → Expires time peers peers
expires_none time peers = record {
  gone = [];
  moves = IsPermutation-refl peers;
  due = λ i d h. absurd (omega arith);
  still = λ e. refl;
}

fewer : (time : ℕ) (old new : List Held) → Expires time old new → length new ≤ length old
fewer time old new it = omega (arith, length_permutation old (it.gone ++ new) it.moves, length-append it.gone new)

-- one more goes
pub expires_one : (time : ℕ) (old peers new : List Held) (at : ℕ) (peer : Held) → Expires time old peers → slice_get peers at ≡ Some peer → is_young time peer ≡ false → new ≡ swap_remove peers at peer → Expires time old new
expires_one time old peers new at peer it here due is =
    let within = slice_get_within peers at peer here in
    let P : List Held → Type 0 = λ l. Expires time old l in
    let n = fewer time old peers it in
    subst P (sym is) (record {
      gone = it.gone ++ peer ∷ [];
      moves = IsPermutation-pop_more old it.gone peers (swap_remove peers at peer) peer it.moves (IsPermutation-swap_remove peers at peer within (sym (get_or_from_slice_get peers at peer peer here)));
      due = All-push (λ h. is_young time h ≡ false) it.gone peer it.due due;
      still = λ e. absurd (omega (arith, length-swap_remove peers at peer));
    })

-- who isn't young at a time isn't young later
old_later : (a b : ℕ) (peer : Held) → a ≤ b → is_young a peer ≡ false → is_young b peer ≡ false
old_later a b peer le old = grind (arith, nat_tests)

pub expires_later : (a b : ℕ) (old mid new : List Held) → a ≤ b → Expires a old mid → Expires b mid new → Expires b old new
expires_later a b old mid new le one two =
    let m = fewer a old mid one in
    let n = fewer b mid new two in
    let P : List Held → Type 0 = λ l. IsPermutation old l in
    record {
      gone = one.gone ++ two.gone;
      moves = subst P (sym (append_assoc one.gone two.gone new)) (IsPermutation-trans old (one.gone ++ mid) (one.gone ++ (two.gone ++ new)) one.moves (IsPermutation-append_right one.gone mid (two.gone ++ new) two.moves));
      due = All-append (λ h. is_young b h ≡ false) one.gone two.gone (All-weaker (λ h. is_young a h ≡ false) (λ h. is_young b h ≡ false) (λ h old'. old_later a b h le old') one.gone one.due) two.due;
      still = λ e. two.still (omega arith) ∙ one.still (omega arith);
    }

-- a pair that is due is no young peer, and one that isn't is
pub due_peer : (look : Endpoint → Option Place) (pairs : List (Endpoint × ℕ)) (at time : ℕ) (peer : Held) → slice_get (peers_by look pairs) at ≡ Some peer → slice_index (stamps_of pairs) at + PEER_AGES ≤ time → is_young time peer ≡ false
due_peer look pairs at time peer here due =
    let stamp : slice_get (stamps_of pairs) at ≡ Some peer.stamp.0 = ap (λ l. slice_get l at) (sym (stamps-peers look pairs)) ∙ slice_get-map (λ (h : Held). h.stamp.0) (peers_by look pairs) at ∙ ap (λ o. option_map (λ (h : Held). h.stamp.0) o) here in
    let is : slice_index (stamps_of pairs) at ≡ peer.stamp.0 = get_or_from_slice_get (stamps_of pairs) at peer.stamp.0 0 stamp in
    let old : peer.stamp.0 + PEER_AGES ≤ time = omega (arith, is, due) in
    grind (arith, nat_tests)

young_pair : (look : Endpoint → Option Place) (time : ℕ) (pair : Endpoint × ℕ) → time < pair.1 + PEER_AGES → is_young time (held_by look pair) ≡ true
young_pair look time pair h = grind (arith, nat_tests)

pub young_peers : (look : Endpoint → Option Place) (pairs : List (Endpoint × ℕ)) (time : ℕ) → All (IsYoung PEER_AGES time) pairs → All (λ h. is_young time h ≡ true) (peers_by look pairs)
young_peers look pairs time young = All-map (λ h. is_young time h ≡ true) (held_by look) pairs (All-weaker (IsYoung PEER_AGES time) (λ p. is_young time (held_by look p) ≡ true) (λ p h. young_pair look time p h) pairs young)

-- what dropping has kept so far
pub record IsDropping (time : ℕ) (ring0 ring : Ring Endpoint) (look0 look : Endpoint → Option Place) (flags : List Bool) (seeds steps0 steps : ℕ) : Type 0 where
  pub expires : Expires time (peers_by look0 ring0.pairs) (peers_by look ring.pairs)
  pub indexed : IsIndexed (items_of ring.pairs) look
  pub flagged : flags ≡ flags_of (peers_by look ring.pairs)
  pub clock : KeepsClock ring0 ring
  pub seeds_counted : seeds + sum_by seed_one (peers_by look ring.pairs) ≡ sum_by seed_one (peers_by look0 ring0.pairs)
  pub few : seeds + length ring.pairs ≤ length ring0.pairs
  pub steps_counted : steps + 16 * length ring.pairs ≤ steps0 + 16 * length ring0.pairs

pub dropping_none : (time : ℕ) (ring : Ring Endpoint) (look : Endpoint → Option Place) (flags : List Bool) (steps : ℕ) → IsIndexed (items_of ring.pairs) look → flags ≡ flags_of (peers_by look ring.pairs) → IsDropping time ring ring look look flags 0 steps steps
dropping_none time ring look flags steps it flagged = record {
  expires = expires_none time (peers_by look ring.pairs);
  indexed = it;
  flagged = flagged;
  clock = record { time = refl; ages = refl };
  seeds_counted = omega arith;
  few = omega arith;
  steps_counted = omega arith;
}

pub dropping_one : (time : ℕ) (ring0 ring new : Ring Endpoint) (look0 look look' : Endpoint → Option Place) (flags flags' : List Bool) (seeds steps0 steps steps' at : ℕ) (peer : Held) → IsDropping time ring0 ring look0 look flags seeds steps0 steps
    → slice_get (peers_by look ring.pairs) at ≡ Some peer → is_young time peer ≡ false → peers_by look' new.pairs ≡ swap_remove (peers_by look ring.pairs) at peer → length new.pairs + 1 ≡ length ring.pairs
    → IsIndexed (items_of new.pairs) look' → flags' ≡ flags_of (peers_by look' new.pairs) → KeepsClock ring new → steps' ≤ steps + 16 → IsDropping time ring0 new look0 look' flags' (seeds + one_if peer.seed) steps0 steps'
dropping_one time ring0 ring new look0 look look' flags flags' seeds steps0 steps steps' at peer it here due is less indexed flagged clock more =
    let peers = peers_by look ring.pairs in
    let within = slice_get_within peers at peer here in
    let sum : sum_by seed_one (swap_remove peers at peer) + seed_one (get_or peers at peer) ≡ sum_by seed_one peers = sum_by-swap_remove seed_one peers at peer within in
    let e : seed_one (get_or peers at peer) ≡ one_if peer.seed = ap seed_one (get_or_from_slice_get peers at peer peer here) in
    record {
      expires = expires_one time (peers_by look0 ring0.pairs) peers (peers_by look' new.pairs) at peer it.expires here due is;
      indexed = indexed;
      flagged = flagged;
      clock = record { time = clock.time ∙ it.clock.time; ages = clock.ages ∙ it.clock.ages };
      seeds_counted = omega (arith, it.seeds_counted, sum, e, ap (λ l. sum_by seed_one l) is);
      few = omega (arith, it.few, less, one_at_most peer.seed);
      steps_counted = omega (arith, it.steps_counted, less, more);
    }

-- what passing the minutes has kept so far
pub record IsPassing (start minute : ℕ) (old now : HeldAt) (steps0 steps : ℕ) : Type 0 where
  pub expires : Expires (start + minute) old.peers now.peers
  pub time : now.time ≡ start + minute
  pub steps_counted : steps + 32 * length now.peers ≤ steps0 + 32 * length old.peers

pub passing_none : (old : HeldAt) (start steps : ℕ) → start ≡ old.time → IsPassing start 0 old old steps steps
passing_none old start steps is = record {
  expires = expires_none (start + 0) old.peers;
  time = omega arith;
  steps_counted = omega arith;
}

pub passing_one : (start minute : ℕ) (old now new : HeldAt) (steps0 steps steps' : ℕ) → IsPassing start minute old now steps0 steps → Expires (start + minute + 1) now.peers new.peers → new.time ≡ start + minute + 1 → steps' + 32 * length new.peers ≤ steps + 32 * length now.peers
    → IsPassing start (minute + 1) old new steps0 steps'
passing_one start minute old now new steps0 steps steps' it expires time counted =
    let P : ℕ → Type 0 = λ t. Expires t old.peers new.peers in
    let e : start + minute + 1 ≡ start + (minute + 1) = omega arith in
    record {
      expires = subst P e (expires_later (start + minute) (start + minute + 1) old.peers now.peers new.peers (omega arith) it.expires expires);
      time = omega arith;
      steps_counted = omega (arith, it.steps_counted);
    }

-- the index lets no endpoint stand twice
pub orderly : (look : Endpoint → Option Place) (pairs : List (Endpoint × ℕ)) (time : ℕ) → IsIndexed (items_of pairs) look → All (λ pair. pair.1 ≤ time) pairs → All (IsYoung PEER_AGES time) pairs → AreOrderly time (peers_by look pairs)
orderly look pairs time it past young = record {
  distinct = IsDistinct-from_apart same_endpoint (endpoints_of (peers_by look pairs)) (λ i j d less within. apart (endpoints_of (peers_by look pairs)) look (indexed_peers look pairs it) i j d less within);
  past = All-map (λ h. h.stamp.0 ≤ time) (held_by look) pairs past;
  young = young_peers look pairs time young;
}
  where
    apart : (names : List Endpoint) (look : Endpoint → Option Place) → IsIndexed names look → (i j : ℕ) (d : Endpoint) → i < j → j < length names → same_endpoint (get_or names i d) (get_or names j d) ≡ false
    apart names look it i j d less within =
        by_test (same_endpoint (get_or names i d) (get_or names j d)) (same_endpoint (get_or names i d) (get_or names j d) ≡ false)
        (λ same.
        let e = one_place names look (get_or names i d) (get_or names j d) i j it (slice_get-get_or names i d (omega arith)) (slice_get-get_or names j d within) ((same_endpoint_decides (get_or names i d) (get_or names j d)).0 same) in
        absurd (omega arith))
        (λ no. no)

-- no peers are in good order
pub none_orderly : (time : ℕ) → AreOrderly time []
none_orderly time = record {
  distinct = IsDistinct-from_apart same_endpoint [] (λ i j d less within. absurd (omega (arith, within)));
  past = λ i d h. absurd (omega (arith, h));
  young = λ i d h. absurd (omega (arith, h));
}
