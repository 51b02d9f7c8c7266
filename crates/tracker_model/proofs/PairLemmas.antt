-- The live peers of all stored torrents, counted, are those counted from scratch.
use Rattle.std.proofs.Common.{◌≡◌, ℕ, Bool, true, false, ◌&&◌, ◌||◌, List, [], ◌∷◌, ◌++◌, Option, Some, None, refl, sym, ◌∙◌, ap, subst, map, length, if◌then◌else◌, cond}
use Rattle.std.specs.Cmp.{IsEquivalence}
use Rattle.std.specs.List.{filter, cons_option, flat_map, sum_by, IsDistinct, AllByRecursion}
use Rattle.std.specs.Option.{is_some, option_map_or}
use Rattle.std.specs.Set.{is_member}
use Rattle.std.proofs.lemmas.List.{length-map}
use Rattle.std.proofs.lemmas.List.Concat.{length-flat_map}
use Rattle.std.proofs.lemmas.List.Folds.{list_any-append}
use Rattle.std.proofs.lemmas.Map.Made.{length-from_keys, is_member-filter, alike_from_same}
use Rattle.ot_base.specs.Same.{same_hash, same_endpoint}
use Rattle.ot_base.proofs.SameLemmas.{same_endpoint_decides, same_hash_decides, equivalence_from_decides}
use Rattle.ot_base.specs.declared.hash.InfoHash.{InfoHash}
use Rattle.ot_base.specs.declared.address.Endpoint.{Endpoint}
use Rattle.ot_base.specs.declared.peer.Held.{Held}
use Rattle.tracker_model.specs.Calls.{silent, call_word, subject, is_about}
use Rattle.tracker_model.specs.Counted.{subjects, same_subject, live_count}
use Rattle.tracker_model.specs.Entries.{last_word, word_of, held_after, time_of, is_effective}
use Rattle.tracker_model.specs.Live.{if_live, is_live}
use Rattle.tracker_model.specs.Shape.{Torrent, peers_of, torrent_of, held_of, live_in, is_live_in, live_peers}
use Rattle.tracker_model.specs.Stands.{IsTidy, Keeps}
use Rattle.tracker_model.specs.declared.entry.Entry.{Entry}
use Rattle.tracker_model.proofs.Cases.{by_test, and_false, or_nothing}
use Rattle.tracker_model.proofs.CountLemmas.{or_false}
use Rattle.tracker_model.proofs.KeyedLemmas.{keys_apart, is_member-passing}
use Rattle.tracker_model.proofs.StepLemmas.{same_subject_decides}

pub same_subject_laws : IsEquivalence same_subject
same_subject_laws = equivalence_from_decides same_subject_decides

subjects_more : (u : InfoHash × Endpoint) (s : Option (InfoHash × Endpoint)) (rest : List (InfoHash × Endpoint)) →
    is_member same_subject (cons_option s rest) u ≡ (option_map_or (λ s. same_hash s.0 u.0 && same_endpoint s.1 u.1) s false || is_member same_subject rest u)
subjects_more u None rest = refl
subjects_more u (Some s) rest = ap (λ b. b || is_member same_subject rest u) (same_subject_laws.symm u s)

-- nothing stands of a pair that was never named
unnamed_pair : (past : List Entry) (h : InfoHash) (e : Endpoint) → is_member same_subject (subjects past) (h, e) ≡ false → last_word past h e ≡ None
unnamed_pair [] h e never = refl
unnamed_pair (x ∷ past) h e never =
    let parts = or_false (is_about x.call h e) (is_member same_subject (subjects past) (h, e)) (sym (subjects_more (h, e) (subject x.call) (subjects past)) ∙ never) in
    let unsaid : word_of x h e ≡ silent = ap (λ b. if is_effective x && b then call_word x.call else silent) parts.0 ∙ ap (λ b. if b then call_word x.call else silent) (and_false (is_effective x)) in
    ap (λ w. held_after w e (time_of (x ∷ past)) (last_word past h e)) unsaid ∙ unnamed_pair past h e parts.1

module _ (minute : ℕ) where
  -- the pairs of a torrent and its live peers
  pair_with : InfoHash → Held → InfoHash × Endpoint
  pair_with h held = (h, held.who)

  pairs_of : Torrent → List (InfoHash × Endpoint)
  pairs_of torrent = map (pair_with torrent.hash) (live_peers minute torrent)

  pair_member : (hash h : InfoHash) (e : Endpoint) (peers : List Held) → is_member same_subject (map (pair_with hash) peers) (h, e) ≡ (same_hash h hash && is_member same_endpoint (map (λ held. held.who) peers) e)
  unfolding pair_with
  pair_member hash h e [] = sym (and_false (same_hash h hash))
  pair_member hash h e (held ∷ peers) =
      ap (λ b. (same_hash h hash && same_endpoint e held.who) || b) (pair_member hash h e peers)
      ∙ elim (same_hash h hash) as (λ b. ((b && same_endpoint e held.who) || (b && is_member same_endpoint (map (λ held. held.who) peers) e)) ≡ (b && (same_endpoint e held.who || is_member same_endpoint (map (λ held. held.who) peers) e))) [ true ↦ refl | false ↦ refl ]

  -- whether an endpoint is among a torrent's live peers, by its lookup
  live_member : (torrent : Torrent) (e : Endpoint) → IsTidy torrent → is_member same_endpoint (map (λ held. held.who) (live_peers minute torrent)) e ≡ is_some (if_live minute (held_of (peers_of torrent) e))
  live_member torrent e tidy =
      is_member-passing same_endpoint same_endpoint_decides (λ (held : Held). held.who) (is_live_in minute) e (peers_of torrent) tidy.distinct
      ∙ elim (held_of (peers_of torrent) e) as (λ o. option_map_or (is_live_in minute) o false ≡ is_some (if_live minute o)) [ None ↦ refl | Some held ↦ refl ]

  -- a torrent that isn't stored has no pairs
  no_pairs : (h : InfoHash) (e : Endpoint) (torrents : List Torrent) → AllByRecursion (λ k. same_hash h k ≡ false) (map (λ torrent. torrent.hash) torrents) → is_member same_subject (flat_map pairs_of torrents) (h, e) ≡ false
  unfolding pairs_of
  no_pairs h e [] apart = refl
  no_pairs h e (torrent ∷ torrents) apart =
      list_any-append (same_subject (h, e)) (pairs_of torrent) (flat_map pairs_of torrents)
      ∙ ap (λ b. b || is_member same_subject (flat_map pairs_of torrents) (h, e)) (pair_member torrent.hash h e (live_peers minute torrent) ∙ ap (λ b. b && is_member same_endpoint (map (λ held. held.who) (live_peers minute torrent)) e) apart.0)
      ∙ no_pairs h e torrents apart.1

  pairs_member : (h : InfoHash) (e : Endpoint) (torrents : List Torrent) → IsDistinct same_hash (map (λ torrent. torrent.hash) torrents) → AllByRecursion IsTidy torrents →
      is_member same_subject (flat_map pairs_of torrents) (h, e) ≡ is_some (live_in minute torrents h e)
  unfolding IsDistinct pairs_of
  pairs_member h e [] apart each = refl
  pairs_member h e (torrent ∷ torrents) apart each =
      let Goal : Type 0 = is_member same_subject (flat_map pairs_of (torrent ∷ torrents)) (h, e) ≡ is_some (live_in minute (torrent ∷ torrents) h e) in
      let found = λ (b : Bool). is_some (if_live minute (held_of (option_map_or peers_of (cond b (Some torrent) (torrent_of torrents h)) []) e)) in
      let here = is_member same_endpoint (map (λ held. held.who) (live_peers minute torrent)) e in
      let rest = is_member same_subject (flat_map pairs_of torrents) (h, e) in
      let split : is_member same_subject (flat_map pairs_of (torrent ∷ torrents)) (h, e) ≡ ((same_hash h torrent.hash && here) || rest) =
      list_any-append (same_subject (h, e)) (pairs_of torrent) (flat_map pairs_of torrents) ∙ ap (λ b. b || rest) (pair_member torrent.hash h e (live_peers minute torrent)) in
      by_test (same_hash h torrent.hash) Goal
      (λ equal.
      let P : InfoHash → Type 0 = λ k. AllByRecursion (λ l. same_hash k l ≡ false) (map (λ torrent. torrent.hash) torrents) in
      let none : rest ≡ false = no_pairs h e torrents (subst P (sym ((same_hash_decides h torrent.hash).0 equal)) apart.0) in
      split ∙ ap (λ b. (b && here) || rest) equal ∙ ap (λ b. here || b) none ∙ or_nothing here ∙ live_member torrent e each.0 ∙ sym (ap found equal))
      (λ differ. split ∙ ap (λ b. (b && here) || rest) differ ∙ pairs_member h e torrents apart.1 each.1 ∙ sym (ap found differ))

-- no element is the same as a key that isn't among them
none_same : {K : Type 0} (same : K → K → Bool) (k : K) (ys : List K) → is_member same ys k ≡ false → AllByRecursion (λ y. same k y ≡ false) ys
none_same same k [] never = tt
none_same same k (y ∷ ys) never = let parts = or_false (same k y) (is_member same ys k) never in (parts.0, none_same same k ys parts.1)

all_apart : {K : Type 0} (same : K → K → Bool) (k : K) (xs ys : List K) → AllByRecursion (λ y. same k y ≡ false) xs → AllByRecursion (λ y. same k y ≡ false) ys → AllByRecursion (λ y. same k y ≡ false) (xs ++ ys)
all_apart same k [] ys apart also = also
all_apart same k (x ∷ xs) ys apart also = (apart.0, all_apart same k xs ys apart.1 also)

-- a list and another whose keys it lacks
append_apart : {K : Type 0} (same : K → K → Bool) (xs ys : List K) → IsDistinct same xs → IsDistinct same ys → AllByRecursion (λ x. is_member same ys x ≡ false) xs → IsDistinct same (xs ++ ys)
unfolding IsDistinct
append_apart same [] ys apart also lacks = also
append_apart same (x ∷ xs) ys apart also lacks = (all_apart same x xs ys apart.0 (none_same same x ys lacks.0), append_apart same xs ys apart.1 also lacks.1)

module _ (minute : ℕ) where
  -- the pairs of one torrent are apart
  pair_apart : (hash : InfoHash) (e : Endpoint) (peers : List Held) → AllByRecursion (λ d. same_endpoint e d ≡ false) (map (λ held. held.who) peers) → AllByRecursion (λ u. same_subject (hash, e) u ≡ false) (map (pair_with minute hash) peers)
  unfolding pair_with
  pair_apart hash e [] apart = tt
  pair_apart hash e (held ∷ peers) apart = (ap (λ b. same_hash hash hash && b) apart.0 ∙ and_false (same_hash hash hash), pair_apart hash e peers apart.1)

  own_apart : (hash : InfoHash) (peers : List Held) → IsDistinct same_endpoint (map (λ held. held.who) peers) → IsDistinct same_subject (map (pair_with minute hash) peers)
  unfolding IsDistinct pair_with
  own_apart hash [] apart = tt
  own_apart hash (held ∷ peers) apart = (pair_apart hash held.who peers apart.0, own_apart hash peers apart.1)

  lack_pairs : (hash : InfoHash) (peers : List Held) (torrents : List Torrent) → AllByRecursion (λ k. same_hash hash k ≡ false) (map (λ torrent. torrent.hash) torrents) →
      AllByRecursion (λ u. is_member same_subject (flat_map (pairs_of minute) torrents) u ≡ false) (map (pair_with minute hash) peers)
  unfolding pair_with
  lack_pairs hash [] torrents apart = tt
  lack_pairs hash (held ∷ peers) torrents apart = (no_pairs minute hash held.who torrents apart, lack_pairs hash peers torrents apart)

  all_apart_pairs : (torrents : List Torrent) → IsDistinct same_hash (map (λ torrent. torrent.hash) torrents) → AllByRecursion IsTidy torrents → IsDistinct same_subject (flat_map (pairs_of minute) torrents)
  unfolding IsDistinct pairs_of
  all_apart_pairs [] apart each = tt
  all_apart_pairs (torrent ∷ torrents) apart each =
      append_apart same_subject (pairs_of minute torrent) (flat_map (pairs_of minute) torrents)
      (own_apart torrent.hash (live_peers minute torrent) (keys_apart same_endpoint same_endpoint_decides (λ (held : Held). held.who) (is_live_in minute) (peers_of torrent) each.0.distinct))
      (all_apart_pairs torrents apart.1 each.1)
      (lack_pairs torrent.hash (live_peers minute torrent) torrents apart.0)

  pairs_count : (torrents : List Torrent) → length (flat_map (pairs_of minute) torrents) ≡ sum_by (λ torrent. length (live_peers minute torrent)) torrents
  unfolding pairs_of
  pairs_count torrents =
      length-flat_map (pairs_of minute) torrents
      ∙ λ i. sum_by (λ torrent. length-map (live_peers minute torrent) (pair_with minute torrent.hash) i) torrents

-- the live peers of all torrents, counted from scratch, are those that are stored and live
pub live_count-stored : (past : List Entry) (stored : List Torrent) → Keeps past (time_of past) stored → live_count past ≡ sum_by (λ torrent. length (live_peers (time_of past) torrent)) stored
live_count-stored past stored kept =
    let now = time_of past in
    let at = λ (s : InfoHash × Endpoint). is_live past s.0 s.1 now in
    let members : (u : InfoHash × Endpoint) → is_member same_subject (flat_map (pairs_of now) stored) u ≡ is_member same_subject (filter at (subjects past)) u = λ u.
    pairs_member now u.0 u.1 stored kept.tidy.distinct kept.tidy.each
    ∙ ap is_some (kept.peers u.0 u.1)
    ∙ by_test (is_member same_subject (subjects past) u) (at u ≡ (is_member same_subject (subjects past) u && at u))
    (λ among. sym (ap (λ b. b && at u) among))
    (λ never. ap (λ o. is_some (if_live now o)) (unnamed_pair past u.0 u.1 never) ∙ sym (ap (λ b. b && at u) never))
    ∙ sym (is_member-filter same_subject_laws at u (alike_from_same same_subject_decides at u) (subjects past)) in
    sym (length-from_keys same_subject_laws (flat_map (pairs_of now) stored) (filter at (subjects past)) (all_apart_pairs now stored kept.tidy.distinct kept.tidy.each) members)
    ∙ pairs_count now stored
