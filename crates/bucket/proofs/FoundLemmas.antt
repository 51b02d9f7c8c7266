-- Where the torrent of a hash stands: at the place that the index tells, or nowhere.
use Rattle.std.proofs.Common.{◌≡◌, ℕ, zero, suc, ◌<◌, Bool, true, false, cond, List, [], ◌∷◌, ◌++◌, Option, Some, None, inl, inr, refl, sym, ◌∙◌, ap, subst, length, map, arith, get_or}
use Rattle.std.specs.List.{All, Contains, find, position_or_len, slice_get}
use Rattle.std.specs.Option.{option_map}
use Rattle.std.proofs.lemmas.List.{length-map}
use Rattle.std.proofs.lemmas.List.Elements.{All-contains, Contains-append_cases, Contains-append_right}
use Rattle.std.proofs.lemmas.List.Folds.{find_at}
use Rattle.std.proofs.lemmas.List.Quantifiers.{position-Some}
use Rattle.std.proofs.lemmas.List.Sorted.{Contains-permutation, IsPermutation-sym}
use Rattle.std.proofs.lemmas.List.Sums.{passes_at_first}
use Rattle.std.proofs.lemmas.Option.{slice_get-map, slice_get_within, slice_get-get_or, get_or_from_slice_get, none-some, same_Some}
use Rattle.ot_base.specs.Same.{same_hash}
use Rattle.ot_base.proofs.SameLemmas.{same_hash_decides}
use Rattle.ot_base.specs.declared.hash.InfoHash.{InfoHash}
use Rattle.age_ring.specs.Ring.{items_of}
use Rattle.tracker_model.specs.Shape.{Torrent, is_known_in, torrent_of}
use Rattle.tracker_model.proofs.Cases.{by_test}
use Rattle.swarm.proofs.PlaceLemmas.{find_placed, find_nowhere}
use Rattle.bucket.specs.Changes.{DropsUnknown}
use Rattle.bucket.specs.Index.{IsIndexed}
use Rattle.bucket.specs.Table.{torrents_by}
use Rattle.bucket.specs.Torrents.{if_known, new_torrent, place_of}
use Rattle.bucket.specs.declared.stored.Stored.{Stored}
use Rattle.bucket.proofs.TableLemmas.{hashes_by}

abbrev pub hashes_of : List Torrent → List InfoHash
hashes_of torrents = map (λ torrent. torrent.hash) torrents

abbrev pub is_of : InfoHash → Torrent → Bool
is_of hash torrent = same_hash hash torrent.hash

-- what passes is found
never : {X : Type 0} (p : X → Bool) (xs : List X) (k : ℕ) (x : X) → slice_get xs k ≡ Some x → p x ≡ true → find p xs ≡ None → ⊥
never p [] k x here passes none = none-some x here
never {X} p (y ∷ ys) zero x here passes none =
    none-some y (sym none ∙ ap (λ b. cond b (Some y) (find p ys)) (ap p (same_Some y x here) ∙ passes))
never {X} p (y ∷ ys) (suc k) x here passes none =
    by_test (p y) ⊥
    (λ yes. none-some y (sym none ∙ ap (λ b. cond b (Some y) (find p ys)) yes))
    (λ no. never p ys k x here passes (sym (ap (λ b. cond b (Some y) (find p ys)) no) ∙ none))

hash_at : (torrents : List Torrent) (i : ℕ) (t : Torrent) → slice_get torrents i ≡ Some t → slice_get (hashes_of torrents) i ≡ Some t.hash
hash_at torrents i t here = slice_get-map (λ (x : Torrent). x.hash) torrents i ∙ ap (λ o. option_map (λ (x : Torrent). x.hash) o) here

-- a torrent stands where the index tells
pub place_indexed : (torrents : List Torrent) (look : InfoHash → Option ℕ) (h : InfoHash) → IsIndexed (hashes_of torrents) look → place_of h torrents ≡ look h
place_indexed torrents look h it = by_place torrents look h it (place_of h torrents) refl
  where
    nowhere : (torrents : List Torrent) (look : InfoHash → Option ℕ) (h : InfoHash) → IsIndexed (hashes_of torrents) look → place_of h torrents ≡ None → (o : Option ℕ) → look h ≡ o → None ≡ o
    nowhere torrents look h it none None is = refl
    nowhere torrents look h it none (Some i) is =
        let here : slice_get (hashes_of torrents) i ≡ Some h = it.there h i is in
        let within : i < length torrents = omega (arith, slice_get_within (hashes_of torrents) i h here, length-map torrents (λ (x : Torrent). x.hash)) in
        let t = get_or torrents i (new_torrent h) in
        let there = slice_get-get_or torrents i (new_torrent h) within in
        let is_h : t.hash ≡ h = same_Some t.hash h (sym (hash_at torrents i t there) ∙ here) in
        absurd (never (is_of h) torrents i t there ((same_hash_decides h t.hash).1 (sym is_h)) (find_nowhere (is_of h) torrents none))

    by_place : (torrents : List Torrent) (look : InfoHash → Option ℕ) (h : InfoHash) → IsIndexed (hashes_of torrents) look → (o : Option ℕ) → place_of h torrents ≡ o → place_of h torrents ≡ look h
    by_place torrents look h it None none = none ∙ nowhere torrents look h it none (look h) refl
    by_place torrents look h it (Some i) at =
        let place = position-Some (is_of h) torrents i (new_torrent h) at in
        let t = get_or torrents i (new_torrent h) in
        let is_h : h ≡ t.hash = (same_hash_decides h t.hash).0 place.1 in
        at ∙ sym (it.found h i (hash_at torrents i t (slice_get-get_or torrents i (new_torrent h) place.0) ∙ ap Some (sym is_h)))

-- the same of the torrents of a ring's pairs
pub place_by : (pairs : List (InfoHash × ℕ)) (list : List Stored) (look : InfoHash → Option ℕ) (h : InfoHash) → length list ≡ length pairs → IsIndexed (items_of pairs) look → place_of h (torrents_by pairs list) ≡ look h
place_by pairs list look h as_many it =
    let P : List InfoHash → Type 0 = λ l. IsIndexed l look in
    place_indexed (torrents_by pairs list) look h (subst P (sym (hashes_by pairs list as_many)) it)

-- the torrent that stands at a place is found at its hash
pub found_at : (torrents : List Torrent) (look : InfoHash → Option ℕ) (h : InfoHash) (i : ℕ) (t : Torrent) → IsIndexed (hashes_of torrents) look → slice_get torrents i ≡ Some t → h ≡ t.hash → torrent_of torrents h ≡ Some t
found_at torrents look h i t it here is =
    let place : place_of h torrents ≡ Some i = place_indexed torrents look h it ∙ it.found h i (hash_at torrents i t here ∙ ap Some (sym is)) in
    find_placed (is_of h) torrents i t place ∙ ap Some (get_or_from_slice_get torrents i t t here)

among_at : {X : Type 0} (xs : List X) (x : X) (it : Contains xs x) → slice_get xs it.0 ≡ Some x
among_at xs x it = slice_get-get_or xs it.0 x it.1 ∙ ap Some it.2

found_among : (torrents : List Torrent) (look : InfoHash → Option ℕ) (h : InfoHash) (t : Torrent) → IsIndexed (hashes_of torrents) look → Contains torrents t → h ≡ t.hash → torrent_of torrents h ≡ Some t
found_among torrents look h t it among is = found_at torrents look h among.0 t it (among_at torrents t among) is

-- what is found is among the torrents, and has the hash
pub found_is : (torrents : List Torrent) (h : InfoHash) (t : Torrent) → torrent_of torrents h ≡ Some t → Contains torrents t × (h ≡ t.hash)
found_is torrents h t found =
    let first = position_or_len (is_of h) torrents in
    let here : slice_get torrents first ≡ Some t = sym (find_at (is_of h) torrents) ∙ found in
    let within = slice_get_within torrents first t here in
    let is : get_or torrents first t ≡ t = get_or_from_slice_get torrents first t t here in
    let passes : same_hash h t.hash ≡ true = ap (is_of h) (sym is) ∙ passes_at_first (is_of h) torrents t within in
    ((first, within, is), (same_hash_decides h t.hash).0 passes)

-- where those have gone that weren't known, what is known is found as before
pub found_known : (minute : ℕ) (old new : List Torrent) (look look' : InfoHash → Option ℕ) (h : InfoHash) → IsIndexed (hashes_of old) look → IsIndexed (hashes_of new) look' → DropsUnknown minute old new → All (λ t. is_known_in minute t ≡ true) new → torrent_of new h ≡ if_known minute (torrent_of old h)
found_known minute old new look look' h it it' drops known = by_found minute old new look look' h it it' drops known (torrent_of new h) refl
  where
    missing : (minute : ℕ) (old new : List Torrent) (look' : InfoHash → Option ℕ) (h : InfoHash) → IsIndexed (hashes_of new) look' → DropsUnknown minute old new → torrent_of new h ≡ None → (o : Option Torrent) → torrent_of old h ≡ o → None ≡ if_known minute o
    missing minute old new look' h it' drops none None was = refl
    missing minute old new look' h it' drops none (Some t) was =
        let old_one = found_is old h t was in
        elim (Contains-append_cases drops.gone new t (Contains-permutation old (drops.gone ++ new) t drops.moves old_one.0)) [
          | inl went ↦ sym (ap (λ b. cond b (Some t) None) (All-contains (λ x. is_known_in minute x ≡ false) drops.gone t drops.each went))
          | inr stayed ↦ absurd (none-some t (sym none ∙ found_among new look' h t it' stayed old_one.1))
        ]

    by_found : (minute : ℕ) (old new : List Torrent) (look look' : InfoHash → Option ℕ) (h : InfoHash) → IsIndexed (hashes_of old) look → IsIndexed (hashes_of new) look' → DropsUnknown minute old new → All (λ t. is_known_in minute t ≡ true) new → (o : Option Torrent) → torrent_of new h ≡ o → torrent_of new h ≡ if_known minute (torrent_of old h)
    by_found minute old new look look' h it it' drops known None none = none ∙ missing minute old new look' h it' drops none (torrent_of old h) refl
    by_found minute old new look look' h it it' drops known (Some t) found =
        let new_one = found_is new h t found in
        let was = Contains-permutation (drops.gone ++ new) old t (IsPermutation-sym old (drops.gone ++ new) drops.moves) (Contains-append_right drops.gone new t new_one.0) in
        let before : torrent_of old h ≡ Some t = found_among old look h t it was new_one.1 in
        let is : is_known_in minute t ≡ true = All-contains (λ x. is_known_in minute x ≡ true) new t known new_one.0 in
        found ∙ sym (ap (λ o. if_known minute o) before ∙ ap (λ b. cond b (Some t) None) is)
