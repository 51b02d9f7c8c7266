-- Where torrents stand, and what is looked up after a change at a place.
use Rattle.std.proofs.Common.{◌≡◌, ℕ, ◌+◌, ◌≤◌, Bool, true, false, List, [], ◌∷◌, ◌++◌, Option, Some, None, refl, sym, ◌∙◌, ap, subst, arith, length, get_or, cond, nat_lt, if◌then◌else◌}
use Rattle.std.specs.List.{All, find, slice_get, position, position_or_len}
use Rattle.std.specs.Option.{option_or}
use Rattle.std.proofs.Math.ListN.{set, length-set}
use Rattle.std.proofs.lemmas.List.Elements.{All-contains}
use Rattle.std.proofs.lemmas.List.Folds.{find_at, find-append, find-set, find_past, position_or_len-set}
use Rattle.std.proofs.lemmas.List.Quantifiers.{position-Some}
use Rattle.std.proofs.lemmas.List.Sums.{position_or_len_is, fails_before_first}
use Rattle.std.proofs.lemmas.List.{get_or_append_left, get_or_push, length_push}
use Rattle.std.proofs.lemmas.Bool.Decides.{nat_tests}
use Rattle.std.proofs.lemmas.Option.{cond_some, get_or_from_slice_get}
use Rattle.ot_base.specs.Same.{same_hash}
use Rattle.ot_base.proofs.SameLemmas.{same_hash_decides}
use Rattle.ot_base.specs.declared.hash.InfoHash.{InfoHash}
use Rattle.tracker_model.specs.Shape.{Torrent, torrent_of}
use Rattle.tracker_model.proofs.Cases.{by_test}
use Rattle.swarm.proofs.PlaceLemmas.{find_nowhere}
use Rattle.bucket.specs.Torrents.{place_of}
use Rattle.bucket.proofs.FoundLemmas.{found_is}

pub itself : (h : InfoHash) → same_hash h h ≡ true
itself h = (same_hash_decides h h).1 refl

-- a position is the first one
pub first_at : {X : Type 0} (p : X → Bool) (xs : List X) (i : ℕ) → position p xs ≡ Some i → position_or_len p xs ≡ i
first_at p xs i at = (cond_some (nat_lt (position_or_len p xs) (length xs)) (position_or_len p xs) i at).1

-- what stands at a position is found
pub found_at : {X : Type 0} (p : X → Bool) (xs : List X) (i : ℕ) (x : X) → position p xs ≡ Some i → slice_get xs i ≡ Some x → find p xs ≡ Some x
found_at p xs i x at stood = find_at p xs ∙ ap (λ k. slice_get xs k) (first_at p xs i at) ∙ stood

-- what holds of all torrents holds of the one that is found, and that is of the hash
pub all_found : (P : Torrent → Type 0) (torrents : List Torrent) (h : InfoHash) (t : Torrent) → All P torrents → torrent_of torrents h ≡ Some t → P t
all_found P torrents h t all found = All-contains P torrents t all (found_is torrents h t found).0

pub hash_found : (torrents : List Torrent) (h : InfoHash) (t : Torrent) → torrent_of torrents h ≡ Some t → t.hash ≡ h
hash_found torrents h t found = sym (found_is torrents h t found).1

-- by whether a hash is another one
pub by_hash : (a b : InfoHash) (P : Type 0) → (a ≡ b → P) → (same_hash a b ≡ false → P) → P
by_hash a b P same apart = by_test (same_hash a b) P (λ yes. same ((same_hash_decides a b).0 yes)) apart

pub flipped : (a b : InfoHash) → same_hash a b ≡ false → same_hash b a ≡ false
flipped a b apart =
    by_test (same_hash b a) (same_hash b a ≡ false)
    (λ yes. absurd (let clash : true ≡ false = sym ((same_hash_decides a b).1 (sym ((same_hash_decides b a).0 yes))) ∙ apart in cc))
    (λ no. no)

-- an element that passes is the first one behind a list of which none passes
pushed_first : {X : Type 0} (p : X → Bool) (xs : List X) (y : X) → position p xs ≡ None → p y ≡ true → position p (xs ++ y ∷ []) ≡ Some (length xs)
pushed_first p xs y none passes =
    let n = length xs in
    let past : nat_lt (position_or_len p xs) n ≡ false =
    by_test (nat_lt (position_or_len p xs) n) (nat_lt (position_or_len p xs) n ≡ false)
    (λ yes. absurd (let s : Some (position_or_len p xs) ≡ None = sym (ap (λ b. cond b (Some (position_or_len p xs)) None) yes) ∙ none in cc))
    (λ no. no) in
    let behind : n ≤ position_or_len p xs = grind (arith, nat_tests) in
    let long : length (xs ++ y ∷ []) ≡ n + 1 = length_push xs y in
    let first : position_or_len p (xs ++ y ∷ []) ≡ n = position_or_len_is p (xs ++ y ∷ []) n y (omega arith)
    (λ k less. ap p (get_or_append_left xs (y ∷ []) y k less) ∙ fails_before_first p xs k y (omega arith))
    (λ within. ap p (get_or_push xs y y n refl) ∙ passes) in
    let within : nat_lt n (length (xs ++ y ∷ [])) ≡ true = grind (arith, nat_tests) in
    ap (λ k. cond (nat_lt k (length (xs ++ y ∷ []))) (Some k) None) first ∙ ap (λ b. cond b (Some n) None) within

-- a torrent of the same hash is put at the place
module _ (h : InfoHash) (torrents : List Torrent) (i : ℕ) (after : Torrent) (at : place_of h torrents ≡ Some i) (hash : after.hash ≡ h) where
  passes : same_hash h after.hash ≡ true
  passes = (same_hash_decides h after.hash).1 (sym hash)

  pub found_set : (k : InfoHash) → torrent_of (set torrents i after) k ≡ (if same_hash k h then Some after else torrent_of torrents k)
  found_set k =
      let stood = position-Some (λ u. same_hash h u.hash) torrents i after at in
      by_hash k h (torrent_of (set torrents i after) k ≡ (if same_hash k h then Some after else torrent_of torrents k))
      (λ same.
      let P : InfoHash → Type 0 = λ g. torrent_of (set torrents i after) g ≡ Some after in
      subst P (sym same) (find-set (λ u. same_hash h u.hash) torrents i after (sym (first_at (λ u. same_hash h u.hash) torrents i at)) stood.0 passes)
      ∙ sym (ap (λ b. if b then Some after else torrent_of torrents k) ((same_hash_decides k h).1 same)))
      (λ apart.
      let there : h ≡ (get_or torrents i after).hash = (same_hash_decides h (get_or torrents i after).hash).0 stood.1 in
      find_past (λ u. same_hash k u.hash) torrents i after after (ap (λ g. same_hash k g) (sym there) ∙ apart) (ap (λ g. same_hash k g) hash ∙ apart)
      ∙ sym (ap (λ b. if b then Some after else torrent_of torrents k) apart))

  pub place_set : place_of h (set torrents i after) ≡ Some i
  place_set =
      let stood = position-Some (λ u. same_hash h u.hash) torrents i after at in
      let first : position_or_len (λ (u : Torrent). same_hash h u.hash) (set torrents i after) ≡ position_or_len (λ (u : Torrent). same_hash h u.hash) torrents =
      position_or_len-set (λ u. same_hash h u.hash) torrents i after after (passes ∙ sym stood.1) in
      ap (λ n. cond (nat_lt n (length (set torrents i after))) (Some n) None) first
      ∙ ap (λ l. cond (nat_lt (position_or_len (λ (u : Torrent). same_hash h u.hash) torrents) l) (Some (position_or_len (λ (u : Torrent). same_hash h u.hash) torrents)) None) (length-set torrents i after)
      ∙ at

-- a torrent that is changed at a place keeps the places of all hashes
pub places_kept : (h : InfoHash) (torrents : List Torrent) (i : ℕ) (before after : Torrent) → slice_get torrents i ≡ Some before → after.hash ≡ before.hash → place_of h (set torrents i after) ≡ place_of h torrents
places_kept h torrents i before after stood same =
    let p = λ (u : Torrent). same_hash h u.hash in
    let here : (get_or torrents i after).hash ≡ before.hash = ap (λ (u : Torrent). u.hash) (get_or_from_slice_get torrents i before after stood) in
    let first : position_or_len p (set torrents i after) ≡ position_or_len p torrents = position_or_len-set p torrents i after after (ap (λ k. same_hash h k) (same ∙ sym here)) in
    ap (λ n. cond (nat_lt n (length (set torrents i after))) (Some n) None) first
    ∙ ap (λ l. cond (nat_lt (position_or_len p torrents) l) (Some (position_or_len p torrents)) None) (length-set torrents i after)

-- a torrent of a hash that has none is added
module _ (h : InfoHash) (torrents : List Torrent) (added : Torrent) (none : place_of h torrents ≡ None) (hash : added.hash ≡ h) where
  pub found_push : (k : InfoHash) → torrent_of (torrents ++ added ∷ []) k ≡ (if same_hash k h then Some added else torrent_of torrents k)
  found_push k =
      let last : torrent_of (torrents ++ added ∷ []) k ≡ option_or (torrent_of torrents k) (cond (same_hash k h) (Some added) None) =
      find-append (λ u. same_hash k u.hash) torrents (added ∷ []) ∙ ap (λ g. option_or (torrent_of torrents k) (cond (same_hash k g) (Some added) None)) hash in
      by_hash k h (torrent_of (torrents ++ added ∷ []) k ≡ (if same_hash k h then Some added else torrent_of torrents k))
      (λ same.
      let nothing : torrent_of torrents k ≡ None = ap (λ g. torrent_of torrents g) same ∙ find_nowhere (λ u. same_hash h u.hash) torrents none in
      let yes : same_hash k h ≡ true = (same_hash_decides k h).1 same in
      last ∙ ap (λ o. option_or o (cond (same_hash k h) (Some added) None)) nothing ∙ ap (λ b. cond b (Some added) None) yes
      ∙ sym (ap (λ b. if b then Some added else torrent_of torrents k) yes))
      (λ apart. last ∙ ap (λ b. option_or (torrent_of torrents k) (cond b (Some added) None)) apart ∙ or_none (torrent_of torrents k)
      ∙ sym (ap (λ b. if b then Some added else torrent_of torrents k) apart))
    where
      or_none : (o : Option Torrent) → option_or o None ≡ o
      or_none None = refl
      or_none (Some t) = refl

  pub place_push : place_of h (torrents ++ added ∷ []) ≡ Some (length torrents)
  place_push = pushed_first (λ u. same_hash h u.hash) torrents added none ((same_hash_decides h added.hash).1 (sym hash))
