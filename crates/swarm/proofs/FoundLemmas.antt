-- What is found at an endpoint after each kind of change.
use Rattle.std.proofs.Common.{◌≡◌, ◌≢◌, ℕ, zero, suc, ◌+◌, ◌-◌, ◌<◌, inl, inr, Bool, true, false, cond, nat_lt, List, [], ◌∷◌, ◌++◌, Option, Some, None, if◌then◌else◌, refl, sym, ◌∙◌, ap, subst, length, arith, get_or}
use Rattle.std.specs.List.{All, Contains, IsDistinct, find, position_or_len, slice_get, swap_remove}
use Rattle.std.specs.Option.{option_map, option_map_or, option_or}
use Rattle.std.proofs.Math.ListN.{set}
use Rattle.std.proofs.lemmas.Bool.{cases_eq, cases_lt}
use Rattle.std.proofs.lemmas.List.{length-map}
use Rattle.std.proofs.lemmas.List.Elements.{All-contains, Contains-append_right, Contains-append_cases}
use Rattle.std.proofs.lemmas.List.Folds.{find_at, find-append, find-set, find_past}
use Rattle.std.proofs.lemmas.List.Quantifiers.{position-Some}
use Rattle.std.proofs.lemmas.List.Sorted.{Contains-permutation, IsPermutation-sym}
use Rattle.std.proofs.lemmas.List.Sums.{passes_at_first}
use Rattle.std.proofs.lemmas.Map.Keys.{apart_from_distinct}
use Rattle.std.proofs.lemmas.Option.{slice_get-map, slice_get_within, slice_get-get_or, get_or_from_slice_get, cond_some, none-some, same_Some}
use Rattle.ot_base.specs.Same.{same_endpoint}
use Rattle.ot_base.proofs.SameLemmas.{same_endpoint_decides}
use Rattle.ot_base.specs.declared.address.Endpoint.{Endpoint}
use Rattle.ot_base.specs.declared.peer.Held.{Held}
use Rattle.swarm.specs.Members.{Expires}
use Rattle.swarm.specs.Peers.{endpoints_of, if_young, is_of, is_young, no_peer, place_of, put_peer, without_peer}
use Rattle.swarm.proofs.IndexLemmas.{by_test, differ}
use Rattle.swarm.proofs.Indexed.{by_endpoint}
use Rattle.swarm.proofs.ListLemmas.{left_other, left_gap, stays_other, moves_last, reads}
use Rattle.swarm.proofs.PlaceLemmas.{find_nowhere}

-- what is found stands at a place, and passes
found_place : {X : Type 0} (p : X → Bool) (xs : List X) (x : X) → find p xs ≡ Some x → (slice_get xs (position_or_len p xs) ≡ Some x) × (p x ≡ true)
found_place p xs x found =
    let here = sym (find_at p xs) ∙ found in
    let within = slice_get_within xs (position_or_len p xs) x here in
    (here, ap p (sym (get_or_from_slice_get xs (position_or_len p xs) x x here)) ∙ passes_at_first p xs x within)

-- endpoints that differ: one place has an endpoint
apart_places : (peers : List Held) (i k : ℕ) (a b : Held) → IsDistinct same_endpoint (endpoints_of peers) → slice_get peers i ≡ Some a → slice_get peers k ≡ Some b → i < k → a.who ≢ b.who
apart_places peers i k a b distinct at_a at_b less same =
    let names = endpoints_of peers in
    let n = length-map peers (λ (h : Held). h.who) in
    let name_a : get_or names i a.who ≡ a.who = get_or_from_slice_get names i a.who a.who (slice_get-map (λ (h : Held). h.who) peers i ∙ ap (λ o. option_map (λ (h : Held). h.who) o) at_a) in
    let name_b : get_or names k a.who ≡ b.who = get_or_from_slice_get names k b.who a.who (slice_get-map (λ (h : Held). h.who) peers k ∙ ap (λ o. option_map (λ (h : Held). h.who) o) at_b) in
    let within = slice_get_within peers k b at_b in
    let apart : same_endpoint (get_or names i a.who) (get_or names k a.who) ≡ false = apart_from_distinct same_endpoint names i k a.who distinct less (omega arith) in
    let clash : true ≡ false = sym ((same_endpoint_decides (get_or names i a.who) (get_or names k a.who)).1 (name_a ∙ same ∙ sym name_b)) ∙ apart in
    cc

one_stands : (peers : List Held) (i k : ℕ) (a b : Held) → IsDistinct same_endpoint (endpoints_of peers) → slice_get peers i ≡ Some a → slice_get peers k ≡ Some b → a.who ≡ b.who → i ≡ k
one_stands peers i k a b distinct at_a at_b same =
    elim (cases_lt i k) [
      | inl less ↦ absurd (apart_places peers i k a b distinct at_a at_b less same)
      | inr le ↦ elim (cases_lt k i) [
        | inl more ↦ absurd (apart_places peers k i b a distinct at_b at_a more (sym same))
        | inr ge ↦ omega arith
      ]
    ]

is_who : (e : Endpoint) (h : Held) → is_of e h ≡ true → h.who ≡ e
is_who e h passes = sym ((same_endpoint_decides e h.who).0 passes)

never : {X : Type 0} (p : X → Bool) (xs : List X) (k : ℕ) (h : X) → slice_get xs k ≡ Some h → p h ≡ true → find p xs ≡ None → ⊥
never p [] k h here passes none = none-some h here
never {X} p (x ∷ xs) zero h here passes none =
    let at_x : p x ≡ true = ap p (same_Some x h here) ∙ passes in
    none-some x (sym none ∙ ap (λ b. cond b (Some x) (find p xs)) at_x)
never {X} p (x ∷ xs) (suc k) h here passes none =
    by_test (p x) ⊥
    (λ at_x. none-some x (sym none ∙ ap (λ b. cond b (Some x) (find p xs)) at_x))
    (λ not_x. never p xs k h here passes (sym (ap (λ b. cond b (Some x) (find p xs)) not_x) ∙ none))

-- a peer that stands in a list is found, where no other one has its endpoint
find_only : (peers : List Held) (k : ℕ) (h : Held) (e : Endpoint) → slice_get peers k ≡ Some h → is_of e h ≡ true → ((j : ℕ) (g : Held) → slice_get peers j ≡ Some g → is_of e g ≡ true → g ≡ h) → find (is_of e) peers ≡ Some h
find_only peers k h e here passes only = by_found peers k h e here passes only (find (is_of e) peers) refl
  where
    by_found : (peers : List Held) (k : ℕ) (h : Held) (e : Endpoint) → slice_get peers k ≡ Some h → is_of e h ≡ true → ((j : ℕ) (g : Held) → slice_get peers j ≡ Some g → is_of e g ≡ true → g ≡ h) → (o : Option Held) → find (is_of e) peers ≡ o → find (is_of e) peers ≡ Some h
    by_found peers k h e here passes only None none = absurd (never (is_of e) peers k h here passes none)
    by_found peers k h e here passes only (Some g) found =
        let it = found_place (is_of e) peers g found in
        found ∙ ap Some (only (position_or_len (is_of e) peers) g it.0 it.1)

find_distinct : (peers : List Held) (k : ℕ) (h : Held) (e : Endpoint) → IsDistinct same_endpoint (endpoints_of peers) → slice_get peers k ≡ Some h → is_of e h ≡ true → find (is_of e) peers ≡ Some h
find_distinct peers k h e distinct here passes =
    find_only peers k h e here passes (λ j g there also.
    let same = one_stands peers j k g h distinct there here (is_who e g also ∙ sym (is_who e h passes)) in
    same_Some g h (sym there ∙ ap (λ m. slice_get peers m) same ∙ here))

or_none : {X : Type 0} (o : Option X) → option_or o None ≡ o
or_none None = refl
or_none (Some x) = refl

pub found_put : (peer : Held) (peers : List Held) (e : Endpoint) → find (is_of e) (put_peer peer peers) ≡ (if same_endpoint e peer.who then Some peer else find (is_of e) peers)
found_put peer peers e = by_place peer peers e (place_of peer.who peers) refl
  where
    by_place : (peer : Held) (peers : List Held) (e : Endpoint) (o : Option ℕ) → place_of peer.who peers ≡ o → find (is_of e) (put_peer peer peers) ≡ (if same_endpoint e peer.who then Some peer else find (is_of e) peers)
    by_place peer peers e None none =
        let is : put_peer peer peers ≡ peers ++ peer ∷ [] = ap (λ o. option_map_or (λ i. set peers i peer) o (peers ++ peer ∷ [])) none in
        let found : find (is_of e) (put_peer peer peers) ≡ option_or (find (is_of e) peers) (cond (same_endpoint e peer.who) (Some peer) None) = ap (λ l. find (is_of e) l) is ∙ find-append (is_of e) peers (peer ∷ []) in
        by_endpoint e peer.who (find (is_of e) (put_peer peer peers) ≡ (if same_endpoint e peer.who then Some peer else find (is_of e) peers))
        (λ same.
        let yes_ : same_endpoint e peer.who ≡ true = (same_endpoint_decides e peer.who).1 same in
        let P : Endpoint → Type 0 = λ x. find (is_of x) peers ≡ None in
        let nothing : find (is_of e) peers ≡ None = subst P (sym same) (find_nowhere (is_of peer.who) peers none) in
        found ∙ ap (λ o. option_or o (cond (same_endpoint e peer.who) (Some peer) None)) nothing ∙ ap (λ b. cond b (Some peer) None) yes_ ∙ sym (ap (λ b. cond b (Some peer) (find (is_of e) peers)) yes_))
        (λ apart.
        let no_ : same_endpoint e peer.who ≡ false = differ e peer.who apart in
        found ∙ ap (λ b. option_or (find (is_of e) peers) (cond b (Some peer) None)) no_ ∙ or_none (find (is_of e) peers) ∙ sym (ap (λ b. cond b (Some peer) (find (is_of e) peers)) no_))
    by_place peer peers e (Some i) at =
        let is : put_peer peer peers ≡ set peers i peer = ap (λ o. option_map_or (λ k. set peers k peer) o (peers ++ peer ∷ [])) at in
        let place = position-Some (is_of peer.who) peers i no_peer at in
        let first : position_or_len (is_of peer.who) peers ≡ i = (cond_some (nat_lt (position_or_len (is_of peer.who) peers) (length peers)) (position_or_len (is_of peer.who) peers) i at).1 in
        by_endpoint e peer.who (find (is_of e) (put_peer peer peers) ≡ (if same_endpoint e peer.who then Some peer else find (is_of e) peers))
        (λ same.
        let yes_ : same_endpoint e peer.who ≡ true = (same_endpoint_decides e peer.who).1 same in
        let P : Endpoint → Type 0 = λ x. find (is_of x) (set peers i peer) ≡ Some peer in
        ap (λ l. find (is_of e) l) is ∙ subst P (sym same) (find-set (is_of peer.who) peers i peer (sym first) place.0 ((same_endpoint_decides peer.who peer.who).1 refl)) ∙ sym (ap (λ b. cond b (Some peer) (find (is_of e) peers)) yes_))
        (λ apart.
        let no_ : same_endpoint e peer.who ≡ false = differ e peer.who apart in
        let stood : is_of e (get_or peers i no_peer) ≡ false = ap (λ x. same_endpoint e x) (is_who peer.who (get_or peers i no_peer) place.1) ∙ no_ in
        ap (λ l. find (is_of e) l) is ∙ find_past (is_of e) peers i peer no_peer stood no_ ∙ sym (ap (λ b. cond b (Some peer) (find (is_of e) peers)) no_))

-- who is left stood at a place other than the gap
left_somewhere : (xs : List Held) (i k : ℕ) (d x : Held) → slice_get (swap_remove xs i d) k ≡ Some x → (j : ℕ) × (slice_get xs j ≡ Some x) × (j ≢ i)
left_somewhere xs i k d x h =
    elim (cases_eq k i) [
      | inl same ↦
          let P : ℕ → Type 0 = λ m. slice_get (swap_remove xs i d) m ≡ Some x in
          let last = left_gap xs i d x (subst P same h) in
          (length xs - 1, last.0, λ e. omega (arith, last.1))
      | inr apart ↦ (k, (left_other xs i k d x apart h).0, apart)
    ]

-- and who stood at another place is left
left_of : (xs : List Held) (i k : ℕ) (d x : Held) → i < length xs → k ≢ i → slice_get xs k ≡ Some x → (j : ℕ) × (slice_get (swap_remove xs i d) j ≡ Some x)
left_of xs i k d x within apart here =
    let below = slice_get_within xs k x here in
    elim (cases_lt (k + 1) (length xs)) [
      | inl less ↦ (k, stays_other xs i k d x apart less here)
      | inr last ↦
          let e : k ≡ length xs - 1 = omega arith in
          (i, moves_last xs i d x (omega arith) (ap (λ m. slice_get xs m) (sym e) ∙ here))
    ]

pub found_take : (who : Endpoint) (peers : List Held) (e : Endpoint) → IsDistinct same_endpoint (endpoints_of peers) → find (is_of e) (without_peer who peers) ≡ (if same_endpoint e who then None else find (is_of e) peers)
found_take who peers e distinct = by_place who peers e distinct (place_of who peers) refl
  where
    gone : (who : Endpoint) (peers : List Held) (i : ℕ) → IsDistinct same_endpoint (endpoints_of peers) → i < length peers → is_of who (get_or peers i no_peer) ≡ true → (o : Option Held) → find (is_of who) (swap_remove peers i no_peer) ≡ o → find (is_of who) (swap_remove peers i no_peer) ≡ None
    gone who peers i distinct within passes None none = none
    gone who peers i distinct within passes (Some g) found =
        let it = found_place (is_of who) (swap_remove peers i no_peer) g found in
        let there = left_somewhere peers i (position_or_len (is_of who) (swap_remove peers i no_peer)) no_peer g it.0 in
        let stood = slice_get-get_or peers i no_peer within in
        absurd (there.2 (one_stands peers there.0 i g (get_or peers i no_peer) distinct there.1 stood (is_who who g it.1 ∙ sym (is_who who (get_or peers i no_peer) passes))))

    nothing : (e : Endpoint) (peers : List Held) (i : ℕ) → find (is_of e) peers ≡ None → (o : Option Held) → find (is_of e) (swap_remove peers i no_peer) ≡ o → find (is_of e) (swap_remove peers i no_peer) ≡ None
    nothing e peers i none None is = is
    nothing e peers i none (Some g) found =
        let it = found_place (is_of e) (swap_remove peers i no_peer) g found in
        let there = left_somewhere peers i (position_or_len (is_of e) (swap_remove peers i no_peer)) no_peer g it.0 in
        absurd (never (is_of e) peers there.0 g there.1 it.1 none)

    stays : (who e : Endpoint) (peers : List Held) (i : ℕ) → IsDistinct same_endpoint (endpoints_of peers) → i < length peers → is_of who (get_or peers i no_peer) ≡ true → who ≢ e → (o : Option Held) → find (is_of e) peers ≡ o → find (is_of e) (swap_remove peers i no_peer) ≡ o
    stays who e peers i distinct within passes apart None none = nothing e peers i none (find (is_of e) (swap_remove peers i no_peer)) refl
    stays who e peers i distinct within passes apart (Some h) found =
        let it = found_place (is_of e) peers h found in
        let k = position_or_len (is_of e) peers in
        let other : k ≢ i = λ same. apart (sym (is_who who (get_or peers i no_peer) passes) ∙ ap (λ (x : Held). x.who) (same_Some (get_or peers i no_peer) h (sym (slice_get-get_or peers i no_peer within) ∙ ap (λ m. slice_get peers m) (sym same) ∙ it.0)) ∙ is_who e h it.1) in
        let left = left_of peers i k no_peer h within other it.0 in
        find_only (swap_remove peers i no_peer) left.0 h e left.1 it.1 (λ j g there also.
        let old = left_somewhere peers i j no_peer g there in
        let same = one_stands peers old.0 k g h distinct old.1 it.0 (is_who e g also ∙ sym (is_who e h it.1)) in
        same_Some g h (sym old.1 ∙ ap (λ m. slice_get peers m) same ∙ it.0))

    by_place : (who : Endpoint) (peers : List Held) (e : Endpoint) → IsDistinct same_endpoint (endpoints_of peers) → (o : Option ℕ) → place_of who peers ≡ o → find (is_of e) (without_peer who peers) ≡ (if same_endpoint e who then None else find (is_of e) peers)
    by_place who peers e distinct None none =
        let is : without_peer who peers ≡ peers = ap (λ o. option_map_or (λ i. swap_remove peers i no_peer) o peers) none in
        by_endpoint e who (find (is_of e) (without_peer who peers) ≡ (if same_endpoint e who then None else find (is_of e) peers))
        (λ same.
        let P : Endpoint → Type 0 = λ x. find (is_of x) peers ≡ None in
        ap (λ l. find (is_of e) l) is ∙ subst P (sym same) (find_nowhere (is_of who) peers none) ∙ sym (ap (λ b. cond b None (find (is_of e) peers)) ((same_endpoint_decides e who).1 same)))
        (λ apart. ap (λ l. find (is_of e) l) is ∙ sym (ap (λ b. cond b None (find (is_of e) peers)) (differ e who apart)))
    by_place who peers e distinct (Some i) at =
        let is : without_peer who peers ≡ swap_remove peers i no_peer = ap (λ o. option_map_or (λ k. swap_remove peers k no_peer) o peers) at in
        let place = position-Some (is_of who) peers i no_peer at in
        by_endpoint e who (find (is_of e) (without_peer who peers) ≡ (if same_endpoint e who then None else find (is_of e) peers))
        (λ same.
        let P : Endpoint → Type 0 = λ x. find (is_of x) (swap_remove peers i no_peer) ≡ None in
        ap (λ l. find (is_of e) l) is ∙ subst P (sym same) (gone who peers i distinct place.0 place.1 (find (is_of who) (swap_remove peers i no_peer)) refl) ∙ sym (ap (λ b. cond b None (find (is_of e) peers)) ((same_endpoint_decides e who).1 same)))
        (λ apart. ap (λ l. find (is_of e) l) is ∙ stays who e peers i distinct place.0 place.1 apart (find (is_of e) peers) refl ∙ sym (ap (λ b. cond b None (find (is_of e) peers)) (differ e who apart)))

contained : {X : Type 0} (xs : List X) (k : ℕ) (x : X) → slice_get xs k ≡ Some x → Contains xs x
contained xs k x here = (k, slice_get_within xs k x here, get_or_from_slice_get xs k x x here)

pub found_expired : (time : ℕ) (old new : List Held) (e : Endpoint) → IsDistinct same_endpoint (endpoints_of old) → Expires time old new → All (λ h. is_young time h ≡ true) new → find (is_of e) new ≡ if_young time (find (is_of e) old)
found_expired time old new e distinct it young = by_found time old new e distinct it young (find (is_of e) new) refl
  where
    missing : (time : ℕ) (old new : List Held) (e : Endpoint) → Expires time old new → find (is_of e) new ≡ None → (o : Option Held) → find (is_of e) old ≡ o → None ≡ if_young time o
    missing time old new e it none None was = refl
    missing time old new e it none (Some h) was =
        let place = found_place (is_of e) old h was in
        let there = Contains-permutation old (it.gone ++ new) h it.moves (contained old (position_or_len (is_of e) old) h place.0) in
        elim (Contains-append_cases it.gone new h there) [
          | inl went ↦
              let due : is_young time h ≡ false = All-contains (λ x. is_young time x ≡ false) it.gone h it.due went in
              sym (ap (λ b. cond b (Some h) None) due)
          | inr stayed ↦ absurd (never (is_of e) new stayed.0 h (reads new stayed.0 h h stayed.1 stayed.2) place.1 none)
        ]

    by_found : (time : ℕ) (old new : List Held) (e : Endpoint) → IsDistinct same_endpoint (endpoints_of old) → Expires time old new → All (λ h. is_young time h ≡ true) new → (o : Option Held) → find (is_of e) new ≡ o → find (is_of e) new ≡ if_young time (find (is_of e) old)
    by_found time old new e distinct it young None none = none ∙ missing time old new e it none (find (is_of e) old) refl
    by_found time old new e distinct it young (Some h) found =
        let place = found_place (is_of e) new h found in
        let among = contained new (position_or_len (is_of e) new) h place.0 in
        let was = Contains-permutation (it.gone ++ new) old h (IsPermutation-sym old (it.gone ++ new) it.moves) (Contains-append_right it.gone new h among) in
        let before : find (is_of e) old ≡ Some h = find_distinct old was.0 h e distinct (reads old was.0 h h was.1 was.2) place.1 in
        let is : is_young time h ≡ true = All-contains (λ x. is_young time x ≡ true) new h young among in
        found ∙ sym (ap (λ o. if_young time o) before ∙ ap (λ b. cond b (Some h) None) is)
