-- What is told, by places in a list without one element.
use Rattle.std.proofs.Common.{◌≡◌, ℕ, zero, suc, ◌+◌, ◌-◌, ◌<◌, ◌≤◌, true, false, not, cond, nat_le, List, [], ◌∷◌, Option, Some, None, refl, sym, ◌∙◌, ap, subst, length, map, arith, get_or, inl, inr}
use Rattle.std.specs.List.{filter, remove, slice_get}
use Rattle.std.specs.Option.{IfSome}
use Rattle.std.proofs.Math.Nat.{min-zero}
use Rattle.std.proofs.lemmas.Bool.{cases_lt}
use Rattle.std.proofs.lemmas.Bool.Decides.{nat_tests}
use Rattle.std.proofs.lemmas.List.{length-map}
use Rattle.std.proofs.lemmas.List.Edits.{length-remove, get_or-remove_below, get_or-remove_above}
use Rattle.std.proofs.lemmas.Option.{none-some, same_Some}
use Rattle.ot_base.specs.Address.{no_endpoint}
use Rattle.ot_base.specs.Same.{same_endpoint}
use Rattle.ot_base.proofs.SameLemmas.{same_endpoint_decides}
use Rattle.ot_base.specs.declared.address.Endpoint.{Endpoint}
use Rattle.age_ring.specs.Ring.{items_of}
use Rattle.swarm.specs.Index.{at_of, IsIndexed}
use Rattle.pick.specs.Picks.{picks}
use Rattle.swarm.specs.Peers.{choice_of, without, place_past}
use Rattle.swarm.specs.declared.index.Place.{Place}
use Rattle.swarm.proofs.IndexLemmas.{differ}
use Rattle.swarm.proofs.Indexed.{by_endpoint}

pub length-without : {X : Type 0} (xs : List X) (i : ℕ) → i < length xs → length xs - 1 ≡ length (without (Some i) xs)
length-without xs i within = omega (arith, length-remove xs i within)

test_le : (i p : ℕ) → i ≤ p → nat_le i p ≡ true
test_le i p h = grind (arith, nat_tests)

test_gt : (i p : ℕ) → p < i → nat_le i p ≡ false
test_gt i p h = grind (arith, nat_tests)

-- passing over the place gives the element, which stands within the list
pub passed_over : {X : Type 0} (xs : List X) (place : Option ℕ) (p : ℕ) (d : X) → IfSome place (λ i. i < length xs) → p < length (without place xs) → (place_past place p < length xs) × (get_or xs (place_past place p) d ≡ get_or (without place xs) p d)
passed_over xs None p d within below = (below, refl)
passed_over {X} xs (Some i) p d within below =
    let P : ℕ → Type 0 = λ m. (m < length xs) × (get_or xs m d ≡ get_or (remove xs i) p d) in
    let n = length-remove xs i within in
    elim (cases_lt p i) [
      | inl low ↦
          let e : p ≡ place_past (Some i) p = sym (ap (λ b. cond b (p + 1) p) (test_gt i p low)) in
          subst P e (omega arith, sym (get_or-remove_below xs i d p low within))
      | inr high ↦
          let e : p + 1 ≡ place_past (Some i) p = sym (ap (λ b. cond b (p + 1) p) (test_le i p high)) in
          subst P e (omega arith, sym (get_or-remove_above xs i d p high within))
    ]

pub some_within : (pairs : List (Endpoint × ℕ)) (place : Option ℕ) → IfSome place (λ i. i < length pairs) → IfSome place (λ i. i < length (items_of pairs))
some_within pairs None within = tt
some_within pairs (Some i) within = omega (arith, within, length-map pairs (λ (p : Endpoint × ℕ). p.0))

-- a list in which an endpoint isn't is the same without it
none_left : (asker : Endpoint) (names : List Endpoint) → ((k : ℕ) → slice_get names k ≡ Some asker → ⊥) → names ≡ filter (λ e. not (same_endpoint asker e)) names
none_left asker [] apart = refl
none_left asker (n ∷ ns) apart =
    by_endpoint asker n (n ∷ ns ≡ filter (λ e. not (same_endpoint asker e)) (n ∷ ns))
    (λ same. absurd (apart zero (ap Some (sym same))))
    (λ other.
    let no : same_endpoint asker n ≡ false = differ asker n other in
    ap (λ l. n ∷ l) (none_left asker ns (λ k h. apart (suc k) h)) ∙ sym (ap (λ b. cond (not b) (n ∷ filter (λ e. not (same_endpoint asker e)) ns) (filter (λ e. not (same_endpoint asker e)) ns)) no))

-- and one in which it is once is the same without its place
one_left : (asker : Endpoint) (names : List Endpoint) (i : ℕ) → slice_get names i ≡ Some asker → ((k : ℕ) → slice_get names k ≡ Some asker → k ≡ i) → remove names i ≡ filter (λ e. not (same_endpoint asker e)) names
one_left asker [] i here once = absurd (none-some asker here)
one_left asker (n ∷ ns) zero here once =
    let same : same_endpoint asker n ≡ true = (same_endpoint_decides asker n).1 (sym (same_Some n asker here)) in
    none_left asker ns (λ k h. (let e : suc k ≡ zero = once (suc k) h in absurd (omega arith))) ∙ sym (ap (λ b. cond (not b) (n ∷ filter (λ e. not (same_endpoint asker e)) ns) (filter (λ e. not (same_endpoint asker e)) ns)) same)
one_left asker (n ∷ ns) (suc i) here once =
    by_endpoint asker n (remove (n ∷ ns) (suc i) ≡ filter (λ e. not (same_endpoint asker e)) (n ∷ ns))
    (λ same. absurd (let e : zero ≡ suc i = once zero (ap Some (sym same)) in omega arith))
    (λ other.
    let no : same_endpoint asker n ≡ false = differ asker n other in
    ap (λ l. n ∷ l) (one_left asker ns i here (λ k h. (let e : suc k ≡ suc i = once (suc k) h in omega arith))) ∙ sym (ap (λ b. cond (not b) (n ∷ filter (λ e. not (same_endpoint asker e)) ns) (filter (λ e. not (same_endpoint asker e)) ns)) no))

-- without the place that the index tells, the others are left
pub others_left : (asker : Endpoint) (names : List Endpoint) (look : Endpoint → Option Place) → IsIndexed names look → without (at_of (look asker)) names ≡ filter (λ e. not (same_endpoint asker e)) names
others_left asker names look it = by_place asker names look it (at_of (look asker)) refl
  where
    by_place : (asker : Endpoint) (names : List Endpoint) (look : Endpoint → Option Place) → IsIndexed names look → (o : Option ℕ) → at_of (look asker) ≡ o → without o names ≡ filter (λ e. not (same_endpoint asker e)) names
    by_place asker names look it None none = none_left asker names (λ k h. none-some k (sym none ∙ it.found asker k h))
    by_place asker names look it (Some i) at = one_left asker names i (it.there asker i at) (λ k h. same_Some k i (sym (it.found asker k h) ∙ at))

-- of no peers none is told
pub none_told : (words : List ℕ) (asker : Endpoint) (want : ℕ) → choice_of words asker want [] ≡ []
unfolding picks
none_told words asker want = ap (λ k. map (λ p. get_or [] p no_endpoint) (picks words 0 k)) (min-zero want)
