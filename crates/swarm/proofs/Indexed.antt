-- The index tells where each endpoint stands, after each kind of change.
use Rattle.std.proofs.Common.{◌≡◌, ◌≢◌, ℕ, ◌+◌, ◌-◌, ◌<◌, ◌≤◌, ◌⊎◌, inl, inr, Bool, true, false, List, [], ◌∷◌, ◌++◌, Option, Some, None, refl, sym, ◌∙◌, ap, subst, length, arith}
use Rattle.std.specs.List.{slice_get, swap_remove}
use Rattle.std.proofs.lemmas.Bool.{cases_eq}
use Rattle.std.proofs.lemmas.Option.{slice_get_within, none-some, same_Some}
use Rattle.ot_base.specs.Same.{same_endpoint}
use Rattle.ot_base.proofs.SameLemmas.{same_endpoint_decides}
use Rattle.ot_base.specs.declared.address.Endpoint.{Endpoint}
use Rattle.swarm.specs.Index.{Puts, at_place, with_seed, at_of, IsIndexed}
use Rattle.swarm.specs.declared.index.Place.{Place}
use Rattle.swarm.proofs.IndexLemmas.{by_test}
use Rattle.swarm.proofs.ListLemmas.{push_cases, push_old, push_last, left_other, left_gap, stays_other, moves_last}

-- the same endpoint, or another
pub by_endpoint : (a b : Endpoint) (P : Type 0) → (a ≡ b → P) → (b ≢ a → P) → P
by_endpoint a b P same apart =
    by_test (same_endpoint a b) P (λ yes. same ((same_endpoint_decides a b).0 yes)) (λ no. apart (λ e. let clash : true ≡ false = sym ((same_endpoint_decides a b).1 (sym e)) ∙ no in cc))

pub indexed_like : (names : List Endpoint) (look look' : Endpoint → Option Place) → IsIndexed names look → ((e : Endpoint) → at_of (look' e) ≡ at_of (look e)) → IsIndexed names look'
indexed_like names look look' it same = record {
  found = λ e i h. same e ∙ it.found e i h;
  there = λ e i h. it.there e i (sym (same e) ∙ h);
}

at_with_seed : (s : Bool) (o : Option Place) → at_of (with_seed s o) ≡ at_of o
at_with_seed s None = refl
at_with_seed s (Some p) = refl

pub indexed_seed : (names : List Endpoint) (look look' : Endpoint → Option Place) (who : Endpoint) (s : Bool) → IsIndexed names look → Puts look look' who (with_seed s (look who)) → IsIndexed names look'
indexed_seed names look look' who s it puts = indexed_like names look look' it (λ e.
    by_endpoint who e (at_of (look' e) ≡ at_of (look e))
    (λ same. let P : Endpoint → Type 0 = λ x. at_of (look' x) ≡ at_of (look x) in subst P same (ap (λ o. at_of o) puts.here ∙ at_with_seed s (look who)))
    (λ apart. ap (λ o. at_of o) (puts.others e apart)))

-- an endpoint whose place is none stands nowhere
pub unfound : (names : List Endpoint) (look : Endpoint → Option Place) (who e : Endpoint) (i : ℕ) → IsIndexed names look → look who ≡ None → slice_get names i ≡ Some e → e ≢ who
unfound names look who e i it none h same =
    let P : Endpoint → Type 0 = λ x. at_of (look x) ≡ Some i in
    none-some i (ap (λ o. at_of o) (sym none) ∙ subst P same (it.found e i h))

pub indexed_push : (names : List Endpoint) (look look' : Endpoint → Option Place) (who : Endpoint) (place : Place) → IsIndexed names look → look who ≡ None → place.at ≡ length names → Puts look look' who (Some place) → IsIndexed (names ++ who ∷ []) look'
indexed_push names look look' who place it none last puts =
    let at_last : at_of (look' who) ≡ Some (length names) = ap (λ o. at_of o) puts.here ∙ ap Some last in
    record {
      found = λ e i h. elim (push_cases names who e i h) [
        | inl old ↦ ap (λ o. at_of o) (puts.others e (unfound names look who e i it none old)) ∙ it.found e i old
        | inr new ↦ ap (λ x. at_of (look' x)) (sym new.1) ∙ at_last ∙ ap Some new.0
      ];
      there = λ e i h.
          by_endpoint who e (slice_get (names ++ who ∷ []) i ≡ Some e)
          (λ same.
          let n : length names ≡ i = same_Some (length names) i (sym at_last ∙ ap (λ x. at_of (look' x)) same ∙ h) in
          ap (λ k. slice_get (names ++ who ∷ []) k) (sym n) ∙ push_last names who ∙ ap Some same)
          (λ apart. push_old names who e i (it.there e i (ap (λ o. at_of o) (sym (puts.others e apart)) ∙ h)));
    }

-- two places of one endpoint are the same
pub one_place : (names : List Endpoint) (look : Endpoint → Option Place) (a b : Endpoint) (i k : ℕ) → IsIndexed names look → slice_get names i ≡ Some a → slice_get names k ≡ Some b → a ≡ b → i ≡ k
one_place names look a b i k it at_a at_b same =
    same_Some i k (sym (it.found a i at_a) ∙ ap (λ x. at_of (look x)) same ∙ it.found b k at_b)

pub indexed_without_last : (names : List Endpoint) (look look' : Endpoint → Option Place) (gone d : Endpoint) (i : ℕ) → IsIndexed names look → slice_get names i ≡ Some gone → length names ≤ i + 1 → Puts look look' gone None → IsIndexed (swap_remove names i d) look'
indexed_without_last names look look' gone d i it at_gone last puts = record {
  found = λ e k h.
      let apart : k ≢ i = λ same. (let P : ℕ → Type 0 = λ m. slice_get (swap_remove names i d) m ≡ Some e in let w = (left_gap names i d e (subst P same h)).1 in absurd (omega arith)) in
      let old = left_other names i k d e apart h in
      ap (λ o. at_of o) (puts.others e (λ same. apart (one_place names look e gone k i it old.0 at_gone same))) ∙ it.found e k old.0;
  there = λ e k h.
      by_endpoint gone e (slice_get (swap_remove names i d) k ≡ Some e)
      (λ same. absurd (none-some k (ap (λ o. at_of o) (sym puts.here) ∙ ap (λ x. at_of (look' x)) same ∙ h)))
      (λ other.
      let old = it.there e k (ap (λ o. at_of o) (sym (puts.others e other)) ∙ h) in
      let apart : k ≢ i = λ same. other (same_Some e gone (sym old ∙ ap (λ m. slice_get names m) same ∙ at_gone)) in
      let w = slice_get_within names k e old in
      let v = slice_get_within names i gone at_gone in
      stays_other names i k d e apart (omega arith) old);
}

at_moved : (at k : ℕ) (o : Option Place) → at_of o ≡ Some k → at_of (at_place at o) ≡ Some at
at_moved at k None h = absurd (none-some k h)
at_moved at k (Some p) h = refl

pub indexed_moved : (names : List Endpoint) (look look1 look' : Endpoint → Option Place) (gone moved d : Endpoint) (i : ℕ) → IsIndexed names look → slice_get names i ≡ Some gone → i + 1 < length names → slice_get names (length names - 1) ≡ Some moved
    → Puts look look1 gone None → Puts look1 look' moved (at_place i (look1 moved)) → IsIndexed (swap_remove names i d) look'
indexed_moved names look look1 look' gone moved d i it at_gone within at_moved_ drops puts =
    let last = length names - 1 in
    let stayed : moved ≢ gone = λ same. (let e = one_place names look moved gone last i it at_moved_ at_gone same in absurd (omega arith)) in
    let here : at_of (look' moved) ≡ Some i = ap (λ o. at_of o) puts.here ∙ at_moved i last (look1 moved) (ap (λ o. at_of o) (drops.others moved stayed) ∙ it.found moved last at_moved_) in
    record {
      found = λ e k h. by_place names look look1 look' gone moved d i it at_gone within at_moved_ drops puts here e k h (cases_eq k i);
      there = λ e k h.
          by_endpoint moved e (slice_get (swap_remove names i d) k ≡ Some e)
          (λ same.
          let n : i ≡ k = same_Some i k (sym here ∙ ap (λ x. at_of (look' x)) same ∙ h) in
          ap (λ m. slice_get (swap_remove names i d) m) (sym n) ∙ moves_last names i d moved within at_moved_ ∙ ap Some same)
          (λ other.
          let before : at_of (look1 e) ≡ Some k = ap (λ o. at_of o) (sym (puts.others e other)) ∙ h in
          by_endpoint gone e (slice_get (swap_remove names i d) k ≡ Some e)
          (λ same. absurd (none-some k (ap (λ o. at_of o) (sym drops.here) ∙ ap (λ x. at_of (look1 x)) same ∙ before)))
          (λ another.
          let old = it.there e k (ap (λ o. at_of o) (sym (drops.others e another)) ∙ before) in
          let apart : k ≢ i = λ same. another (same_Some e gone (sym old ∙ ap (λ m. slice_get names m) same ∙ at_gone)) in
          let not_last : k ≢ last = λ same. other (same_Some e moved (sym old ∙ ap (λ m. slice_get names m) same ∙ at_moved_)) in
          let w = slice_get_within names k e old in
          stays_other names i k d e apart (omega arith) old));
    }
  where
    by_place : (names : List Endpoint) (look look1 look' : Endpoint → Option Place) (gone moved d : Endpoint) (i : ℕ) → IsIndexed names look → slice_get names i ≡ Some gone → i + 1 < length names → slice_get names (length names - 1) ≡ Some moved
        → Puts look look1 gone None → Puts look1 look' moved (at_place i (look1 moved)) → at_of (look' moved) ≡ Some i → (e : Endpoint) (k : ℕ) → slice_get (swap_remove names i d) k ≡ Some e → (k ≡ i) ⊎ (k ≢ i) → at_of (look' e) ≡ Some k
    by_place names look look1 look' gone moved d i it at_gone within at_moved_ drops puts here e k h (inl same) =
        let P : ℕ → Type 0 = λ m. slice_get (swap_remove names i d) m ≡ Some e in
        let is : moved ≡ e = same_Some moved e (sym at_moved_ ∙ (left_gap names i d e (subst P same h)).0) in
        ap (λ x. at_of (look' x)) (sym is) ∙ here ∙ ap Some (sym same)
    by_place names look look1 look' gone moved d i it at_gone within at_moved_ drops puts here e k h (inr apart) =
        let old = left_other names i k d e apart h in
        let other : e ≢ moved = λ same. (let f = one_place names look e moved k (length names - 1) it old.0 at_moved_ same in absurd (omega (arith, old.1))) in
        let another : e ≢ gone = λ same. apart (one_place names look e gone k i it old.0 at_gone same) in
        ap (λ o. at_of o) (puts.others e other) ∙ ap (λ o. at_of o) (drops.others e another) ∙ it.found e k old.0
