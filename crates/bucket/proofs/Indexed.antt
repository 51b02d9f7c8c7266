-- The index tells where each hash stands, after each kind of change.
use Rattle.std.proofs.Common.{◌≡◌, ◌≢◌, ℕ, ◌+◌, ◌-◌, ◌<◌, ◌≤◌, ◌⊎◌, inl, inr, true, false, List, [], ◌∷◌, ◌++◌, Option, Some, None, sym, ◌∙◌, ap, subst, length, arith, get_or}
use Rattle.std.specs.List.{IsDistinct, slice_get, swap_remove}
use Rattle.std.specs.Option.{option_map}
use Rattle.std.proofs.lemmas.Bool.{cases_eq}
use Rattle.std.proofs.lemmas.Map.Keys.{IsDistinct-from_apart}
use Rattle.std.proofs.lemmas.Option.{slice_get_within, slice_get-get_or, none-some, same_Some}
use Rattle.ot_base.specs.Same.{same_hash}
use Rattle.ot_base.proofs.SameLemmas.{same_hash_decides}
use Rattle.ot_base.specs.declared.hash.InfoHash.{InfoHash}
use Rattle.tracker_model.proofs.Cases.{by_test}
use Rattle.swarm.proofs.ListLemmas.{push_cases, push_old, push_last, left_other, left_gap, stays_other, moves_last}
use Rattle.bucket.specs.Index.{Puts, IsIndexed}

-- the same hash, or another
pub by_hash : (a b : InfoHash) (P : Type 0) → (a ≡ b → P) → (b ≢ a → P) → P
by_hash a b P same apart =
    by_test (same_hash a b) P (λ yes. same ((same_hash_decides a b).0 yes)) (λ no. apart (λ e. let clash : true ≡ false = sym ((same_hash_decides a b).1 (sym e)) ∙ no in cc))

-- a hash whose place is none stands nowhere
unfound : (hashes : List InfoHash) (look : InfoHash → Option ℕ) (hash h : InfoHash) (i : ℕ) → IsIndexed hashes look → look hash ≡ None → slice_get hashes i ≡ Some h → h ≢ hash
unfound hashes look hash h i it none here same =
    let P : InfoHash → Type 0 = λ x. look x ≡ Some i in
    none-some i (sym none ∙ subst P same (it.found h i here))

pub indexed_push : (hashes : List InfoHash) (look look' : InfoHash → Option ℕ) (hash : InfoHash) → IsIndexed hashes look → look hash ≡ None → Puts look look' hash (Some (length hashes)) → IsIndexed (hashes ++ hash ∷ []) look'
indexed_push hashes look look' hash it none puts = record {
  found = λ h i here. elim (push_cases hashes hash h i here) [
    | inl old ↦ puts.others h (unfound hashes look hash h i it none old) ∙ it.found h i old
    | inr new ↦ ap look' (sym new.1) ∙ puts.here ∙ ap Some new.0
  ];
  there = λ h i at.
      by_hash hash h (slice_get (hashes ++ hash ∷ []) i ≡ Some h)
      (λ same.
      let n : length hashes ≡ i = same_Some (length hashes) i (sym puts.here ∙ ap look' same ∙ at) in
      ap (λ k. slice_get (hashes ++ hash ∷ []) k) (sym n) ∙ push_last hashes hash ∙ ap Some same)
      (λ apart. push_old hashes hash h i (it.there h i (sym (puts.others h apart) ∙ at)));
}

-- two places of one hash are the same
pub one_place : (hashes : List InfoHash) (look : InfoHash → Option ℕ) (a b : InfoHash) (i k : ℕ) → IsIndexed hashes look → slice_get hashes i ≡ Some a → slice_get hashes k ≡ Some b → a ≡ b → i ≡ k
one_place hashes look a b i k it at_a at_b same =
    same_Some i k (sym (it.found a i at_a) ∙ ap look same ∙ it.found b k at_b)

pub indexed_without_last : (hashes : List InfoHash) (look look' : InfoHash → Option ℕ) (gone d : InfoHash) (i : ℕ) → IsIndexed hashes look → slice_get hashes i ≡ Some gone → length hashes ≤ i + 1 → Puts look look' gone None → IsIndexed (swap_remove hashes i d) look'
indexed_without_last hashes look look' gone d i it at_gone last puts = record {
  found = λ h k here.
      let apart : k ≢ i = λ same. (let P : ℕ → Type 0 = λ m. slice_get (swap_remove hashes i d) m ≡ Some h in let w = (left_gap hashes i d h (subst P same here)).1 in absurd (omega arith)) in
      let old = left_other hashes i k d h apart here in
      puts.others h (λ same. apart (one_place hashes look h gone k i it old.0 at_gone same)) ∙ it.found h k old.0;
  there = λ h k at.
      by_hash gone h (slice_get (swap_remove hashes i d) k ≡ Some h)
      (λ same. absurd (none-some k (sym puts.here ∙ ap look' same ∙ at)))
      (λ other.
      let old = it.there h k (sym (puts.others h other) ∙ at) in
      let apart : k ≢ i = λ same. other (same_Some h gone (sym old ∙ ap (λ m. slice_get hashes m) same ∙ at_gone)) in
      let w = slice_get_within hashes k h old in
      let v = slice_get_within hashes i gone at_gone in
      stays_other hashes i k d h apart (omega arith) old);
}

pub indexed_moved : (hashes : List InfoHash) (look look1 look' : InfoHash → Option ℕ) (gone moved d : InfoHash) (i : ℕ) → IsIndexed hashes look → slice_get hashes i ≡ Some gone → i + 1 < length hashes → slice_get hashes (length hashes - 1) ≡ Some moved
    → Puts look look1 gone None → Puts look1 look' moved (option_map (λ _. i) (look1 moved)) → IsIndexed (swap_remove hashes i d) look'
indexed_moved hashes look look1 look' gone moved d i it at_gone within at_last drops puts =
    let last = length hashes - 1 in
    let stayed : moved ≢ gone = λ same. (let e = one_place hashes look moved gone last i it at_last at_gone same in absurd (omega arith)) in
    let here : look' moved ≡ Some i = puts.here ∙ ap (λ o. option_map (λ _. i) o) (drops.others moved stayed ∙ it.found moved last at_last) in
    record {
      found = λ h k at. by_place hashes look look1 look' gone moved d i it at_gone at_last drops puts here h k at (cases_eq k i);
      there = λ h k at.
          by_hash moved h (slice_get (swap_remove hashes i d) k ≡ Some h)
          (λ same.
          let n : i ≡ k = same_Some i k (sym here ∙ ap look' same ∙ at) in
          ap (λ m. slice_get (swap_remove hashes i d) m) (sym n) ∙ moves_last hashes i d moved within at_last ∙ ap Some same)
          (λ other.
          let before : look1 h ≡ Some k = sym (puts.others h other) ∙ at in
          by_hash gone h (slice_get (swap_remove hashes i d) k ≡ Some h)
          (λ same. absurd (none-some k (sym drops.here ∙ ap look1 same ∙ before)))
          (λ another.
          let old = it.there h k (sym (drops.others h another) ∙ before) in
          let apart : k ≢ i = λ same. another (same_Some h gone (sym old ∙ ap (λ m. slice_get hashes m) same ∙ at_gone)) in
          let not_last : k ≢ last = λ same. other (same_Some h moved (sym old ∙ ap (λ m. slice_get hashes m) same ∙ at_last)) in
          let w = slice_get_within hashes k h old in
          stays_other hashes i k d h apart (omega arith) old));
    }
  where
    by_place : (hashes : List InfoHash) (look look1 look' : InfoHash → Option ℕ) (gone moved d : InfoHash) (i : ℕ) → IsIndexed hashes look → slice_get hashes i ≡ Some gone → slice_get hashes (length hashes - 1) ≡ Some moved
        → Puts look look1 gone None → Puts look1 look' moved (option_map (λ _. i) (look1 moved)) → look' moved ≡ Some i → (h : InfoHash) (k : ℕ) → slice_get (swap_remove hashes i d) k ≡ Some h → (k ≡ i) ⊎ (k ≢ i) → look' h ≡ Some k
    by_place hashes look look1 look' gone moved d i it at_gone at_last drops puts here h k at (inl same) =
        let P : ℕ → Type 0 = λ m. slice_get (swap_remove hashes i d) m ≡ Some h in
        let is : moved ≡ h = same_Some moved h (sym at_last ∙ (left_gap hashes i d h (subst P same at)).0) in
        ap look' (sym is) ∙ here ∙ ap Some (sym same)
    by_place hashes look look1 look' gone moved d i it at_gone at_last drops puts here h k at (inr apart) =
        let old = left_other hashes i k d h apart at in
        let other : h ≢ moved = λ same. (let f = one_place hashes look h moved k (length hashes - 1) it old.0 at_last same in absurd (omega (arith, old.1))) in
        let another : h ≢ gone = λ same. apart (one_place hashes look h gone k i it old.0 at_gone same) in
        puts.others h other ∙ drops.others h another ∙ it.found h k old.0

-- the index lets no hash stand twice
pub indexed_distinct : (hashes : List InfoHash) (look : InfoHash → Option ℕ) → IsIndexed hashes look → IsDistinct same_hash hashes
indexed_distinct hashes look it = IsDistinct-from_apart same_hash hashes (λ i j d less within.
    by_test (same_hash (get_or hashes i d) (get_or hashes j d)) (same_hash (get_or hashes i d) (get_or hashes j d) ≡ false)
    (λ same.
    let e = one_place hashes look (get_or hashes i d) (get_or hashes j d) i j it (slice_get-get_or hashes i d (omega arith)) (slice_get-get_or hashes j d within) ((same_hash_decides (get_or hashes i d) (get_or hashes j d)).0 same) in
    absurd (omega arith))
    (λ no. no))
