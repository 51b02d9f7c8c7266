-- Elements with keys that are apart: a test of them, and the keys of those that pass it.
use Rattle.std.proofs.Common.{◌≡◌, Bool, true, false, ◌||◌, List, [], ◌∷◌, Option, Some, refl, sym, ◌∙◌, ap, subst, map, cond}
use Rattle.std.specs.Bool.{Decides}
use Rattle.std.specs.List.{filter, find, IsDistinct, AllByRecursion}
use Rattle.std.specs.Option.{option_map_or}
use Rattle.std.specs.Set.{is_member}
use Rattle.tracker_model.proofs.Cases.{by_test}

module _ {K X : Type 0} (same : K → K → Bool) (decides : (a b : K) → Decides (same a b) (a ≡ b)) (key : X → K) (passes : X → Bool) where
  -- the element with a key
  abbrev pub keyed : List X → K → Option X
  keyed xs q = find (λ x. same q (key x)) xs

  still_apart : (q : K) (xs : List X) → AllByRecursion (λ k. same q k ≡ false) (map key xs) → AllByRecursion (λ k. same q k ≡ false) (map key (filter passes xs))
  still_apart q [] apart = tt
  still_apart q (x ∷ xs) apart =
      elim (passes x) as (λ b. AllByRecursion (λ k. same q k ≡ false) (map key (cond b (x ∷ filter passes xs) (filter passes xs))))
      [ true ↦ (apart.0, still_apart q xs apart.1) | false ↦ still_apart q xs apart.1 ]

  -- those that pass have keys that are apart
  pub keys_apart : (xs : List X) → IsDistinct same (map key xs) → IsDistinct same (map key (filter passes xs))
  unfolding IsDistinct
  keys_apart [] apart = tt
  keys_apart (x ∷ xs) apart =
      elim (passes x) as (λ b. IsDistinct same (map key (cond b (x ∷ filter passes xs) (filter passes xs))))
      [ true ↦ (still_apart (key x) xs apart.0, keys_apart xs apart.1) | false ↦ keys_apart xs apart.1 ]

  not_among : (q : K) (ks : List K) → AllByRecursion (λ k. same q k ≡ false) ks → is_member same ks q ≡ false
  not_among q [] apart = refl
  not_among q (k ∷ ks) apart = ap (λ b. b || is_member same ks q) apart.0 ∙ not_among q ks apart.1

  -- a key is among theirs where its element passes
  pub is_member-passing : (q : K) (xs : List X) → IsDistinct same (map key xs) → is_member same (map key (filter passes xs)) q ≡ option_map_or passes (keyed xs q) false
  unfolding IsDistinct
  is_member-passing q [] apart = refl
  is_member-passing q (x ∷ xs) apart =
      let Goal : Type 0 = is_member same (map key (filter passes (x ∷ xs))) q ≡ option_map_or passes (keyed (x ∷ xs) q) false in
      let kept = λ (b : Bool). is_member same (map key (cond b (x ∷ filter passes xs) (filter passes xs))) q in
      let found = λ (b : Bool). option_map_or passes (cond b (Some x) (keyed xs q)) false in
      let rest = is_member same (map key (filter passes xs)) q in
      by_test (same q (key x)) Goal
      (λ equal. by_test (passes x) Goal
      (λ pass. ap kept pass ∙ ap (λ b. b || rest) equal ∙ sym (ap found equal ∙ pass))
      (λ fail.
      let P : K → Type 0 = λ k. AllByRecursion (λ l. same k l ≡ false) (map key (filter passes xs)) in
      ap kept fail ∙ not_among q (map key (filter passes xs)) (subst P (sym ((decides q (key x)).0 equal)) (still_apart (key x) xs apart.0)) ∙ sym (ap found equal ∙ fail)))
      (λ differ.
      (elim (passes x) as (λ b. kept b ≡ rest) [ true ↦ ap (λ b. b || rest) differ | false ↦ refl ])
      ∙ is_member-passing q xs apart.1 ∙ sym (ap found differ))
