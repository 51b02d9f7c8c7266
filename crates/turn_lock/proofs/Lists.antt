-- Lists that are read by place, one of whose elements changes.
use Rattle.std.proofs.Common.{◌≡◌, ◌≢◌, ◌⊎◌, ◌+◌, ◌≤◌, ℕ, zero, suc, Bool, true, cond, List, [], ◌∷◌, ◌++◌, length, set, get_or, count_by, refl, sym, ap, ◌∙◌, subst, inl, inr, ⊎_elim, arith}
use Rattle.std.proofs.lemmas.List.Sums.{sum_by-cons, sum_by-append}
use mathlib.Core.Option.{some, some-injective, some-ne-none}
use lib.ListN.{get_elem?}
use Rattle.atomic_table.proofs.Lists.{at_set}

module _ {A : Type 0} where
  pub here : (l : List A) (i : ℕ) (a b : A) → get_elem? l i ≡ some a → get_elem? (set l i b) i ≡ some b
  here [] i a b e = absurd (some-ne-none a (sym e))
  here (x ∷ xs) zero a b e = refl
  here (x ∷ xs) (suc i) a b e = here xs i a b e

  -- an element of a list with one more at its end
  pub at_push : (l : List A) (a b : A) (j : ℕ) → get_elem? (l ++ a ∷ []) j ≡ some b → (get_elem? l j ≡ some b) ⊎ ((j ≡ length l) × (a ≡ b))
  at_push [] a b zero e = inr (refl, some-injective a b e)
  at_push [] a b (suc j) e = absurd (some-ne-none b (sym e))
  at_push (x ∷ xs) a b zero e = inl e
  at_push (x ∷ xs) a b (suc j) e = ⊎_elim (λ t. inl t) (λ t. inr (ap suc t.0, t.1)) (at_push xs a b j e)

  -- what holds of all elements
  pub each_set : (P : ℕ → A → Type 0) (l : List A) (i : ℕ) (w : A) →
      ((j : ℕ) (u : A) → j ≢ i → get_elem? l j ≡ some u → P j u) → P i w →
      (j : ℕ) (u : A) → get_elem? (set l i w) j ≡ some u → P j u
  each_set P l i w others mine j u e =
      ⊎_elim
      (λ (t : (j ≡ i) × (w ≡ u)). subst (λ (y : ℕ × A). P y.0 y.1) (λ k. (sym t.0 k, t.1 k)) mine)
      (λ (t : (j ≢ i) × (get_elem? l j ≡ some u)). others j u t.0 t.1)
      (at_set l i j w u e)

  pub each_push : (P : A → Type 0) (l : List A) (w : A) →
      ((j : ℕ) (u : A) → get_elem? l j ≡ some u → P u) → P w →
      (j : ℕ) (u : A) → get_elem? (l ++ w ∷ []) j ≡ some u → P u
  each_push P l w others mine j u e = ⊎_elim (λ t. others j u t) (λ t. subst P t.1 mine) (at_push l w u j e)

  -- what holds of each two elements
  abbrev pub Pairwise : (A → A → Type 0) → List A → Type 0
  Pairwise R l = (i j : ℕ) (v w : A) → get_elem? l i ≡ some v → get_elem? l j ≡ some w → i ≢ j → R v w

  pub pairs_set : (R : A → A → Type 0) (l : List A) (id : ℕ) (x : A) → Pairwise R l →
      ((j : ℕ) (u : A) → j ≢ id → get_elem? l j ≡ some u → R x u × R u x) → Pairwise R (set l id x)
  pairs_set R l id x old fresh i j v w at_v at_w apart =
      ⊎_elim
      (λ (a : (i ≡ id) × (x ≡ v)). ⊎_elim
      (λ (b : (j ≡ id) × (x ≡ w)). absurd (apart (a.0 ∙ sym b.0)))
      (λ (b : (j ≢ id) × (get_elem? l j ≡ some w)). subst (λ z. R z w) a.1 (fresh j w b.0 b.1).0)
      (at_set l id j x w at_w))
      (λ (a : (i ≢ id) × (get_elem? l i ≡ some v)). ⊎_elim
      (λ (b : (j ≡ id) × (x ≡ w)). subst (λ z. R v z) b.1 (fresh i v a.0 a.1).1)
      (λ (b : (j ≢ id) × (get_elem? l j ≡ some w)). old i j v w a.1 b.1 apart)
      (at_set l id j x w at_w))
      (at_set l id i x v at_v)

  pub pairs_push : (R : A → A → Type 0) (l : List A) (x : A) → Pairwise R l →
      ((j : ℕ) (u : A) → get_elem? l j ≡ some u → R x u × R u x) → Pairwise R (l ++ x ∷ [])
  pairs_push R l x old fresh i j v w at_v at_w apart =
      ⊎_elim
      (λ (a : get_elem? l i ≡ some v). ⊎_elim
      (λ (b : get_elem? l j ≡ some w). old i j v w a b apart)
      (λ (b : (j ≡ length l) × (x ≡ w)). subst (λ z. R v z) b.1 (fresh i v a).1)
      (at_push l x w j at_w))
      (λ (a : (i ≡ length l) × (x ≡ v)). ⊎_elim
      (λ (b : get_elem? l j ≡ some w). subst (λ z. R z w) a.1 (fresh j w b).0)
      (λ (b : (j ≡ length l) × (x ≡ w)). absurd (apart (a.0 ∙ sym b.0)))
      (at_push l x w j at_w))
      (at_push l x v i at_v)

  -- how many elements pass a test
  module _ (p : A → Bool) where
    abbrev one : A → ℕ
    one a = cond (p a) 1 0

    -- an element that passes counts as one
    passes : (x a : A) → some x ≡ some a → p a ≡ true → one x ≡ 1
    passes x a e pass = ap one (some-injective x a e) ∙ ap (λ (b : Bool). cond {A = ℕ} b 1 0) pass

    pub count_set : (l : List A) (i : ℕ) (a b : A) → get_elem? l i ≡ some a → count_by p (set l i b) + cond (p a) 1 0 ≡ count_by p l + cond (p b) 1 0
    count_set [] i a b e = absurd (some-ne-none a (sym e))
    count_set (x ∷ xs) zero a b e =
        let is : one x ≡ one a = ap one (some-injective x a e) in
        let first = sum_by-cons one x xs in
        let then = sum_by-cons one b xs in
        omega arith
    count_set (x ∷ xs) (suc i) a b e =
        let more = count_set xs i a b e in
        let first = sum_by-cons one x xs in
        let then = sum_by-cons one x (set xs i b) in
        omega arith

    pub count_push : (l : List A) (a : A) → count_by p (l ++ a ∷ []) ≡ count_by p l + cond (p a) 1 0
    count_push l a =
        let both = sum_by-append one l (a ∷ []) in
        let last = sum_by-cons one a [] in
        omega arith

    pub count_some : (l : List A) (i : ℕ) (a : A) → get_elem? l i ≡ some a → p a ≡ true → 1 ≤ count_by p l
    count_some [] i a e pass = absurd (some-ne-none a (sym e))
    count_some (x ∷ xs) zero a e pass =
        let is : one x ≡ 1 = passes x a e pass in
        let first = sum_by-cons one x xs in
        omega arith
    count_some (x ∷ xs) (suc i) a e pass =
        let more = count_some xs i a e pass in
        let first = sum_by-cons one x xs in
        omega arith

    -- the only element that passes
    pub count_one : (l : List A) (i j : ℕ) (a b : A) → get_elem? l i ≡ some a → get_elem? l j ≡ some b → p a ≡ true → p b ≡ true → count_by p l ≡ 1 → i ≡ j
    count_one [] i j a b at_a at_b pass_a pass_b is = absurd (some-ne-none a (sym at_a))
    count_one (x ∷ xs) zero zero a b at_a at_b pass_a pass_b is = refl
    count_one (x ∷ xs) zero (suc j) a b at_a at_b pass_a pass_b is =
        let first : one x ≡ 1 = passes x a at_a pass_a in
        let more = count_some xs j b at_b pass_b in
        let sum = sum_by-cons one x xs in
        absurd (omega arith)
    count_one (x ∷ xs) (suc i) zero a b at_a at_b pass_a pass_b is =
        let first : one x ≡ 1 = passes x b at_b pass_b in
        let more = count_some xs i a at_a pass_a in
        let sum = sum_by-cons one x xs in
        absurd (omega arith)
    count_one (x ∷ xs) (suc i) (suc j) a b at_a at_b pass_a pass_b is =
        let more = count_some xs i a at_a pass_a in
        let sum = sum_by-cons one x xs in
        ap suc (count_one xs i j a b at_a at_b pass_a pass_b (omega arith))

-- a number that is set where it stands changes nothing
pub set_same : (l : List ℕ) (i : ℕ) → set l i (get_or l i 0) ≡ l
set_same [] i = refl
set_same (x ∷ xs) zero = refl
set_same (x ∷ xs) (suc i) = ap (λ l. x ∷ l) (set_same xs i)
