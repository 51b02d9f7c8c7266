-- Two lists that have the same elements of each key, in the same order, differ by swaps of
-- neighbours of different keys.
use Rattle.std.proofs.Common.{◌≡◌, ◌≢◌, ℕ, Bool, true, false, List, [], ◌∷◌, ◌++◌, refl, sym, ◌∙◌, ap, subst, cond, arith}
use Rattle.std.proofs.lemmas.Bool.Decides.{nat_tests}
use Rattle.std.proofs.lemmas.List.Elements.{filter-append}
use Rattle.std.specs.Bool.{◌==◌}
use Rattle.std.specs.List.{filter, AllByRecursion}
use Rattle.tracker_model.proofs.Cases.{by_test}

equal_is : (a b : ℕ) → (a == b) ≡ true → a ≡ b
equal_is a b e = grind (arith, nat_tests)

unequal_apart : (a b : ℕ) → (a == b) ≡ false → a ≢ b
unequal_apart a b e = grind (arith, nat_tests)

apart_unequal : (a b : ℕ) → a ≢ b → (a == b) ≡ false
apart_unequal a b apart = grind (arith, nat_tests)

same_equal : (a : ℕ) → (a == a) ≡ true
same_equal a = grind (arith, nat_tests)

module _ {X : Type 0} (key : X → ℕ) where
  -- the elements of a key
  abbrev pub of_key : ℕ → List X → List X
  of_key k xs = filter (λ x. key x == k) xs

  pub of_key-yes : (k : ℕ) (x : X) (xs : List X) → (key x == k) ≡ true → of_key k (x ∷ xs) ≡ x ∷ of_key k xs
  of_key-yes k x xs is_it = ap (λ b. cond b (x ∷ of_key k xs) (of_key k xs)) is_it

  pub of_key-no : (k : ℕ) (x : X) (xs : List X) → (key x == k) ≡ false → of_key k (x ∷ xs) ≡ of_key k xs
  of_key-no k x xs other = ap (λ b. cond b (x ∷ of_key k xs) (of_key k xs)) other

  pub none_of_key : (k : ℕ) (xs : List X) → AllByRecursion (λ x. key x ≢ k) xs → of_key k xs ≡ []
  none_of_key k [] apart = refl
  none_of_key k (x ∷ xs) apart = of_key-no k x xs (apart_unequal (key x) k apart.0) ∙ none_of_key k xs apart.1

  -- the first element of its key in a list
  record IsFirst (x : X) (ys : List X) : Type 0 where
    front : List X
    back : List X
    cut : ys ≡ front ++ x ∷ back
    apart : AllByRecursion (λ y. key y ≢ key x) front

  first_of : {rest : List X} {x y : X} {ys : List X} → y ∷ ys ≡ x ∷ rest → y ≡ x
  first_of {rest} {x} {y} {ys} e = cc

  rest_of : {rest : List X} {x y : X} {ys : List X} → y ∷ ys ≡ x ∷ rest → ys ≡ rest
  rest_of {rest} {x} {y} {ys} e = cc

  found : (x : X) (ys rest : List X) → of_key (key x) ys ≡ x ∷ rest → IsFirst x ys
  found x [] rest e = absurd (let p : ⊥ = cc in p)
  found x (y ∷ ys) rest e =
      by_test (key y == key x) (IsFirst x (y ∷ ys))
      (λ yes. record {
        front = [];
        back = ys;
        cut = ap (λ z. z ∷ ys) (first_of (sym (of_key-yes (key x) y ys yes) ∙ e));
        apart = tt;
      })
      (λ no.
      let there = found x ys rest (sym (of_key-no (key x) y ys no) ∙ e) in
      record {
        front = y ∷ there.front;
        back = there.back;
        cut = ap (λ l. y ∷ l) there.cut;
        apart = (unequal_apart (key y) (key x) no, there.apart);
      })

  -- without that element the others agree too
  others_agree : (x : X) (xs front back : List X) → AllByRecursion (λ y. key y ≢ key x) front → ((k : ℕ) → of_key k (x ∷ xs) ≡ of_key k (front ++ x ∷ back)) → (k : ℕ) → of_key k xs ≡ of_key k (front ++ back)
  others_agree x xs front back apart agree k =
      by_test (key x == k) (of_key k xs ≡ of_key k (front ++ back))
      (λ yes.
      let none : of_key k front ≡ [] = subst (λ n. of_key n front ≡ []) (equal_is (key x) k yes) (none_of_key (key x) front apart) in
      let e : x ∷ of_key k xs ≡ x ∷ of_key k back =
      sym (of_key-yes k x xs yes) ∙ agree k ∙ filter-append (λ y. key y == k) front (x ∷ back) ∙ ap (λ l. l ++ of_key k (x ∷ back)) none ∙ of_key-yes k x back yes in
      rest_of e ∙ sym (filter-append (λ y. key y == k) front back ∙ ap (λ l. l ++ of_key k back) none))
      (λ no.
      sym (of_key-no k x xs no) ∙ agree k
      ∙ filter-append (λ y. key y == k) front (x ∷ back)
      ∙ ap (λ l. of_key k front ++ l) (of_key-no k x back no)
      ∙ sym (filter-append (λ y. key y == k) front back))

  all_append : (P : X → Type 0) (front back : List X) → AllByRecursion P front → AllByRecursion P back → AllByRecursion P (front ++ back)
  all_append P [] back first rest_all = rest_all
  all_append P (x ∷ front) back first rest_all = (first.0, all_append P front back first.1 rest_all)

  all_front : (P : X → Type 0) (front : List X) (x : X) (back : List X) → AllByRecursion P (front ++ x ∷ back) → AllByRecursion P front
  all_front P [] x back all = tt
  all_front P (y ∷ front) x back all = (all.0, all_front P front x back all.1)

  all_back : (P : X → Type 0) (front : List X) (x : X) (back : List X) → AllByRecursion P (front ++ x ∷ back) → AllByRecursion P back
  all_back P [] x back all = all.1
  all_back P (y ∷ front) x back all = all_back P front x back all.1

  -- What holds of a list and itself, passes on, and holds after each element that is put in front
  -- and each swap of neighbours of different keys, holds of two lists that agree on each key.
  module _ (R : List X → List X → Type 0) (P : X → Type 0)
      (same : (xs : List X) → AllByRecursion P xs → R xs xs)
      (chain : (xs ys zs : List X) → R xs ys → R ys zs → R xs zs)
      (more : (x : X) (xs ys : List X) → P x → R xs ys → R (x ∷ xs) (x ∷ ys))
      (swap : (x y : X) (xs : List X) → P x → P y → AllByRecursion P xs → key x ≢ key y → R (x ∷ y ∷ xs) (y ∷ x ∷ xs)) where
    brought_back : (x : X) (front back : List X) → P x → AllByRecursion P front → AllByRecursion P back → AllByRecursion (λ y. key y ≢ key x) front → R (x ∷ front ++ back) (front ++ x ∷ back)
    brought_back x [] back it first rest_all apart = same (x ∷ back) (it, rest_all)
    brought_back x (y ∷ front) back it first rest_all apart =
        let other : key x ≢ key y = λ e. apart.0 (sym e) in
        chain (x ∷ y ∷ front ++ back) (y ∷ x ∷ front ++ back) (y ∷ front ++ x ∷ back)
        (swap x y (front ++ back) it first.0 (all_append P front back first.1 rest_all) other)
        (more y (x ∷ front ++ back) (front ++ x ∷ back) first.0 (brought_back x front back it first.1 rest_all apart.1))

    pub shuffled : (xs ys : List X) → AllByRecursion P xs → AllByRecursion P ys → ((k : ℕ) → of_key k xs ≡ of_key k ys) → R xs ys
    shuffled [] [] all also agree = same [] tt
    shuffled [] (y ∷ ys) all also agree =
        let e : [] ≡ y ∷ of_key (key y) ys = agree (key y) ∙ of_key-yes (key y) y ys (same_equal (key y)) in absurd (let p : ⊥ = cc in p)
    shuffled (x ∷ xs) ys all also agree =
        let there = found x ys (of_key (key x) xs) (sym (agree (key x)) ∙ of_key-yes (key x) x xs (same_equal (key x))) in
        let cut = there.cut in
        let parts : AllByRecursion P (there.front ++ x ∷ there.back) = subst (AllByRecursion P) cut also in
        let first = all_front P there.front x there.back parts in
        let rest_all = all_back P there.front x there.back parts in
        let rest = others_agree x xs there.front there.back there.apart (λ k. agree k ∙ ap (of_key k) cut) in
        subst (λ l. R (x ∷ xs) l) (sym cut)
        (chain (x ∷ xs) (x ∷ there.front ++ there.back) (there.front ++ x ∷ there.back)
        (more x xs (there.front ++ there.back) all.0 (shuffled xs (there.front ++ there.back) all.1 (all_append P there.front there.back first rest_all) rest))
        (brought_back x there.front there.back all.0 first rest_all there.apart))
