-- The rows of a scan: the known torrents in ascending order, each once.
use Rattle.std.proofs.Common.{◌≡◌, Bool, true, false, ◌||◌, List, [], ◌∷◌, refl, sym, ◌∙◌, ap, subst, map}
use Rattle.std.specs.declared.cmp.Ordering.{Ordering}
use Rattle.std.specs.declared.cmp.Ordering.TheVariants.{Less, Equal, Greater}
use Rattle.std.specs.Bool.{Decides}
use Rattle.std.specs.Cmp.{IsTotalOrder}
use Rattle.std.specs.List.{AllByRecursion}
use Rattle.std.specs.List.Sorted.{IsStrictlySortedBy}
use Rattle.std.specs.Ordering.{eq_by_cmp, is_eq, match_ordering, ordering_reverse}
use Rattle.std.specs.Set.{is_member}
use Rattle.ot_base.specs.Order.{hash_cmp}
use Rattle.ot_base.specs.Same.{same_hash}
use Rattle.ot_base.proofs.OrderLemmas.{hash_cmp_total, hash_cmp_ties}
use Rattle.ot_base.proofs.SameLemmas.{same_hash_decides}
use Rattle.ot_base.specs.declared.hash.InfoHash.{InfoHash}
use Rattle.ot_base.specs.declared.peer.Row.{Row}
use Rattle.tracker_model.specs.Counted.{put_in_order, ascending, known_hashes, counts_of, rows_of}
use Rattle.tracker_model.specs.Entries.{time_of}
use Rattle.tracker_model.specs.Known.{is_known}
use Rattle.tracker_model.specs.declared.entry.Entry.{Entry}
use Rattle.tracker_model.proofs.Cases.{by_test}
use Rattle.tracker_model.proofs.CountLemmas.{known_hash_member}

swap_or : (a b c : Bool) → (a || (b || c)) ≡ (b || (a || c))
swap_or true true c = refl
swap_or true false c = refl
swap_or false b c = refl

twice_or : (a b : Bool) → (a || b) ≡ (a || (a || b))
twice_or true b = refl
twice_or false b = refl

module _ {X : Type 0} (cmp : X → X → Ordering) (order : IsTotalOrder cmp) (same : X → X → Bool) (decides : (a b : X) → Decides (same a b) (a ≡ b)) (ties : (a b : X) → same a b ≡ eq_by_cmp cmp a b) where
  equal_is : (a b : X) → cmp a b ≡ Equal → a ≡ b
  equal_is a b e = (decides a b).0 (ties a b ∙ ap is_eq e)

  less_apart : (a b : X) → cmp a b ≡ Less → same a b ≡ false
  less_apart a b e = ties a b ∙ ap is_eq e

  -- an element that is put in is there, and the others stay
  member_put_at : (x y : X) (ys : List X) (q : X) (o : Ordering) → cmp x y ≡ o → is_member same (put_in_order cmp x ys) q ≡ (same q x || is_member same ys q) →
      is_member same (match_ordering o (x ∷ y ∷ ys) (y ∷ ys) (y ∷ put_in_order cmp x ys)) q ≡ (same q x || (same q y || is_member same ys q))
  member_put_at x y ys q Less e below = refl
  member_put_at x y ys q Equal e below = twice_or (same q y) (is_member same ys q) ∙ ap (λ z. same q z || (same q y || is_member same ys q)) (sym (equal_is x y e))
  member_put_at x y ys q Greater e below = ap (λ b. same q y || b) below ∙ swap_or (same q y) (same q x) (is_member same ys q)

  member_put : (x : X) (ys : List X) (q : X) → is_member same (put_in_order cmp x ys) q ≡ (same q x || is_member same ys q)
  member_put x [] q = refl
  member_put x (y ∷ ys) q = member_put_at x y ys q (cmp x y) refl (member_put x ys q)

  member_ascending : (xs : List X) (q : X) → is_member same (ascending cmp xs) q ≡ is_member same xs q
  member_ascending [] q = refl
  member_ascending (x ∷ xs) q = member_put x (ascending cmp xs) q ∙ ap (λ b. same q x || b) (member_ascending xs q)

  -- what is below an element and a list is below the list with the element
  below_put_at : (z x y : X) (ys : List X) (o : Ordering) → cmp z x ≡ Less → cmp z y ≡ Less → AllByRecursion (λ w. cmp z w ≡ Less) ys → AllByRecursion (λ w. cmp z w ≡ Less) (put_in_order cmp x ys) →
      AllByRecursion (λ w. cmp z w ≡ Less) (match_ordering o (x ∷ y ∷ ys) (y ∷ ys) (y ∷ put_in_order cmp x ys))
  below_put_at z x y ys Less first second rest put = (first, (second, rest))
  below_put_at z x y ys Equal first second rest put = (second, rest)
  below_put_at z x y ys Greater first second rest put = (second, put)

  below_put : (z x : X) (ys : List X) → cmp z x ≡ Less → AllByRecursion (λ w. cmp z w ≡ Less) ys → AllByRecursion (λ w. cmp z w ≡ Less) (put_in_order cmp x ys)
  below_put z x [] first rest = (first, tt)
  below_put z x (y ∷ ys) first rest = below_put_at z x y ys (cmp x y) first rest.0 rest.1 (below_put z x ys first rest.1)

  below_all : (x y : X) (ys : List X) → cmp x y ≡ Less → AllByRecursion (λ w. cmp y w ≡ Less) ys → AllByRecursion (λ w. cmp x w ≡ Less) ys
  below_all x y [] first rest = tt
  below_all x y (z ∷ ys) first rest = (order.trans x y z first rest.0, below_all x y ys first rest.1)

  sorted_put_at : (x y : X) (ys : List X) (o : Ordering) → cmp x y ≡ o → IsStrictlySortedBy cmp (y ∷ ys) → IsStrictlySortedBy cmp (put_in_order cmp x ys) → IsStrictlySortedBy cmp (match_ordering o (x ∷ y ∷ ys) (y ∷ ys) (y ∷ put_in_order cmp x ys))
  unfolding IsStrictlySortedBy
  sorted_put_at x y ys Less e sorted put = ((e, below_all x y ys e sorted.0), sorted)
  sorted_put_at x y ys Equal e sorted put = sorted
  sorted_put_at x y ys Greater e sorted put = (below_put y x ys (order.antisymm y x ∙ ap ordering_reverse e) sorted.0, put)

  sorted_put : (x : X) (ys : List X) → IsStrictlySortedBy cmp ys → IsStrictlySortedBy cmp (put_in_order cmp x ys)
  unfolding IsStrictlySortedBy
  sorted_put x [] sorted = (tt, tt)
  sorted_put x (y ∷ ys) sorted = sorted_put_at x y ys (cmp x y) refl sorted (sorted_put x ys sorted.1)

  sorted_ascending : (xs : List X) → IsStrictlySortedBy cmp (ascending cmp xs)
  unfolding IsStrictlySortedBy
  sorted_ascending [] = tt
  sorted_ascending (x ∷ xs) = sorted_put x (ascending cmp xs) (sorted_ascending xs)

  -- an element below all of a list isn't in it
  below_not_in : (q : X) (ys : List X) → AllByRecursion (λ w. cmp q w ≡ Less) ys → is_member same ys q ≡ false
  below_not_in q [] below = refl
  below_not_in q (y ∷ ys) below = ap (λ b. b || is_member same ys q) (less_apart q y below.0) ∙ below_not_in q ys below.1

  -- an element of a list is above what is below all of it
  above : (z q : X) (ys : List X) → AllByRecursion (λ w. cmp z w ≡ Less) ys → is_member same ys q ≡ true → cmp z q ≡ Less
  above z q [] below among = absurd (let p : ⊥ = cc in p)
  above z q (y ∷ ys) below among =
      by_test (same q y) (cmp z q ≡ Less)
      (λ equal. ap (λ w. cmp z w) ((decides q y).0 equal) ∙ below.0)
      (λ differ. above z q ys below.1 (sym (ap (λ b. b || is_member same ys q) differ) ∙ among))

  -- two first elements that are each in the other's list are the same
  first_same : (x y : X) (xs ys : List X) → AllByRecursion (λ w. cmp x w ≡ Less) xs → AllByRecursion (λ w. cmp y w ≡ Less) ys → is_member same (y ∷ ys) x ≡ true → is_member same (x ∷ xs) y ≡ true → x ≡ y
  first_same x y xs ys below_x below_y x_in y_in =
      by_test (same x y) (x ≡ y)
      (λ equal. (decides x y).0 equal)
      (λ differ.
      let y_x : cmp y x ≡ Less = above y x ys below_y (sym (ap (λ b. b || is_member same ys x) differ) ∙ x_in) in
      by_test (same y x) (x ≡ y)
      (λ equal. sym ((decides y x).0 equal))
      (λ apart.
      let x_y : cmp x y ≡ Less = above x y xs below_x (sym (ap (λ b. b || is_member same xs y) apart) ∙ y_in) in
      let flipped : cmp x y ≡ Greater = order.antisymm x y ∙ ap ordering_reverse y_x in
      let no_way : Less ≡ Greater = sym x_y ∙ flipped in
      absurd (let p : ⊥ = cc in p)))

  -- two ascending lists with the same elements are the same
  sorted_same : (xs ys : List X) → IsStrictlySortedBy cmp xs → IsStrictlySortedBy cmp ys → ((q : X) → is_member same xs q ≡ is_member same ys q) → xs ≡ ys
  unfolding IsStrictlySortedBy
  sorted_same [] [] up also agree = refl
  sorted_same [] (y ∷ ys) up also agree = let e : false ≡ true = agree y ∙ ap (λ b. b || is_member same ys y) ((decides y y).1 refl) in absurd (let p : ⊥ = cc in p)
  sorted_same (x ∷ xs) [] up also agree = let e : true ≡ false = sym (ap (λ b. b || is_member same xs x) ((decides x x).1 refl)) ∙ agree x in absurd (let p : ⊥ = cc in p)
  sorted_same (x ∷ xs) (y ∷ ys) up also agree =
      let itself = λ (z : X) (zs : List X). (let p : is_member same (z ∷ zs) z ≡ true = ap (λ b. b || is_member same zs z) ((decides z z).1 refl) in p) in
      let heads : x ≡ y = first_same x y xs ys up.0 also.0 (sym (agree x) ∙ itself x xs) (agree y ∙ itself y ys) in
      let rest : (q : X) → is_member same xs q ≡ is_member same ys q = λ q. by_test (same q x) (is_member same xs q ≡ is_member same ys q)
      (λ equal.
      let P : X → Type 0 = λ z. is_member same xs z ≡ false in
      let Q : X → Type 0 = λ z. is_member same ys z ≡ false in
      let q_x : x ≡ q = sym ((decides q x).0 equal) in
      subst P q_x (below_not_in x xs up.0) ∙ sym (subst Q (sym heads ∙ q_x) (below_not_in y ys also.0)))
      (λ differ.
      sym (ap (λ b. b || is_member same xs q) differ) ∙ agree q ∙ ap (λ b. b || is_member same ys q) (ap (λ z. same q z) (sym heads) ∙ differ)) in
      ap (λ z. z ∷ xs) heads ∙ ap (λ l. y ∷ l) (sorted_same xs ys up.1 also.1 rest)

-- the row of a torrent
row_of : List Entry → InfoHash → Row
row_of past h = record { hash = h; counts = counts_of past h }

row_again : (past : List Entry) (rows : List Row) → AllByRecursion (λ row. row.counts ≡ counts_of past row.hash) rows → rows ≡ map (row_of past) (map (λ row. row.hash) rows)
unfolding row_of
row_again past [] right = refl
row_again past (row ∷ rows) right = ap (λ c. let r : Row = record { hash = row.hash; counts = c } in r ∷ rows) right.0 ∙ ap (λ l. row_of past row.hash ∷ l) (row_again past rows right.1)

-- rows that strictly ascend, of the known torrents, each with its counts, are the rows of a scan
pub rows_are : (past : List Entry) (rows : List Row) → IsStrictlySortedBy hash_cmp (map (λ row. row.hash) rows) →
    ((h : InfoHash) → is_member same_hash (map (λ row. row.hash) rows) h ≡ is_known past h (time_of past)) →
    AllByRecursion (λ row. row.counts ≡ counts_of past row.hash) rows → rows ≡ rows_of past
unfolding row_of
rows_are past rows sorted members right =
    let known = known_hashes past (time_of past) in
    row_again past rows right
    ∙ ap (λ l. map (row_of past) l) (sorted_same hash_cmp hash_cmp_total same_hash same_hash_decides hash_cmp_ties (map (λ row. row.hash) rows) (ascending hash_cmp known) sorted
    (sorted_ascending hash_cmp hash_cmp_total same_hash same_hash_decides hash_cmp_ties known)
    (λ h. members h ∙ sym (member_ascending hash_cmp hash_cmp_total same_hash same_hash_decides hash_cmp_ties known h ∙ known_hash_member past (time_of past) h)))
