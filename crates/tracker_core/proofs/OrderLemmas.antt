-- Hashes put into their places among ascending ones.
use Rattle.std.proofs.Common.{◌≡◌, ℕ, ◌<◌, ◌+◌, ◌∷◌, ◌++◌, List, [], length, get_or, take, drop, refl, sym, ap, ◌∙◌}
use Rattle.std.proofs.Math.Seq.{drop-length, take-length}
use Rattle.std.proofs.lemmas.List.{append_assoc, drop_more, take_more}
use Rattle.std.specs.List.{AllByRecursion}
use Rattle.std.specs.List.Sorted.{IsStrictlySortedBy}
use Rattle.std.specs.Ordering.{match_ordering, ordering_reverse}
use Rattle.std.specs.declared.cmp.Ordering.{Ordering}
use Rattle.std.specs.declared.cmp.Ordering.TheVariants.{Less, Equal, Greater}
use Rattle.ot_base.specs.Order.{hash_cmp}
use Rattle.ot_base.specs.declared.hash.InfoHash.{InfoHash}
use Rattle.ot_base.proofs.OrderLemmas.{hash_cmp_total}
use Rattle.tracker_model.specs.Counted.{ascending, put_in_order}

-- all of these hashes are above one
abbrev pub AreAbove : InfoHash → List InfoHash → Type 0
AreAbove z ys = AllByRecursion (λ y. hash_cmp z y ≡ Less) ys

above_put_by : (z x y : InfoHash) (ys : List InfoHash) (o : Ordering) → hash_cmp z x ≡ Less → AreAbove z (y ∷ ys) → AreAbove z (put_in_order hash_cmp x ys)
    → AreAbove z (match_ordering o (x ∷ y ∷ ys) (y ∷ ys) (y ∷ put_in_order hash_cmp x ys))
above_put_by z x y ys Less first rest put = (first, rest)
above_put_by z x y ys Equal first rest put = rest
above_put_by z x y ys Greater first rest put = (rest.0, put)

-- a hash below another and below others is below all of them in order
above_put : (z x : InfoHash) (ys : List InfoHash) → hash_cmp z x ≡ Less → AreAbove z ys → AreAbove z (put_in_order hash_cmp x ys)
above_put z x [] first rest = (first, tt)
above_put z x (y ∷ ys) first rest = above_put_by z x y ys (hash_cmp x y) first rest (above_put z x ys first rest.1)

above_all : (x y : InfoHash) (ys : List InfoHash) → hash_cmp x y ≡ Less → AreAbove y ys → AreAbove x ys
above_all x y [] first rest = tt
above_all x y (z ∷ ys) first rest = (hash_cmp_total.trans x y z first rest.0, above_all x y ys first rest.1)

ascends_by : (x y : InfoHash) (ys : List InfoHash) (o : Ordering) → hash_cmp x y ≡ o → IsStrictlySortedBy hash_cmp (y ∷ ys)
    → IsStrictlySortedBy hash_cmp (put_in_order hash_cmp x ys)
    → IsStrictlySortedBy hash_cmp (match_ordering o (x ∷ y ∷ ys) (y ∷ ys) (y ∷ put_in_order hash_cmp x ys))
unfolding IsStrictlySortedBy
ascends_by x y ys Less e sorted put = ((e, above_all x y ys e sorted.0), sorted)
ascends_by x y ys Equal e sorted put = sorted
ascends_by x y ys Greater e sorted put =
    (above_put y x ys (hash_cmp_total.antisymm y x ∙ ap ordering_reverse e) sorted.0, put)

ascends_put : (x : InfoHash) (ys : List InfoHash) → IsStrictlySortedBy hash_cmp ys → IsStrictlySortedBy hash_cmp (put_in_order hash_cmp x ys)
unfolding IsStrictlySortedBy
ascends_put x [] sorted = (tt, tt)
ascends_put x (y ∷ ys) sorted = ascends_by x y ys (hash_cmp x y) refl sorted (ascends_put x ys sorted.1)

-- hashes put in order ascend strictly
pub ascends : (xs : List InfoHash) → IsStrictlySortedBy hash_cmp (ascending hash_cmp xs)
unfolding IsStrictlySortedBy
ascends [] = tt
ascends (x ∷ xs) = ascends_put x (ascending hash_cmp xs) (ascends xs)

-- a hash put among the last of some hashes, by how it compares with the first of these
pub put_at : (x y : InfoHash) (ys : List InfoHash) (i : ℕ) (o : Ordering) → i < length ys → y ≡ get_or ys i y → hash_cmp x y ≡ o
    → put_in_order hash_cmp x (drop i ys)
    ≡ match_ordering o (x ∷ drop i ys) (drop i ys) (y ∷ put_in_order hash_cmp x (drop (i + 1) ys))
put_at x y ys i o inside at compared =
    let rest = drop (i + 1) ys in
    let split : drop i ys ≡ y ∷ rest = drop_more ys i y inside ∙ ap (λ z. z ∷ rest) (sym at) in
    ap (put_in_order hash_cmp x) split
    ∙ ap (λ p. match_ordering p (x ∷ y ∷ rest) (y ∷ rest) (y ∷ put_in_order hash_cmp x rest)) compared
    ∙ ap (λ t. match_ordering o (x ∷ t) t (y ∷ put_in_order hash_cmp x rest)) (sym split)

-- a hash put after one more
pub put_after : (x y : InfoHash) (ys : List InfoHash) (i : ℕ) → i < length ys → y ≡ get_or ys i y → hash_cmp x y ≡ Greater
    → take i ys ++ put_in_order hash_cmp x (drop i ys) ≡ take (i + 1) ys ++ put_in_order hash_cmp x (drop (i + 1) ys)
put_after x y ys i inside at compared =
    let rest = put_in_order hash_cmp x (drop (i + 1) ys) in
    let one : take (i + 1) ys ≡ take i ys ++ y ∷ [] = take_more ys i y inside ∙ ap (λ z. take i ys ++ z ∷ []) (sym at) in
    ap (λ t. take i ys ++ t) (put_at x y ys i Greater inside at compared)
    ∙ sym (ap (λ t. t ++ rest) one ∙ append_assoc (take i ys) (y ∷ []) rest)

-- a hash put after all
pub put_last : (x : InfoHash) (ys : List InfoHash) (i : ℕ) → i ≡ length ys → take i ys ++ put_in_order hash_cmp x (drop i ys) ≡ ys ++ x ∷ []
put_last x ys i all =
    ap (λ n. take n ys ++ put_in_order hash_cmp x (drop n ys)) all
    ∙ ap (λ t. t ++ put_in_order hash_cmp x (drop (length ys) ys)) (take-length ys)
    ∙ ap (λ t. ys ++ put_in_order hash_cmp x t) (drop-length ys)
