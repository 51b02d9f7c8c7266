-- The info hashes that a scrape names.
use Rattle.std.proofs.Common.{◌≡◌, ℕ, ◌+◌, ◌-◌, ◌<◌, ◌≤◌, Bool, true, false, List, [], ◌∷◌, length, map, drop, refl, ◌∙◌, ap, subst, sym, arith, lit≤}
use Rattle.std.specs.Prelude.{Result, Some, None, Ok, Err, slice_get, if◌then◌else◌}
use Rattle.std.specs.List.{list_all}
use Rattle.std.specs.List.Sorted.{IsStrictlySortedBy}
use Rattle.std.specs.Ordering.{match_ordering}
use Rattle.std.specs.declared.cmp.Ordering.{Ordering}
use Rattle.std.specs.declared.cmp.Ordering.TheVariants.{Less, Equal, Greater}
use Rattle.std.proofs.lemmas.List.{drop_more}
use Rattle.std.proofs.lemmas.Option.{get_or_from_slice_get, slice_get_within}
use Rattle.ot_base.specs.Order.{hash_cmp}
use Rattle.ot_base.specs.declared.hash.InfoHash.{InfoHash}
use Rattle.ot_base.specs.declared.refusal.Refusal.{Refusal}
use Rattle.ot_base.specs.declared.refusal.Refusal.TheVariants.{BadHash}
use Rattle.tracker_model.specs.Counted.{ascending, put_in_order}
use Rattle.tracker_core.specs.HttpPlan.{hash_named, hash_of, hashes_named, is_hash}
use Rattle.tracker_core.proofs.OrderLemmas.{ascends}

-- one more value, from the last one down
pub next_values : (values : List (List ℕ)) (i : ℕ) (value : List ℕ) → 0 < i → slice_get values (i - 1) ≡ Some value → drop (i - 1) values ≡ value ∷ drop i values
next_values values i value some at =
    let back : (i - 1) + 1 ≡ i = omega arith in
    drop_more values (i - 1) value (slice_get_within values (i - 1) value at)
    ∙ ap (λ v. v ∷ drop ((i - 1) + 1) values) (get_or_from_slice_get values (i - 1) value value at)
    ∙ ap (λ n. value ∷ drop n values) back

hash_by : (b : Bool) (value : List ℕ) (hash : InfoHash) → ◌≡◌ {A = Result InfoHash Refusal} (Ok hash) (if b then Ok (hash_of value) else Err BadHash) → (b ≡ true) × (hash ≡ hash_of value)
hash_by true value hash e = (refl, cc)
hash_by false value hash e = absurd (cc)

-- a value that is an info hash, and one that isn't
pub valid_hash : (hash : InfoHash) (value : List ℕ) → Ok hash ≡ hash_named (Some value) → (is_hash value ≡ true) × (hash ≡ hash_of value)
valid_hash hash value e = hash_by (is_hash value) value hash e

no_hash_by : (b : Bool) (value : List ℕ) (why : Refusal) → ◌≡◌ {A = Result InfoHash Refusal} (Err why) (if b then Ok (hash_of value) else Err BadHash) → b ≡ false
no_hash_by true value why e = absurd (cc)
no_hash_by false value why e = refl

pub invalid_hash : (why : Refusal) (value : List ℕ) → Err why ≡ hash_named (Some value) → is_hash value ≡ false
invalid_hash why value e = no_hash_by (is_hash value) value why e

-- where all values are info hashes, and where one isn't
named : List (List ℕ) → List InfoHash
named values = ascending hash_cmp (map hash_of values)

pub all_named : (values : List (List ℕ)) → list_all is_hash values ≡ true → hashes_named values ≡ Some (ascending hash_cmp (map hash_of values))
unfolding named
all_named values all = ap (λ b. if b then Some (named values) else None) all

pub none_named : (values : List (List ℕ)) → list_all is_hash values ≡ false → hashes_named values ≡ None
unfolding named
none_named values one = ap (λ b. if b then Some (named values) else None) one

hashes_by : (b : Bool) (found hashes : List InfoHash) → Some hashes ≡ (if b then Some found else None) → hashes ≡ found
hashes_by true found hashes e = cc
hashes_by false found hashes e = absurd (cc)

named_are : (values : List (List ℕ)) (hashes : List InfoHash) → Some hashes ≡ hashes_named values → hashes ≡ named values
unfolding named
named_are values hashes e = hashes_by (list_all is_hash values) (named values) hashes e

-- they ascend
pub named_ascend : (values : List (List ℕ)) (hashes : List InfoHash) → Some hashes ≡ hashes_named values → IsStrictlySortedBy hash_cmp hashes
unfolding named
named_ascend values hashes e = subst (IsStrictlySortedBy hash_cmp) (sym (named_are values hashes e)) (ascends (map hash_of values))

some_by : (x y : InfoHash) (ys : List InfoHash) (o : Ordering) → 1 ≤ length (match_ordering o (x ∷ y ∷ ys) (y ∷ ys) (y ∷ put_in_order hash_cmp x ys))
some_by x y ys Less = omega arith
some_by x y ys Equal = omega arith
some_by x y ys Greater = omega arith

some_put : (x : InfoHash) (ys : List InfoHash) → 1 ≤ length (put_in_order hash_cmp x ys)
some_put x [] = lit≤ tt
some_put x (y ∷ ys) = some_by x y ys (hash_cmp x y)

some_named : (values : List (List ℕ)) → 0 < length values → 1 ≤ length (named values)
unfolding named
some_named [] some = absurd (omega arith)
some_named (value ∷ values) some = some_put (hash_of value) (named values)

-- there is one where there is a value
pub some_hash : (values : List (List ℕ)) (hashes : List InfoHash) → Some hashes ≡ hashes_named values → 0 < length values → 1 ≤ length hashes
some_hash values hashes e some =
    let HasOne : List InfoHash → Type 0 = λ l. 1 ≤ length l in
    subst HasOne (sym (named_are values hashes e)) (some_named values some)
