-- A hash is found in ascending hashes exactly where it stands among them.
use Rattle.std.proofs.Common.{◌≡◌, ℕ, ◌+◌, List, true, length, get_or, inl, inr, sym, ap, subst}
use Rattle.std.proofs.Common.{◌∙◌, arith}
use Rattle.std.specs.Prelude.{Result, Ok, Err, is_ok}
use Rattle.std.specs.Cmp.{both_ways}
use Rattle.std.specs.List.{Contains}
use Rattle.std.specs.List.Sorted.{IsBinarySearchResult, IsSearchInRange, IsSorted}
use Rattle.std.specs.List.Sorted.{IsStrictlySortedBy}
use Rattle.std.specs.Ordering.{is_eq, is_lt, ordering_reverse}
use Rattle.std.specs.declared.cmp.Ordering.TheVariants.{Less, Equal, Greater}
use Rattle.std.proofs.lemmas.Bool.{false_from_ne_true}
use Rattle.std.proofs.lemmas.Bool.Decides.{leb_tells}
use Rattle.std.proofs.lemmas.List.Sorted.{searchable_from_sorted}
use Rattle.std.proofs.lemmas.Map.Keys.{Less-from_sorted}
use Rattle.std.proofs.lemmas.Map.Views.{Contains-from_any, list_any-from_Contains}
use Rattle.ot_base.proofs.OrderLemmas.{hash_cmp_ties, hash_cmp_total}
use Rattle.ot_base.proofs.SameLemmas.{same_hash_decides, same_hash_laws}
use Rattle.ot_base.specs.Order.{hash_cmp}
use Rattle.ot_base.specs.declared.hash.InfoHash.{InfoHash}
use Rattle.access_list.specs.Access.{is_named}

-- hashes that tie are one
tied : (a b : InfoHash) → hash_cmp a b ≡ Equal → a ≡ b
tied a b e = (same_hash_decides a b).0 (hash_cmp_ties a b ∙ ap is_eq e)

-- a hash isn't below itself, nor above
not_below : (a : InfoHash) → hash_cmp a a ≡ Less → ⊥
not_below a e =
    let turned : Less ≡ Greater = sym e ∙ hash_cmp_total.antisymm a a ∙ ap ordering_reverse e in
    cc turned

not_above : (a : InfoHash) → hash_cmp a a ≡ Greater → ⊥
not_above a e =
    let turned : Greater ≡ Less = sym e ∙ hash_cmp_total.antisymm a a ∙ ap ordering_reverse e in
    cc turned

-- that it is named says that it stands there, and the other way round
pub named_stands : (hashes : List InfoHash) (hash : InfoHash) → is_named hashes hash ≡ true
    → Contains hashes hash
named_stands hashes hash named =
    Contains-from_any (λ a b e. (same_hash_decides a b).0 e) hash hashes named

pub standing_named : (hashes : List InfoHash) (hash : InfoHash) → Contains hashes hash
    → is_named hashes hash ≡ true
standing_named hashes hash stands = list_any-from_Contains same_hash_laws hash hashes stands

-- lists of the same hashes name the same
pub same_named : (xs ys : List InfoHash) (hash : InfoHash) → (Contains xs hash → Contains ys hash)
    → (Contains ys hash → Contains xs hash) → is_named xs hash ≡ is_named ys hash
same_named xs ys hash there back =
    both_ways (is_named xs hash) (is_named ys hash)
    (λ e. standing_named ys hash (there (named_stands xs hash e)))
    (λ e. standing_named xs hash (back (named_stands ys hash e)))

ascending_sorted : (hashes : List InfoHash) → IsStrictlySortedBy hash_cmp hashes
    → IsSorted hash_cmp hashes
ascending_sorted hashes ascend k d low within =
    let up = Less-from_sorted hash_cmp hashes k (k + 1) d ascend (omega arith) within in
    let turned = hash_cmp_total.antisymm (get_or hashes (k + 1) d) (get_or hashes k d) in
    ap is_lt (turned ∙ ap ordering_reverse up)

pub searched_named : (hashes : List InfoHash) (hash : InfoHash) (r : Result ℕ ℕ)
    → IsStrictlySortedBy hash_cmp hashes → IsSearchInRange r (length hashes)
    → IsBinarySearchResult (λ y. hash_cmp y hash) hashes r → is_ok r ≡ is_named hashes hash
searched_named hashes hash (Ok i) ascend within found =
    sym (standing_named hashes hash (i, within, tied (get_or hashes i hash) hash (found hash)))
searched_named hashes hash (Err i) ascend within found =
    let sorted = ascending_sorted hashes ascend in
    let apart = found (searchable_from_sorted hash_cmp_total (λ y. y) hashes hash sorted) in
    sym (false_from_ne_true (is_named hashes hash) (λ e.
    let stands = named_stands hashes hash e in
    elim (leb_tells i stands.0) [
      | inl after ↦
          let above = apart.1 stands.0 hash after.1 stands.1 in
          not_above hash (subst (λ y. hash_cmp y hash ≡ Greater) stands.2 above)
      | inr before ↦
          let below = apart.0 stands.0 hash (omega arith) before.1 in
          not_below hash (subst (λ y. hash_cmp y hash ≡ Less) stands.2 below)
    ]))
