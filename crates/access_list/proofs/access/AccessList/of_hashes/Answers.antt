use Rattle.std.proofs.Common.{◌∙◌}
use Rattle.std.proofs.lemmas.List.Filters.{dedup_is}
use Rattle.std.proofs.lemmas.List.Kept.{Contains-dedup, Contains-from_dedup}
use Rattle.std.proofs.lemmas.List.Kept.{IsStrictlySortedBy-dedup}
use Rattle.std.proofs.lemmas.List.Sorted.{Contains-permutation, IsPermutation-sym}
use Rattle.ot_base.proofs.OrderLemmas.{hash_cmp_ties, hash_cmp_total}
use Rattle.ot_base.proofs.SameLemmas.{same_hash_decides, same_hash_laws}
use Rattle.ot_base.specs.Same.{same_hash}
use Rattle.access_list.proofs.SearchLemmas.{same_named}
use Rattle.access_list.proofs.access.AccessList.of_hashes.Goals as goal

pub invariant_of-result : goal.invariant_of-result
invariant_of-result c =
    rw (c.shrink_to_fit.ensures.items ∙ dedup_is _ _ _ c.dedup.ensures.filtered)
    (IsStrictlySortedBy-dedup hash_cmp_total hash_cmp_ties _ c.sort_unstable.ensures.sorted)

pub returns-clause-named : goal.returns-clause-named
returns-clause-named c hash =
    let moved = c.sort_unstable.ensures.permutation in
    rw (c.shrink_to_fit.ensures.items ∙ dedup_is _ _ _ c.dedup.ensures.filtered)
    (same_named _ c.args.hashes.items hash
    (λ h.
    let kept = Contains-from_dedup same_hash _ hash h in
    Contains-permutation _ _ hash (IsPermutation-sym _ _ moved) kept)
    (λ h.
    let there = Contains-permutation _ _ hash moved h in
    Contains-dedup same_hash_laws (λ a b e. (same_hash_decides a b).0 e) _ hash there))
