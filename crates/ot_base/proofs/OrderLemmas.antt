-- The order of hashes is total, and ties where they are the same.
use Rattle.std.proofs.Common.{◌≡◌, sym}
use Rattle.std.specs.Cmp.{IsTotalOrder}
use Rattle.std.specs.Cmp.Lexicographic.{nat_list_cmp_total}
use Rattle.std.specs.Ordering.{eq_by_cmp}
use Rattle.std.proofs.lemmas.Map.Text.{is_eq-slice_cmp}
use Rattle.ot_base.specs.Order.{hash_cmp}
use Rattle.ot_base.specs.Same.{same_hash}
use Rattle.ot_base.specs.declared.hash.InfoHash.{InfoHash}

pub hash_cmp_total : IsTotalOrder hash_cmp
hash_cmp_total = record {
  antisymm = λ a b. nat_list_cmp_total.antisymm a.0 b.0;
  trans = λ a b c. nat_list_cmp_total.trans a.0 b.0 c.0;
  congr = λ a b c. nat_list_cmp_total.congr a.0 b.0 c.0;
}

pub hash_cmp_ties : (a b : InfoHash) → same_hash a b ≡ eq_by_cmp hash_cmp a b
hash_cmp_ties a b = sym (is_eq-slice_cmp a.0 b.0)
