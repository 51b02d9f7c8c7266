-- What a change of the index does to each hash.
use Rattle.std.proofs.Common.{◌≡◌, ◌≢◌, ℕ, Bool, true, false, cond, List, [], ◌∷◌, Option, Some, Ordering, refl, sym, ◌∙◌, ap}
use Rattle.std.specs.BTreeMap as tree
use Rattle.std.specs.Map.{lookup}
use Rattle.std.specs.Ordering.{is_eq}
use Rattle.std.proofs.lemmas.Map.Text.{is_eq-slice_cmp}
use Rattle.ot_base.specs.Order.{hash_cmp}
use Rattle.ot_base.specs.Same.{same_hash}
use Rattle.ot_base.proofs.SameLemmas.{same_hash_decides}
use Rattle.ot_base.specs.declared.hash.InfoHash.{InfoHash}
use Rattle.tracker_model.proofs.Cases.{by_test}
use Rattle.bucket.specs.Index.{Puts}

-- look-ups by orders that agree are the same
lookup_agree : {K X : Type 0} (p q : K → Bool) → ((k : K) → p k ≡ q k) → (es : List (K × X)) → lookup p es ≡ lookup q es
lookup_agree p q agree [] = refl
lookup_agree p q agree (e ∷ es) = ap (λ b. cond b (Some e.1) (lookup p es)) (agree e.0) ∙ ap (λ o. cond (q e.0) (Some e.1) o) (lookup_agree p q agree es)

pub same_get : (cmp : InfoHash → InfoHash → Ordering) → ((a b : InfoHash) → cmp a b ≡ hash_cmp a b) → (m : tree.BTreeMap InfoHash ℕ) (h : InfoHash) → tree.get cmp m h ≡ tree.get hash_cmp m h
same_get cmp agree m h = lookup_agree (λ k. is_eq (cmp h k)) (λ k. is_eq (hash_cmp h k)) (λ k. ap (λ o. is_eq o) (agree h k)) m.entries

same_self : (h : InfoHash) → same_hash h h ≡ true
same_self h = (same_hash_decides h h).1 refl

pub differ : (a b : InfoHash) → b ≢ a → same_hash a b ≡ false
differ a b apart =
    by_test (same_hash a b) (same_hash a b ≡ false) (λ yes. absurd (apart (sym ((same_hash_decides a b).0 yes)))) (λ no. no)

-- what a map's change says, in the words of the index
pub puts_updated : (cmp : InfoHash → InfoHash → Ordering) → ((a b : InfoHash) → cmp a b ≡ hash_cmp a b) → (m n : tree.BTreeMap InfoHash ℕ) (hash : InfoHash) (w : Option ℕ)
    → ((q : InfoHash) → tree.get cmp n q ≡ cond (is_eq (cmp hash q)) w (tree.get cmp m q)) → Puts (tree.get hash_cmp m) (tree.get hash_cmp n) hash w
puts_updated cmp agree m n hash w updates =
    let test : (q : InfoHash) → is_eq (cmp hash q) ≡ same_hash hash q = λ q. ap (λ o. is_eq o) (agree hash q) ∙ is_eq-slice_cmp hash.0 q.0 in
    let after : (q : InfoHash) → tree.get hash_cmp n q ≡ cond (same_hash hash q) w (tree.get hash_cmp m q) = λ q.
    sym (same_get cmp agree n q) ∙ updates q ∙ ap (λ b. cond b w (tree.get cmp m q)) (test q) ∙ ap (λ o. cond (same_hash hash q) w o) (same_get cmp agree m q) in
    record {
      here = after hash ∙ ap (λ b. cond b w (tree.get hash_cmp m hash)) (same_self hash);
      others = λ h apart. after h ∙ ap (λ b. cond b w (tree.get hash_cmp m h)) (differ hash h apart);
    }
