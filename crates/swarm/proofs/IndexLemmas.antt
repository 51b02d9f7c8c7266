-- What a change of the index does to each endpoint.
use Rattle.std.proofs.Common.{◌≡◌, ◌≢◌, ℕ, arith, Bool, true, false, ◌&&◌, cond, List, [], ◌∷◌, Option, Some, None, IsSome, OnSome, MutBor, Ordering, refl, sym, ◌∙◌, ap, subst}
use Rattle.std.specs.BTreeMap as tree
use Rattle.std.specs.Bool.{Decides, ◌==◌}
use Rattle.std.specs.Cmp.Lexicographic.{slice_cmp}
use Rattle.std.specs.Map.{lookup}
use Rattle.std.specs.Option.{option_copied_mut}
use Rattle.std.specs.Ordering.{is_eq, nat_cmp, ordering_then}
use Rattle.std.specs.Str.{bytes_eq}
use Rattle.std.specs.declared.cmp.Ordering.TheVariants.{Less, Equal, Greater}
use Rattle.std.proofs.lemmas.Bool.Decides.{Decides-and, Decides-eqb, nat_tests}
use Rattle.std.proofs.lemmas.Map.Text.{is_eq-slice_cmp}
use Rattle.std.proofs.lemmas.Slice.Eq.{bytes_eq-Decides}
use Rattle.ot_base.specs.Order.{address_cmp, endpoint_cmp}
use Rattle.ot_base.specs.Same.{same_address, same_endpoint}
use Rattle.ot_base.proofs.SameLemmas.{same_endpoint_decides}
use Rattle.ot_base.specs.declared.address.Addr.{Addr}
use Rattle.ot_base.specs.declared.address.Addr.TheVariants.{V4, V6}
use Rattle.ot_base.specs.declared.address.Endpoint.{Endpoint}
use Rattle.swarm.specs.Index.{Puts, place_by, place_in}
use Rattle.swarm.specs.Short.{endpoint_of, short_at, short_cmp, short_of}
use Rattle.swarm.specs.declared.index.Index.{Index}
use Rattle.swarm.specs.declared.index.Place.{Place}
use Rattle.swarm.specs.declared.short.Short.{Short}

pub by_test : (b : Bool) (P : Type 0) → (b ≡ true → P) → (b ≡ false → P) → P
by_test true P = λ yes no. yes refl
by_test false P = λ yes no. no refl

-- an order ties a key with itself alone
abbrev Ties : {K : Type 0} → (K → K → Ordering) → Type 0
Ties {K} cmp = (a b : K) → Decides (is_eq (cmp a b)) (a ≡ b)

is_eq-then : (a b : Ordering) → is_eq (ordering_then a b) ≡ (is_eq a && is_eq b)
is_eq-then Less b = refl
is_eq-then Equal b = refl
is_eq-then Greater b = refl

is_eq-nat : (m n : ℕ) → is_eq (nat_cmp m n) ≡ (m == n)
is_eq-nat m n = grind (arith, nat_tests)

-- by a first part, and then by a number
ties-then : (first : Ordering) (same : Bool) (m n : ℕ) (P : Type 0) → is_eq first ≡ same → Decides (same && (m == n)) P → Decides (is_eq (ordering_then first (nat_cmp m n))) P
ties-then first same m n P is both =
    let Q : Bool → Type 0 = λ b. Decides b P in
    subst Q (sym (is_eq-then first (nat_cmp m n) ∙ ap (λ x. x && is_eq (nat_cmp m n)) is ∙ ap (λ x. same && x) (is_eq-nat m n))) both

is_eq-address : (a b : Addr) → is_eq (address_cmp a b) ≡ same_address a b
is_eq-address (V4 a) (V4 b) = is_eq-slice_cmp a b
is_eq-address (V4 a) (V6 b) = refl
is_eq-address (V6 a) (V4 b) = refl
is_eq-address (V6 a) (V6 b) = is_eq-slice_cmp a b

endpoint_ties : Ties endpoint_cmp
endpoint_ties a b =
    ties-then (address_cmp a.addr b.addr) (same_address a.addr b.addr) a.port b.port (a ≡ b) (is_eq-address a.addr b.addr) (same_endpoint_decides a b)

same_short_decides : (a b : Short) → Decides (bytes_eq a.addr b.addr && (a.port == b.port)) (a ≡ b)
same_short_decides a b =
    let both = Decides-and (bytes_eq a.addr b.addr) (a.port == b.port) (bytes_eq-Decides a.addr b.addr) (Decides-eqb a.port b.port) in
    (λ h. let parts = both.0 h in (λ i. let x : Short = record { addr = parts.0 i; port = parts.1 i } in x), λ e. both.1 (ap (λ (x : Short). x.addr) e, ap (λ (x : Short). x.port) e))

short_ties : Ties short_cmp
short_ties a b =
    ties-then (slice_cmp nat_cmp a.addr b.addr) (bytes_eq a.addr b.addr) a.port b.port (a ≡ b) (is_eq-slice_cmp a.addr b.addr) (same_short_decides a b)

pub differ : (a b : Endpoint) → b ≢ a → same_endpoint a b ≡ false
differ a b apart =
    by_test (same_endpoint a b) (same_endpoint a b ≡ false) (λ yes. absurd (apart (sym ((same_endpoint_decides a b).0 yes)))) (λ no. no)

-- a map whose order agrees with one that ties a key with itself alone
module _ {K : Type 0} (cmp good : K → K → Ordering) (agree : (a b : K) → cmp a b ≡ good a b) where
  lookup_agree : (k : K) (es : List (K × Place)) → lookup (λ q. is_eq (cmp k q)) es ≡ lookup (λ q. is_eq (good k q)) es
  lookup_agree k [] = refl
  lookup_agree k (e ∷ es) =
      ap (λ o. cond (is_eq o) (Some e.1) (lookup (λ q. is_eq (cmp k q)) es)) (agree k e.0)
      ∙ ap (λ o. cond (is_eq (good k e.0)) (Some e.1) o) (lookup_agree k es)

  same_get : (m : tree.BTreeMap K Place) (k : K) → tree.get cmp m k ≡ tree.get good m k
  same_get m k = lookup_agree k m.entries

  module _ (ties : Ties good) (m n : tree.BTreeMap K Place) (k : K) (w : Option Place) (updates : (q : K) → tree.get cmp n q ≡ cond (is_eq (cmp k q)) w (tree.get cmp m q)) where
    after : (q : K) (b : Bool) → is_eq (good k q) ≡ b → tree.get good n q ≡ cond b w (tree.get good m q)
    after q b is =
        sym (same_get n q) ∙ updates q ∙ ap (λ o. cond (is_eq o) w (tree.get cmp m q)) (agree k q)
        ∙ ap (λ x. cond x w (tree.get cmp m q)) is ∙ ap (λ o. cond b w o) (same_get m q)

    updated_here : tree.get good n k ≡ w
    updated_here = after k true ((ties k k).1 refl)

    updated_others : (q : K) → q ≢ k → tree.get good n q ≡ tree.get good m q
    updated_others q apart =
        by_test (is_eq (good k q)) (tree.get good n q ≡ tree.get good m q) (λ yes. absurd (apart (sym ((ties k q).0 yes)))) (λ no. after q false no)

-- a change to a place that is the same
pub puts_as : (old new : Endpoint → Option Place) (who : Endpoint) (place w : Option Place) → place ≡ w → Puts old new who w → Puts old new who place
puts_as old new who place w is puts = record { here = puts.here ∙ sym is; others = puts.others }

-- what holds where a value is lent
pub on_lent : {X : Type 0} (lent : Option (MutBor X)) (found : Option X) (P : Type 0) → option_copied_mut lent ≡ found → (IsSome found → P) → OnSome lent P
on_lent None found P is shown = search
on_lent {X} (Some x) found P is shown = let Q : Option X → Type 0 = λ o. IsSome o in shown (subst Q is search)

-- an endpoint of IPv4 is named by its short form
short_names : (addr : Addr) (port : ℕ) (short : Short) → short_at addr port ≡ Some short → (let e : Endpoint = record { addr = addr; port = port } in endpoint_of short ≡ e)
short_names (V4 addr) port short is = cc
short_names (V6 addr) port short is = cc

-- an endpoint keeps its place where the map in which it stands says the same of it
same_place : (m n : Index) (e : Endpoint) (o : Option Short) → ((s : Short) → o ≡ Some s → tree.get short_cmp n.fours s ≡ tree.get short_cmp m.fours s)
    → (o ≡ None → tree.get endpoint_cmp n.sixes e ≡ tree.get endpoint_cmp m.sixes e) → place_by n e o ≡ place_by m e o
same_place m n e (Some s) four six = four s refl
same_place m n e None four six = six refl

module _ (cmp : Short → Short → Ordering) (agree : (a b : Short) → cmp a b ≡ short_cmp a b) (m : Index) (who : Endpoint) (short : Short) (is : short_of who ≡ Some short) where
  pub place_four : place_in m who ≡ tree.get cmp m.fours short
  place_four = ap (λ o. place_by m who o) is ∙ sym (same_get cmp short_cmp agree m.fours short)

  -- what a change of the first map says, in the words of the index
  pub puts_four : (fours : tree.BTreeMap Short Place) (w : Option Place) → ((q : Short) → tree.get cmp fours q ≡ cond (is_eq (cmp short q)) w (tree.get cmp m.fours q))
      → Puts (place_in m) (place_in (record { fours = fours; sixes = m.sixes })) who w
  puts_four fours w updates =
      let n : Index = record { fours = fours; sixes = m.sixes } in
      record {
        here = ap (λ o. place_by n who o) is ∙ updated_here cmp short_cmp agree short_ties m.fours fours short w updates;
        others = λ e apart. same_place m n e (short_of e)
            (λ s of. updated_others cmp short_cmp agree short_ties m.fours fours short w updates s
            (λ same. apart (sym (short_names e.addr e.port s of) ∙ ap (λ x. endpoint_of x) same ∙ short_names who.addr who.port short is)))
            (λ of. refl);
      }

module _ (cmp : Endpoint → Endpoint → Ordering) (agree : (a b : Endpoint) → cmp a b ≡ endpoint_cmp a b) (m : Index) (who : Endpoint) (is : short_of who ≡ None) where
  pub place_six : place_in m who ≡ tree.get cmp m.sixes who
  place_six = ap (λ o. place_by m who o) is ∙ sym (same_get cmp endpoint_cmp agree m.sixes who)

  -- the same of the second map
  pub puts_six : (sixes : tree.BTreeMap Endpoint Place) (w : Option Place) → ((q : Endpoint) → tree.get cmp sixes q ≡ cond (is_eq (cmp who q)) w (tree.get cmp m.sixes q))
      → Puts (place_in m) (place_in (record { fours = m.fours; sixes = sixes })) who w
  puts_six sixes w updates =
      let n : Index = record { fours = m.fours; sixes = sixes } in
      record {
        here = ap (λ o. place_by n who o) is ∙ updated_here cmp endpoint_cmp agree endpoint_ties m.sixes sixes who w updates;
        others = λ e apart. same_place m n e (short_of e) (λ s of. refl)
            (λ of. updated_others cmp endpoint_cmp agree endpoint_ties m.sixes sixes who w updates e apart);
      }
