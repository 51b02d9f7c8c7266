-- What the tests of being the same say.
use Rattle.std.proofs.Common.{◌≡◌, Bool, refl, sym, ap, ℕ, List}
use Rattle.std.specs.Bool.{Decides, ◌==◌}
use Rattle.std.specs.Cmp.{IsEquivalence}
use Rattle.std.proofs.lemmas.Bool.Decides.{Decides-eqb, Decides-and, Decides-like, same_from_decides}
use Rattle.std.proofs.lemmas.Slice.Eq.{bytes_eq-Decides}
use Rattle.ot_base.specs.Same.{same_hash, same_address, same_endpoint}
use Rattle.ot_base.specs.declared.hash.InfoHash.{InfoHash}
use Rattle.ot_base.specs.declared.address.Addr.{Addr}
use Rattle.ot_base.specs.declared.address.Addr.TheVariants.{V4, V6}
use Rattle.ot_base.specs.declared.address.Endpoint.{Endpoint}

pub same_hash_decides : (a b : InfoHash) → Decides (same_hash a b) (a ≡ b)
same_hash_decides a b =
    let bytes = bytes_eq-Decides a.0 b.0 in
    (λ h. ap (λ (xs : List ℕ). let x : InfoHash = record { 0 = xs } in x) (bytes.0 h), λ e. bytes.1 (ap (λ (x : InfoHash). x.0) e))

pub same_address_decides : (a b : Addr) → Decides (same_address a b) (a ≡ b)
same_address_decides (V4 a) (V4 b) = let bytes = bytes_eq-Decides a b in (λ h. ap V4 (bytes.0 h), λ e. bytes.1 (cc))
same_address_decides (V4 a) (V6 b) = (λ h. cc, λ e. cc)
same_address_decides (V6 a) (V4 b) = (λ h. cc, λ e. cc)
same_address_decides (V6 a) (V6 b) = let bytes = bytes_eq-Decides a b in (λ h. ap V6 (bytes.0 h), λ e. bytes.1 (cc))

pub same_endpoint_decides : (a b : Endpoint) → Decides (same_endpoint a b) (a ≡ b)
same_endpoint_decides a b =
    let both = Decides-and (same_address a.addr b.addr) (a.port == b.port) (same_address_decides a.addr b.addr) (Decides-eqb a.port b.port) in
    (λ h. let parts = both.0 h in (λ i. let x : Endpoint = record { addr = parts.0 i; port = parts.1 i } in x), λ e. both.1 (ap (λ (x : Endpoint). x.addr) e, ap (λ (x : Endpoint). x.port) e))

-- a test that decides equality is an equivalence
pub equivalence_from_decides : {K : Type 0} {E : K → K → Bool} → ((a b : K) → Decides (E a b) (a ≡ b)) → IsEquivalence E
equivalence_from_decides {K} {E} d = record {
  refl = λ x. (d x x).1 refl;
  symm = λ x y. same_from_decides (E x y) (E y x) (d x y) (Decides-like (E y x) (λ e. sym e) (λ e. sym e) (d y x));
  congr = λ x y z h. ap (λ w. E w z) ((d x y).0 h);
}

pub same_hash_laws : IsEquivalence same_hash
same_hash_laws = equivalence_from_decides same_hash_decides

pub same_endpoint_laws : IsEquivalence same_endpoint
same_endpoint_laws = equivalence_from_decides same_endpoint_decides
