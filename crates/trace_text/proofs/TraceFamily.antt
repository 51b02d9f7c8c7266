-- The address of a record is one of IPv4.
use Rattle.std.proofs.Common.{◌≡◌, ℕ, List, [], ◌∷◌, Result, Ok, Err, refl, subst, if◌then◌else◌, true, false}
use Rattle.ot_base.specs.Address.{family_of}
use Rattle.ot_base.specs.declared.address.Addr.{Addr}
use Rattle.ot_base.specs.declared.address.Addr.TheVariants.{V4}
use Rattle.ot_base.specs.declared.address.Family.TheVariants.{Four}
use Rattle.ot_base.specs.declared.fault.TraceFault.{TraceFault}
use Rattle.ot_base.specs.declared.fault.TraceFault.TheVariants.{Unbuilt}
use Rattle.trace_text.specs.Trace.{◌>>=◌, octet_of, dotted_of, address_of, is_six, parts_of}

bind_four : (r : Result ℕ TraceFault) (f : ℕ → Result Addr TraceFault) → ((x : ℕ) (addr : Addr) → f x ≡ Ok addr → family_of addr ≡ Four) → (addr : Addr) → (r >>= f) ≡ Ok addr → family_of addr ≡ Four
bind_four (Ok x) f each addr e = each x addr e
bind_four (Err fault) f each addr e = absurd (cc)

four_numbers : (bytes : List ℕ) (addr : Addr) → (let r : Result Addr TraceFault = Ok (V4 bytes) in r ≡ Ok addr) → family_of addr ≡ Four
four_numbers bytes addr e = let same : V4 bytes ≡ addr = cc in subst (λ a. family_of a ≡ Four) same refl

dotted_four : (parts : List (List ℕ)) (addr : Addr) → dotted_of parts ≡ Ok addr → family_of addr ≡ Four
dotted_four [] addr e = absurd (cc)
dotted_four (a ∷ []) addr e = absurd (cc)
dotted_four (a ∷ b ∷ []) addr e = absurd (cc)
dotted_four (a ∷ b ∷ c ∷ []) addr e = absurd (cc)
dotted_four (a ∷ b ∷ c ∷ d ∷ []) addr e =
    bind_four (octet_of a) _ (λ w. bind_four (octet_of b) _ (λ x. bind_four (octet_of c) _ (λ y. bind_four (octet_of d) _ (λ z. four_numbers (w ∷ x ∷ y ∷ z ∷ []))))) addr e
dotted_four (a ∷ b ∷ c ∷ d ∷ f ∷ more) addr e = absurd (cc)

pub address_four : (text : List ℕ) (addr : Addr) → address_of text ≡ Ok addr → family_of addr ≡ Four
address_four text addr = elim (is_six text) as (λ b. (if b then Err Unbuilt else dotted_of (parts_of 46 text)) ≡ Ok addr → family_of addr ≡ Four) [
  | true ↦ λ e. absurd (cc)
  | false ↦ λ e. dotted_four (parts_of 46 text) addr e
]
