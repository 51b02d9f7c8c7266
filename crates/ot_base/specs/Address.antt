-- Addresses as 16 bytes, and back.
use Rattle.std.specs.Prelude.{◌≡◌, ℕ, Bool, false, List, [], ◌∷◌, ◌++◌, drop, nat_eq, if◌then◌else◌}
use Rattle.std.specs.List.{starts_with}
use Rattle.ot_base.specs.declared.address.Addr.{Addr}
use Rattle.ot_base.specs.declared.address.Addr.TheVariants.{V4, V6}
use Rattle.ot_base.specs.declared.address.Endpoint.{Endpoint}
use Rattle.ot_base.specs.declared.address.Family.{Family}
use Rattle.ot_base.specs.declared.address.Family.TheVariants.{Four, Six}

-- what an IPv4-mapped IPv6 address begins with
abbrev pub mapped_front : List ℕ
mapped_front = 0 ∷ 0 ∷ 0 ∷ 0 ∷ 0 ∷ 0 ∷ 0 ∷ 0 ∷ 0 ∷ 0 ∷ 255 ∷ 255 ∷ []

abbrev pub is_mapped : List ℕ → Bool
is_mapped bytes = starts_with nat_eq bytes mapped_front

-- the address that 16 bytes name
abbrev pub address_of_six : List ℕ → Addr
address_of_six bytes = if is_mapped bytes then V4 (drop 12 bytes) else V6 bytes

-- the 16 bytes of an address
abbrev pub wide_bytes : Addr → List ℕ
wide_bytes (V4 bytes) = mapped_front ++ bytes
wide_bytes (V6 bytes) = bytes

abbrev pub family_of : Addr → Family
family_of (V4 bytes) = Four
family_of (V6 bytes) = Six

-- an IPv4 address, or an IPv6 address that isn't mapped: what a client's address is once it is read
abbrev pub IsRead : Addr → Type 0
IsRead (V4 bytes) = Unit {0}
IsRead (V6 bytes) = is_mapped bytes ≡ false

-- the unspecified IPv4 address, 0.0.0.0
abbrev pub unspecified : Addr
unspecified = V4 (0 ∷ 0 ∷ 0 ∷ 0 ∷ [])

-- no peer has this endpoint
abbrev pub no_endpoint : Endpoint
no_endpoint = record { addr = unspecified; port = 0 }
