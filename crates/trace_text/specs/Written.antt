-- A line of a trace in the form in which it is written: numbers without leading zeros, hex digits
-- in lower case.
use Rattle.std.specs.Prelude.{ℕ, ◌≡◌, ◌<◌, ◌≤◌, ◌^◌, ◌++◌, List, All, length, slice_index, codes, decimal, ⊤}
use Rattle.hex.specs.Hex.{encode_lower}
use Rattle.ot_base.specs.declared.address.Addr.{Addr}
use Rattle.ot_base.specs.declared.address.Addr.TheVariants.{V4, V6}
use Rattle.ot_base.specs.declared.address.Endpoint.{Endpoint}
use Rattle.trace_text.specs.declared.line.TraceLine.{TraceLine}
use Rattle.trace_text.specs.declared.line.TraceLine.TheVariants.{Udp, Http, Clean}

-- four numbers with dots between
abbrev pub dotted_text : List ℕ → List ℕ
dotted_text octets =
    decimal (slice_index octets 0) ++ codes "." ++ decimal (slice_index octets 1) ++ codes "."
    ++ decimal (slice_index octets 2) ++ codes "." ++ decimal (slice_index octets 3)

-- an IPv4 address as four numbers, an IPv6 address as 32 hex digits
abbrev pub address_text : Addr → List ℕ
address_text (V4 octets) = dotted_text octets
address_text (V6 bytes) = encode_lower bytes

-- a line of five fields: `kind seconds address port hex`
abbrev pub five_fields : List ℕ → ℕ → Endpoint → List ℕ → List ℕ
five_fields kind seconds from bytes =
    kind ++ codes " " ++ decimal seconds ++ codes " " ++ address_text from.addr ++ codes " "
    ++ decimal from.port ++ codes " " ++ encode_lower bytes

-- the line of a record
abbrev pub text_of : TraceLine → List ℕ
text_of (Udp seconds from bytes) = five_fields (codes "U") seconds from bytes
text_of (Http seconds from bytes) = five_fields (codes "H") seconds from bytes
text_of (Clean seconds) = codes "C " ++ decimal seconds

-- every byte of the record counts
abbrev pub AllCount : TraceLine → Type 0
AllCount (Udp seconds from bytes) = length bytes ≤ 2048
AllCount (Http seconds from bytes) = length bytes ≤ 8192
AllCount (Clean seconds) = ⊤

-- an IPv4 address, as a program holds it
abbrev pub IsFour : Addr → Type 0
IsFour (V4 octets) = (length octets ≡ 4) × All (λ octet. octet < 256) octets
IsFour (V6 bytes) = ⊥

-- something that came from an IPv4 address, as a program holds it
pub record IsArrival (seconds : ℕ) (from : Endpoint) (bytes : List ℕ) : Type 0 where
  pub seconds_of_64_bits : seconds < 2 ^ 64
  pub address_of_four : IsFour from.addr
  pub port_of_16_bits : from.port < 2 ^ 16
  pub bytes_of_8_bits : All (λ b. b < 256) bytes

-- a record as a program holds it; what came, came from an IPv4 address
abbrev pub IsOfFour : TraceLine → Type 0
IsOfFour (Udp seconds from bytes) = IsArrival seconds from bytes
IsOfFour (Http seconds from bytes) = IsArrival seconds from bytes
IsOfFour (Clean seconds) = seconds < 2 ^ 64
