-- Notes as the records of a sync datagram. Places count bytes from 0, and numbers are in network
-- order.
use Rattle.std.specs.Prelude.{ℕ, List, [], ◌∷◌, ◌++◌, ◌^◌, ◌≡◌, ◌≢◌, ◌<◌, ◌==◌, ◌||◌, not, Option, Some, None, length, take, drop, slice_index, if◌then◌else◌}
use Rattle.std.specs.Int.{Width, w16, byte_len, from_be_bytes, to_be_bytes}
use Rattle.std.specs.Option.{option_map}
use Rattle.ot_base.specs.Address.{family_of}
use Rattle.ot_base.specs.declared.address.Addr.{Addr}
use Rattle.ot_base.specs.declared.address.Addr.TheVariants.{V4, V6}
use Rattle.ot_base.specs.declared.address.Endpoint.{Endpoint}
use Rattle.ot_base.specs.declared.address.Family.TheVariants.{Four}
use Rattle.ot_base.specs.declared.peer.Mark.{Mark}
use Rattle.ot_base.specs.declared.peer.Mark.TheVariants.{Leecher, Seed, Stopped}
use Rattle.ot_base.specs.declared.peer.Note.{Note}

-- the number of some width that stands at a place
abbrev pub number_at : Width → ℕ → List ℕ → ℕ
number_at w place bytes = from_be_bytes w (take (byte_len w) (drop place bytes))

-- a note that may be told: its port isn't 0, and for now its address is of IPv4
abbrev pub IsTellable : Note → Type 0
IsTellable note = (note.who.port ≢ 0) × (family_of note.who.addr ≡ Four)

-- the flag of a mark
abbrev pub flag_of : Mark → ℕ
flag_of Seed = 0x80
flag_of Stopped = 0x20
flag_of Leecher = 0

abbrev pub address_bytes : Addr → List ℕ
address_bytes (V4 bytes) = bytes
address_bytes (V6 bytes) = bytes

-- the record of a note: info hash (20), address (4), port (2), flag (1), zero (1)
abbrev pub note_bytes : Note → List ℕ
note_bytes note =
    note.hash.0 ++ address_bytes note.who.addr ++ to_be_bytes w16 note.who.port
    ++ (flag_of note.mark ∷ 0 ∷ [])

-- a note that may be told, as a program holds it
pub record IsHeld (note : Note) : Type 0 where
  pub tellable : IsTellable note
  pub whole_hash : length note.hash.0 ≡ 20
  pub whole_address : length (address_bytes note.who.addr) ≡ 4
  pub port_of_16_bits : note.who.port < 2 ^ 16

-- the mark that a flag means, if it is one's
abbrev pub mark_of : ℕ → Option Mark
mark_of flag =
    if flag == 0x80 then Some Seed
    else if flag == 0x20 then Some Stopped
    else if flag == 0 then Some Leecher
    else None

-- the endpoint of a record
abbrev pub endpoint_of : List ℕ → Endpoint
endpoint_of bytes =
    record { addr = V4 (take 4 (drop 20 bytes)); port = number_at w16 24 bytes }

-- the note of a record: none where its port is 0, its last byte isn't, or its flag is no mark's
abbrev pub note_of : List ℕ → Option Note
note_of bytes =
    if (number_at w16 24 bytes == 0) || not (slice_index bytes 27 == 0) then None
    else option_map
    (λ mark. record { hash = record { 0 = take 20 bytes }; who = endpoint_of bytes; mark = mark })
    (mark_of (slice_index bytes 26))
