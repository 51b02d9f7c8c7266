-- One line of a trace: what it records, or the fault of its first bad part.
use Rattle.std.specs.Prelude.{ℕ, ◌-◌, ◌^◌, ◌≡◌, ◌≤◌, ◌==◌, ◌&&◌, nat_lt, nat_le, Bool, if◌then◌else◌, List, [], ◌∷◌, length, take, slice_index, codes, Option, Some, None, Result, Ok, Err, ⊤}
use Rattle.std.specs.Char.{is_ascii_digit}
use Rattle.std.specs.List.{slice_split, list_all}
use Rattle.std.specs.Option.{ok_or}
use Rattle.std.specs.Str.{bytes_eq}
use Rattle.std.specs.Str.Parse.{digits_value}
use Rattle.hex.specs.Hex.{decode_of, is_hex_digit}
use Rattle.hex.specs.declared.error.FromHexError.{FromHexError}
use Rattle.ot_base.specs.Address.{family_of}
use Rattle.ot_base.specs.declared.address.Addr.{Addr}
use Rattle.ot_base.specs.declared.address.Addr.TheVariants.{V4}
use Rattle.ot_base.specs.declared.address.Endpoint.{Endpoint}
use Rattle.ot_base.specs.declared.address.Family.TheVariants.{Four}
use Rattle.ot_base.specs.declared.fault.TraceFault.{TraceFault}
use Rattle.ot_base.specs.declared.fault.TraceFault.TheVariants.{Form, Number, Hex, Address, Unbuilt}
use Rattle.trace_text.specs.declared.line.TraceLine.{TraceLine}
use Rattle.trace_text.specs.declared.line.TraceLine.TheVariants.{Udp, Http, Clean}
use Rattle.trace_text.specs.declared.records.Received.{Received}
use Rattle.trace_text.specs.declared.records.Record.{Record}
use Rattle.trace_text.specs.declared.records.Record.TheVariants as read

-- something that came: the second, from whom, and those of its bytes that count
pub record Arrival : Type 0 where
  pub seconds : ℕ
  pub from : Endpoint
  pub bytes : List ℕ

-- the second step, where the first found no fault
infixl 10 ◌>>=◌
abbrev pub ◌>>=◌ : {A B : Type 0}
    → Result A TraceFault → (A → Result B TraceFault) → Result B TraceFault
Ok x >>= f = f x
Err fault >>= f = Err fault

-- a text cut at each place where the separator stands
abbrev pub parts_of : ℕ → List ℕ → List (List ℕ)
parts_of separator text = slice_split (λ b. b == separator) text

-- the number that 1 to `most` decimal digits write, where it is at most `greatest`
abbrev pub number_of : ℕ → ℕ → List ℕ → Option ℕ
number_of most greatest text =
    if nat_le 1 (length text) && nat_le (length text) most && list_all is_ascii_digit text
    && nat_le (digits_value 10 text) greatest
    then Some (digits_value 10 text)
    else None

-- a moment in seconds: 1 to 20 decimal digits of a value below 2^64
abbrev pub seconds_of : List ℕ → Result ℕ TraceFault
seconds_of text = ok_or (number_of 20 (2 ^ 64 - 1) text) Number

-- a port: 1 to 5 decimal digits of a value of 16 bits
abbrev pub port_of : List ℕ → Result ℕ TraceFault
port_of text = ok_or (number_of 5 65535 text) Number

-- a zero (48) before another character
abbrev pub has_leading_zero : List ℕ → Bool
has_leading_zero text = nat_lt 1 (length text) && (slice_index text 0 == 48)

-- one number of a dotted address: from 0 to 255, without leading zeros
abbrev pub octet_of : List ℕ → Result ℕ TraceFault
octet_of text = ok_or (if has_leading_zero text then None else number_of 3 255 text) Address

-- an IPv4 address as four numbers
abbrev pub dotted_of : List (List ℕ) → Result Addr TraceFault
dotted_of (first ∷ second ∷ third ∷ fourth ∷ []) = do
  a ← octet_of first
  b ← octet_of second
  c ← octet_of third
  d ← octet_of fourth
  Ok (V4 (a ∷ b ∷ c ∷ d ∷ []))
dotted_of parts = Err Address

-- an IPv6 address: its 32 hex digits
abbrev pub is_six : List ℕ → Bool
is_six text = (length text == 32) && list_all is_hex_digit text

-- an address: four numbers with dots (46) between, or an IPv6 address, which isn't answered yet
abbrev pub address_of : List ℕ → Result Addr TraceFault
address_of text = if is_six text then Err Unbuilt else dotted_of (parts_of 46 text)

-- those of the bytes that a text decoded to that count: the first `most`
abbrev pub counted_of : ℕ → Result (List ℕ) FromHexError → Result (List ℕ) TraceFault
counted_of most (Ok bytes) = Ok (take most bytes)
counted_of most (Err e) = Err Hex

-- what the fields after the kind say of something that came, judged from left to right
abbrev pub arrival_of : ℕ → List ℕ → List ℕ → List ℕ → List ℕ → Result Arrival TraceFault
arrival_of most time address port hex = do
  seconds ← seconds_of time
  addr ← address_of address
  port ← port_of port
  bytes ← counted_of most (decode_of hex)
  Ok (record { seconds = seconds; from = record { addr = addr; port = port }; bytes = bytes })

-- a datagram that came, and what came on a connection until its end
abbrev pub datagram_line : Arrival → TraceLine
datagram_line arrival = Udp arrival.seconds arrival.from arrival.bytes

abbrev pub connection_line : Arrival → TraceLine
connection_line arrival = Http arrival.seconds arrival.from arrival.bytes

-- of a datagram the first 2,048 bytes count
abbrev pub datagram_of : List ℕ → List ℕ → List ℕ → List ℕ → Result TraceLine TraceFault
datagram_of time address port hex = do
  arrival ← arrival_of 2048 time address port hex
  Ok (datagram_line arrival)

-- of what comes on a connection the first 8,192 bytes count
abbrev pub connection_of : List ℕ → List ℕ → List ℕ → List ℕ → Result TraceLine TraceFault
connection_of time address port hex = do
  arrival ← arrival_of 8192 time address port hex
  Ok (connection_line arrival)

-- the cleaner goes once over all buckets at that time
abbrev pub clean_of : List ℕ → Result TraceLine TraceFault
clean_of time = do
  seconds ← seconds_of time
  Ok (Clean seconds)

-- what the fields of a line record, by its kind
abbrev pub fields_line : List (List ℕ) → Result TraceLine TraceFault
fields_line (kind ∷ time ∷ address ∷ port ∷ hex ∷ []) =
    if bytes_eq kind (codes "U") then datagram_of time address port hex
    else if bytes_eq kind (codes "H") then connection_of time address port hex
    else Err Form
fields_line (kind ∷ time ∷ []) = if bytes_eq kind (codes "C") then clean_of time else Err Form
fields_line fields = Err Form

-- what a line records, its fields cut at each space (32)
abbrev pub line_of : List ℕ → Result TraceLine TraceFault
line_of line = fields_line (parts_of 32 line)

-- something that was read, its bytes at the front of a buffer
abbrev pub arrival_in : Received → List ℕ → Arrival
arrival_in received buffer = record {
  seconds = received.seconds;
  from = received.from;
  bytes = take received.len buffer;
}

-- what the record that was read says, its bytes at the front of a buffer
abbrev pub line_in : Record → List ℕ → TraceLine
line_in (read.Datagram received) buffer = datagram_line (arrival_in received buffer)
line_in (read.Connection received) buffer = connection_line (arrival_in received buffer)
line_in (read.Clean seconds) buffer = Clean seconds

-- what came, came from an IPv4 address
abbrev pub IsFromFour : Record → Type 0
IsFromFour (read.Datagram received) = family_of received.from.addr ≡ Four
IsFromFour (read.Connection received) = family_of received.from.addr ≡ Four
IsFromFour (read.Clean seconds) = ⊤

-- it has no more bytes than count of its kind
abbrev pub IsWithinLimit : Record → Type 0
IsWithinLimit (read.Datagram received) = received.len ≤ 2048
IsWithinLimit (read.Connection received) = received.len ≤ 8192
IsWithinLimit (read.Clean seconds) = ⊤
