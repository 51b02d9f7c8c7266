-- What a sync datagram says, and why it is refused. Places count bytes from 0, and numbers are in
-- network order.
use Rattle.std.specs.Prelude.{ℕ, zero, suc, List, [], ◌∷◌, ◌++◌, ◌+◌, ◌-◌, ◌*◌, ◌/◌, ◌%◌, Bool, not, ◌&&◌, ◌==◌, Result, Ok, Err, Option, Some, is_none, length, take, drop, nat_lt, nat_le, if◌then◌else◌}
use Rattle.std.specs.Int.{w32}
use Rattle.std.specs.List.{filter_map, position}
use Rattle.std.specs.Option.{option_map, option_map_or}
use Rattle.ot_base.specs.declared.peer.Note.{Note}
use Rattle.sync_wire.specs.Batches.{Batch}
use Rattle.sync_wire.specs.Notes.{number_at, note_of}
use Rattle.sync_wire.specs.declared.reading.SyncFault.{SyncFault}
use Rattle.sync_wire.specs.declared.reading.SyncFault.TheVariants.{Length, Kind, Own, Flag}

-- the sender's number
abbrev pub node_of : List ℕ → ℕ
node_of bytes = number_at w32 0 bytes

abbrev pub kind_of : List ℕ → ℕ
kind_of bytes = number_at w32 4 bytes

-- whether so many bytes are 8 and then 1 to 50 whole records of 28
abbrev pub is_whole : ℕ → Bool
is_whole len = nat_lt 8 len && ((len - 8) % 28 == 0) && nat_le ((len - 8) / 28) 50

-- so many records, one after the other from byte 8 on
abbrev pub records_of : ℕ → List ℕ → List (List ℕ)
records_of zero bytes = []
records_of (suc n) bytes = records_of n bytes ++ take 28 (drop (8 + 28 * n) bytes) ∷ []

-- the records of a whole datagram
abbrev pub records : List ℕ → List (List ℕ)
records bytes = records_of ((length bytes - 8) / 28) bytes

-- the first record that is wrong
abbrev pub record_fault : List (List ℕ) → Option SyncFault
record_fault rows = option_map (λ i. Flag i) (position (λ bytes. is_none (note_of bytes)) rows)

-- the notes of records, or the first that is wrong
abbrev pub notes_of : List (List ℕ) → Result (List Note) SyncFault
notes_of rows =
    option_map_or (λ fault. Err fault) (record_fault rows) (Ok (filter_map note_of rows))

-- why a datagram is refused by the reader of a number: the first of these, if there is one
unfoldable pub fault_of : ℕ → List ℕ → Option SyncFault
fault_of own bytes =
    if nat_lt (length bytes) 8 then Some (Length (length bytes))
    else if not (kind_of bytes == 4) then Some (Kind (kind_of bytes))
    else if node_of bytes == own then Some (Own own)
    else if not (is_whole (length bytes)) then Some (Length (length bytes))
    else record_fault (records bytes)

-- the batch that a datagram brings, or why it is refused
unfoldable pub batch_of : ℕ → List ℕ → Result Batch SyncFault
batch_of own bytes =
    option_map_or (λ fault. Err fault) (fault_of own bytes)
    (Ok (record { node = node_of bytes; notes = filter_map note_of (records bytes) }))
