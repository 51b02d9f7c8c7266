-- What a node tells the others of one bucket.
use Rattle.std.specs.Prelude.{◌≡◌, ℕ, ◌<◌, ◌≤◌, List, [], map, length, take}
use Rattle.std.specs.Prelude.{Option, Result, Ok, Err}
use Rattle.std.specs.List.{flat_map}
use Rattle.ot_base.specs.declared.address.Endpoint.{Endpoint}
use Rattle.ot_base.specs.declared.minute.Minute.{Minute}
use Rattle.ot_base.specs.declared.peer.Note.{Note}
use Rattle.ot_io.specs.Counts.{Rose}
use Rattle.ot_io.specs.Traffic.{Datagram, Moves, Traffic, datagram}
use Rattle.shards.specs.Passing.{MadeByPass}
use Rattle.shards.specs.Shape.{PassShape}
use Rattle.sync_wire.specs.Batches.{datagrams_of}
use Rattle.tracker_model.specs.declared.answer.Answer.TheVariants.{Drained}
use Rattle.tracker_model.specs.declared.call.Call.TheVariants.{Drain}
use Rattle.upkeep.specs.declared.sync_out.SyncOut.{SyncOut}
use Rattle.upkeep.specs.declared.sync_out.SyncOut.TheVariants.{Sent, SendFault}

-- these bytes to every node, in order
abbrev pub to_each : List Endpoint → List ℕ → List Datagram
to_each nodes bytes = map (λ node. datagram node bytes) nodes

-- all that is to be sent for some notes: each datagram to every node, in order, before the next
abbrev pub outgoing : (own : ℕ) → List Endpoint → List Note → List Datagram
outgoing own nodes notes = flat_map (to_each nodes) (datagrams_of own notes)

-- All of these datagrams were sent, in order, and so many they are; or so many of them, before one
-- that couldn't be.
abbrev pub AreSent : List Datagram → (wire wire' : Option Traffic) → Result ℕ ℕ → Type 0
AreSent all wire wire' (Ok count) = (count ≡ length all) × Moves wire wire' [] all
AreSent all wire wire' (Err count) = (count < length all) × Moves wire wire' [] (take count all)

-- a count of faults doesn't fall, and a datagram that couldn't be sent raises it
abbrev pub SendsCounted : (faults faults' : ℕ) → Result ℕ ℕ → Type 0
SendsCounted faults faults' (Ok count) = faults ≤ faults'
SendsCounted faults faults' (Err count) = (faults ≤ faults') × Rose faults faults'

-- how many datagrams were sent, and whether those were all
abbrev pub sent_of : SyncOut → Result ℕ ℕ
sent_of (Sent datagrams dropped) = Ok datagrams
sent_of (SendFault datagrams) = Err datagrams

-- where all were sent, it is told how many notes had been dropped
abbrev pub TellsDropped : ℕ → SyncOut → Type 0
TellsDropped dropped (Sent datagrams lost) = lost ≡ dropped
TellsDropped dropped (SendFault datagrams) = Unit {0}

-- The notes were taken out of a bucket by one call, and their datagrams were sent.
pub record TellsNotes (own : ℕ) (nodes : List Endpoint) (bucket : ℕ) (minute : Minute)
    (old new : PassShape) (wire wire' : Option Traffic) (told : SyncOut) : Type 0 where
  pub notes : List Note
  pub dropped : ℕ
  pub drained : MadeByPass old bucket minute Drain (Drained notes dropped) new
  pub sent : AreSent (outgoing own nodes notes) wire wire' (sent_of told)
  pub tells : TellsDropped dropped told
