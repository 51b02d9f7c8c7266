-- What a node does where another tells it something.
use Rattle.std.specs.Prelude.{◌≡◌, ℕ, ◌<◌, ◌≤◌, Bool, true, false, List, [], ◌∷◌, ◌++◌}
use Rattle.std.specs.Prelude.{length, map, take, Option, Result, Ok, Err}
use Rattle.std.specs.List.{AllByRecursion, filter}
use Rattle.ot_base.specs.declared.address.Endpoint.{Endpoint}
use Rattle.ot_base.specs.declared.minute.Minute.{Minute}
use Rattle.ot_base.specs.declared.peer.Note.{Note}
use Rattle.ot_io.specs.Counts.{Rose}
use Rattle.ot_io.specs.Traffic.{Datagram, Moves, NoneWaits, Traffic}
use Rattle.shards.specs.Shape.{PassShape}
use Rattle.sync_wire.specs.Batches.{Batch}
use Rattle.sync_wire.specs.Reading.{batch_of}
use Rattle.sync_wire.specs.declared.reading.SyncFault.{SyncFault}
use Rattle.tracker_model.specs.Grows.{GrowsAmong}
use Rattle.tracker_model.specs.Placed.{bucket_in, moves_of, placed_calls}
use Rattle.tracker_model.specs.declared.answer.Answer.{Answer}
use Rattle.tracker_model.specs.declared.answer.Answer.TheVariants.{Told, Stats, Rows, Cleaned}
use Rattle.tracker_model.specs.declared.answer.Answer.TheVariants.{Drained, SwarmFull, BucketFull}
use Rattle.tracker_model.specs.declared.answer.Answer.TheVariants as answered
use Rattle.tracker_model.specs.declared.call.Call.{Call}
use Rattle.tracker_model.specs.declared.call.Call.TheVariants.{Sync}
use Rattle.upkeep.specs.Nodes.{is_among}
use Rattle.upkeep.specs.declared.sync_in.SyncIn.{SyncIn}
use Rattle.upkeep.specs.declared.sync_in.SyncIn.TheVariants.{Idle, RecvFault, Stranger, Refused}
use Rattle.upkeep.specs.declared.sync_in.SyncIn.TheVariants.{Applied, NoMemory}

-- the call of a note
abbrev pub sync_call : Note → Call
sync_call note = Sync note.hash note.who note.mark

-- what a datagram says, of which the first 2,048 bytes count
abbrev pub heard_of : (own : ℕ) → Datagram → Result Batch SyncFault
heard_of own came = batch_of own (take 2048 came.bytes)

abbrev pub notes_of_batch : Result Batch SyncFault → List Note
notes_of_batch (Ok batch) = batch.notes
notes_of_batch (Err fault) = []

-- the calls that a datagram asks for, each with the number of its bucket
abbrev pub sync_placed : (bits own : ℕ) → Datagram → List (ℕ × Call)
sync_placed bits own came =
    placed_calls (bucket_in bits) (map sync_call (notes_of_batch (heard_of own came)))

-- whether an answer says that the torrent or the bucket is full
abbrev pub is_full : Answer → Bool
is_full (Told counts peers) = false
is_full (Stats counts known) = false
is_full (Rows rows) = false
is_full (Cleaned held) = false
is_full answered.Applied = false
is_full (Drained notes dropped) = false
is_full (SwarmFull count) = true
is_full (BucketFull count) = true
is_full answered.NoMemory = false

-- whether an answer says that there was no memory
abbrev pub is_wanting : Answer → Bool
is_wanting (Told counts peers) = false
is_wanting (Stats counts known) = false
is_wanting (Rows rows) = false
is_wanting (Cleaned held) = false
is_wanting answered.Applied = false
is_wanting (Drained notes dropped) = false
is_wanting (SwarmFull count) = false
is_wanting (BucketFull count) = false
is_wanting answered.NoMemory = true

-- how many of some answers say that something is full
abbrev pub full_count : List Answer → ℕ
full_count answers = length (filter is_full answers)

-- there was memory for each of these answers
abbrev pub HadMemory : List Answer → Type 0
HadMemory answers = AllByRecursion (λ answer. is_wanting answer ≡ false) answers

-- What was told of the answers to the calls of some notes: each note has an answer; or there was no
-- memory for the last answer, and the notes behind have none.
abbrev pub TellsAnswers : List Note → List Answer → SyncIn → Type 0
TellsAnswers notes answers Idle = ⊥
TellsAnswers notes answers RecvFault = ⊥
TellsAnswers notes answers (Stranger from) = ⊥
TellsAnswers notes answers (Refused fault) = ⊥
TellsAnswers notes answers (Applied calls full) =
    HadMemory answers × (length answers ≡ length notes)
    × (calls ≡ length answers) × (full ≡ full_count answers)
TellsAnswers notes answers (NoMemory calls) =
    (first : List Answer) × HadMemory first × (answers ≡ first ++ answered.NoMemory ∷ [])
    × (calls ≡ length first) × (calls < length notes)

-- Through a pass a call was made for each of these notes, in order, of whose answers this is told.
pub record AnswersNotes (minute : Minute) (old new : PassShape) (notes : List Note)
    (told : SyncIn) : Type 0 where
  pub answers : List Answer
  pub tells : TellsAnswers notes answers told
  pub grown : GrowsAmong old.shards.settings old.caller old.seen
      (moves_of old.caller minute
      (placed_calls (bucket_in old.shards.bits) (map sync_call notes)) answers) new.seen

module _ (own : ℕ) (nodes : List Endpoint) where
  -- What was told of a datagram that came, to whose calls there are these answers: a stranger's
  -- isn't read, and one that no node sends asks for no call.
  abbrev pub TellsOf : Datagram → List Answer → SyncIn → Type 0
  TellsOf came answers Idle = ⊥
  TellsOf came answers RecvFault = ⊥
  TellsOf came answers (Stranger from) =
      (is_among nodes came.peer ≡ false) × (from ≡ came.peer) × (answers ≡ [])
  TellsOf came answers (Refused fault) =
      (is_among nodes came.peer ≡ true) × (heard_of own came ≡ Err fault) × (answers ≡ [])
  TellsOf came answers (Applied calls full) =
      (is_among nodes came.peer ≡ true) × (batch : Batch) × (heard_of own came ≡ Ok batch)
      × TellsAnswers batch.notes answers (Applied calls full)
  TellsOf came answers (NoMemory calls) =
      (is_among nodes came.peer ≡ true) × (batch : Batch) × (heard_of own came ≡ Ok batch)
      × TellsAnswers batch.notes answers (NoMemory calls)

  -- A datagram came, of which this was told: through the pass the calls that it asks for were made
  -- in order, each with its answer.
  pub record Hears (minute : Minute) (old new : PassShape) (wire wire' : Option Traffic)
      (told : SyncIn) : Type 0 where
    pub came : Datagram
    pub answers : List Answer
    pub tells : TellsOf came answers told
    pub grown : GrowsAmong old.shards.settings old.caller old.seen
        (moves_of old.caller minute (sync_placed old.shards.bits own came) answers) new.seen
    pub moved : Moves wire wire' (came ∷ []) []

  -- what was done in one turn: nothing where no datagram came
  abbrev pub HearsTurn : Minute → (old new : PassShape) → (wire wire' : Option Traffic) → SyncIn
      → Type 0
  HearsTurn minute old new wire wire' Idle =
      (new ≡ old) × Moves wire wire' [] [] × NoneWaits wire'
  HearsTurn minute old new wire wire' RecvFault = (new ≡ old) × Moves wire wire' [] []
  HearsTurn minute old new wire wire' (Stranger from) =
      Hears minute old new wire wire' (Stranger from)
  HearsTurn minute old new wire wire' (Refused fault) =
      Hears minute old new wire wire' (Refused fault)
  HearsTurn minute old new wire wire' (Applied calls full) =
      Hears minute old new wire wire' (Applied calls full)
  HearsTurn minute old new wire wire' (NoMemory calls) =
      Hears minute old new wire wire' (NoMemory calls)

-- a count of faults doesn't fall, and one that is told raises it
abbrev pub HearsCounted : (faults faults' : ℕ) → SyncIn → Type 0
HearsCounted faults faults' Idle = faults ≤ faults'
HearsCounted faults faults' RecvFault = (faults ≤ faults') × Rose faults faults'
HearsCounted faults faults' (Stranger from) = faults ≤ faults'
HearsCounted faults faults' (Refused fault) = faults ≤ faults'
HearsCounted faults faults' (Applied calls full) = faults ≤ faults'
HearsCounted faults faults' (NoMemory calls) = faults ≤ faults'

-- a count of the times that none waited doesn't fall, and each such time raises it
abbrev pub IdlesOnHearing : (idles idles' : ℕ) → SyncIn → Type 0
IdlesOnHearing idles idles' Idle = (idles ≤ idles') × Rose idles idles'
IdlesOnHearing idles idles' RecvFault = idles ≤ idles'
IdlesOnHearing idles idles' (Stranger from) = idles ≤ idles'
IdlesOnHearing idles idles' (Refused fault) = idles ≤ idles'
IdlesOnHearing idles idles' (Applied calls full) = idles ≤ idles'
IdlesOnHearing idles idles' (NoMemory calls) = idles ≤ idles'
