-- A whole run of a server.
use Rattle.std.specs.Prelude.{◌≡◌, ℕ, ◌+◌, ◌≤◌, ◌^◌, ◌⊎◌, List, [], ◌++◌, length, take, All}
use Rattle.std.specs.Prelude.{Option, None, Some, Ok, Err}
use Rattle.std.specs.Io.KnownBytes.{Appends, IsAtEnd}
use Rattle.std.specs.List.{sum_by}
use Rattle.access_list.specs.Access.{Listing}
use Rattle.load_model.specs.Sums.{totals_in}
use Rattle.ot_base.specs.declared.access.Mode.{Mode}
use Rattle.ot_io.specs.Counts.{Rose}
use Rattle.ot_io.specs.Lending.{Lends, Lent}
use Rattle.ot_io.specs.Tales.{ListenerTale}
use Rattle.ot_io.specs.Traffic.{WireTale}
use Rattle.ot_io.specs.declared.settings.ServeSettings.{ServeSettings}
use Rattle.ot_io.specs.declared.status.Status.{Status}
use Rattle.ot_io.specs.declared.status.Status.TheVariants.{Done, Words, NoMemory, ReadFault}
use Rattle.ot_io.specs.declared.status.Status.TheVariants.{WriteFault, Line, TooLong, TooMuch}
use Rattle.ot_io.specs.declared.status.Status.TheVariants.{Device}
use Rattle.ot_io.specs.declared.status.Status.TheVariants as status
use Rattle.shards.specs.Shape.{KnowsNumbers, PassShape, ShardsShape}
use Rattle.tracker_model.specs.Legal.{IsLegalHistory}
use Rattle.tracker_model.specs.Settings.{AreLimits}
use Rattle.tracker_model.specs.declared.entry.Entry.{Entry}
use Rattle.server.specs.Access.{ReadsList}
use Rattle.server.specs.Devices.{device_count, sync_count}
use Rattle.server.specs.Served.{AreServed}
use Rattle.server.specs.Summary.{summary_line}
use Rattle.server.specs.declared.input.InputEnd.{InputEnd}
use Rattle.server.specs.declared.input.InputEnd.TheVariants.{Ended, Failed}

-- settings that a server may have
pub record CanServe (settings : ServeSettings) : Type 0 where
  pub few_bits : settings.replay.bits ≤ 10
  pub limits : AreLimits settings.replay.limits
  pub some_workers : 1 ≤ settings.workers
  pub few_workers : settings.workers ≤ 64

-- the summary of buckets with these histories
abbrev pub summary_of : List (List Entry) → List ℕ
summary_of histories = summary_line (totals_in histories) (sum_by length histories)

-- a front of a text was written
abbrev pub WritesFront : (written written' : Option (List ℕ)) → List ℕ → Type 0
WritesFront written written' text =
    (n : ℕ) × (n ≤ length text) × Appends written written' (take n text)

-- what was written of the summary of these histories where its writing ended so
abbrev pub Concludes : (written written' : Option (List ℕ)) → (writes writes' : ℕ)
    → List (List Entry) → Status → Type 0
Concludes written written' writes writes' histories Done =
    Appends written written' (summary_of histories)
Concludes written written' writes writes' histories WriteFault =
    WritesFront written written' (summary_of histories) × Rose writes writes'
Concludes written written' writes writes' histories NoMemory = Appends written written' []
Concludes written written' writes writes' histories (Words at) = ⊥
Concludes written written' writes writes' histories ReadFault = ⊥
Concludes written written' writes writes' histories (Line line why) = ⊥
Concludes written written' writes writes' histories (TooLong line) = ⊥
Concludes written written' writes writes' histories TooMuch = ⊥
Concludes written written' writes writes' histories (status.List line why) = ⊥
Concludes written written' writes writes' histories Device = ⊥

-- how a server ends, by the end of its input and by what became of the summary: a fault of the
-- input goes before one of the output
abbrev pub ended_as : InputEnd → Status → Status
ended_as Ended told = told
ended_as Failed told = ReadFault

-- What was written of the summary of these histories where a server ended so.
abbrev pub Tells : (written written' : Option (List ℕ)) → List (List Entry) → Status → Type 0
Tells written written' histories Done = Appends written written' (summary_of histories)
Tells written written' histories WriteFault = WritesFront written written' (summary_of histories)
Tells written written' histories ReadFault = WritesFront written written' (summary_of histories)
Tells written written' histories NoMemory = Appends written written' []
Tells written written' histories (Words at) = ⊥
Tells written written' histories (Line line why) = ⊥
Tells written written' histories (TooLong line) = ⊥
Tells written written' histories TooMuch = ⊥
Tells written written' histories (status.List line why) = ⊥
Tells written written' histories Device = ⊥

-- The passes of jobs that ran so were joined to caller 0's, which is this last one, and the shards
-- were closed. What it has seen are their legal histories, of which was told.
pub record HasConcluded (shards : ShardsShape) (written written' : Option (List ℕ))
    (status : Status) (HaveRunTo : PassShape → Type 0) : Type 0 where
  pub last : PassShape
  pub have_run : HaveRunTo last
  pub known : KnowsNumbers last
  pub buckets : length last.seen ≡ 2 ^ shards.bits
  pub legal : All (IsLegalHistory shards.settings) last.seen
  pub told : Tells written written' last.seen status

-- A server served by this access list, and has written so of the summary of its histories. So many
-- wires and listeners were made, and they came back in the order of their jobs.
pub record HasServed (settings : ServeSettings) (access : Option Listing)
    (wires_made listeners_made : ℕ) (wires_lent wires_lent' : Option (Lent WireTale))
    (listeners_lent listeners_lent' : Option (Lent ListenerTale))
    (HasWritten : List (List Entry) → Type 0) : Type 0 where
  pub histories : List (List Entry)
  pub wires : List WireTale
  pub listeners : List ListenerTale
  pub sync_wires : List WireTale
  pub wire_count : length wires ≡ device_count settings.workers settings.udp
  pub listener_count : length listeners ≡ device_count settings.workers settings.http
  pub sync_wire_count : length sync_wires ≡ sync_count settings.sync
  pub served : AreServed settings access wires listeners sync_wires histories
  pub wires_back : Lends wires_lent wires_lent' wires_made (wires ++ sync_wires)
  pub listeners_back : Lends listeners_lent listeners_lent' listeners_made listeners
  pub has_written : HasWritten histories

-- What a server did on devices that were made, and what it has written, where it ended so: after
-- `Done` the summary is written, after a fault a front of it. After want of memory nothing is
-- written.
module _ (settings : ServeSettings) (access : Option Listing)
    (wires_made listeners_made : ℕ) (wires_lent wires_lent' : Option (Lent WireTale))
    (listeners_lent listeners_lent' : Option (Lent ListenerTale))
    (written written' : Option (List ℕ)) where
  abbrev pub Serves : (List (List Entry) → Type 0) → Type 0
  Serves HasWritten = HasServed settings access wires_made listeners_made wires_lent wires_lent'
      listeners_lent listeners_lent' HasWritten

  abbrev pub ServesTo : Status → Type 0
  ServesTo Done = Serves (λ histories. Appends written written' (summary_of histories))
  ServesTo WriteFault = Serves (λ histories. WritesFront written written' (summary_of histories))
  ServesTo ReadFault = Serves (λ histories. WritesFront written written' (summary_of histories))
  ServesTo NoMemory = Appends written written' []
  ServesTo (Words at) = ⊥
  ServesTo (Line line why) = ⊥
  ServesTo (TooLong line) = ⊥
  ServesTo TooMuch = ⊥
  ServesTo (status.List line why) = ⊥
  ServesTo Device = ⊥

-- the access list that the input began with, where there is to be one
abbrev pub BeginsWith : (ends ends' : ℕ) → Option Mode → (left : Option (List ℕ)) → Option Listing
    → Type 0
BeginsWith ends ends' None left access = access ≡ None
BeginsWith ends ends' (Some mode) left access =
    (list : Listing) × (access ≡ Some list) × (left' : Option (List ℕ))
    × ReadsList (Rose ends ends' × IsAtEnd left') mode left left' (Ok list)

-- What a server did where it ended so. It served by the access list that its input began with; but
-- after a fault of the input it may have ended in the list. Where it didn't serve, and after want
-- of memory, nothing is written.
module _ (settings : ServeSettings) (ends ends' : ℕ) (left : Option (List ℕ))
    (wires_lent wires_lent' : Option (Lent WireTale))
    (listeners_lent listeners_lent' : Option (Lent ListenerTale))
    (written written' : Option (List ℕ)) where
  abbrev pub ServesFrom : Status → Type 0
  ServesFrom status =
      (access : Option Listing) × BeginsWith ends ends' settings.replay.access left access
      × ServesTo settings access
      (device_count settings.workers settings.udp + sync_count settings.sync)
      (device_count settings.workers settings.http) wires_lent wires_lent'
      listeners_lent listeners_lent' written written' status

  abbrev pub RunsServer : Status → Type 0
  RunsServer Done = ServesFrom Done
  RunsServer WriteFault = ServesFrom WriteFault
  RunsServer ReadFault = ServesFrom ReadFault ⊎ Appends written written' []
  RunsServer NoMemory = Appends written written' []
  RunsServer (Words at) = ⊥
  RunsServer (Line line why) = ⊥
  RunsServer (TooLong line) = Appends written written' []
  RunsServer TooMuch = Appends written written' []
  RunsServer (status.List line why) = Appends written written' []
  RunsServer Device = Appends written written' []

-- Which count rose where a server ended so: the input's of ends or of faults, the output's of
-- faults, or that of the maker of its devices. Its words are never refused, and it reads no trace.
abbrev pub IsServeCaused : (ends ends' reads reads' writes writes' makes makes' : ℕ) → Status
    → Type 0
IsServeCaused ends ends' reads reads' writes writes' makes makes' Done = Rose ends ends'
IsServeCaused ends ends' reads reads' writes writes' makes makes' WriteFault = Rose writes writes'
IsServeCaused ends ends' reads reads' writes writes' makes makes' ReadFault = Rose reads reads'
IsServeCaused ends ends' reads reads' writes writes' makes makes' NoMemory = Unit {0}
IsServeCaused ends ends' reads reads' writes writes' makes makes' (Words at) = ⊥
IsServeCaused ends ends' reads reads' writes writes' makes makes' (Line line why) = ⊥
IsServeCaused ends ends' reads reads' writes writes' makes makes' (TooLong line) = Unit {0}
IsServeCaused ends ends' reads reads' writes writes' makes makes' TooMuch = Unit {0}
IsServeCaused ends ends' reads reads' writes writes' makes makes' (status.List line why) = Unit {0}
IsServeCaused ends ends' reads reads' writes writes' makes makes' Device = Rose makes makes'

-- Where a line of the access list is refused or too long, or there are too many bytes, the list was
-- read up to there.
abbrev pub TellsList : (AtEnd : Type 0) → Option Mode → (left left' : Option (List ℕ)) → Status
    → Type 0
TellsList AtEnd access left left' Done = Unit {0}
TellsList AtEnd access left left' WriteFault = Unit {0}
TellsList AtEnd access left left' ReadFault = Unit {0}
TellsList AtEnd access left left' NoMemory = Unit {0}
TellsList AtEnd access left left' (Words at) = Unit {0}
TellsList AtEnd access left left' (Line line why) = Unit {0}
TellsList AtEnd access left left' (TooLong line) =
    (mode : Mode) × (access ≡ Some mode) × ReadsList AtEnd mode left left' (Err (TooLong line))
TellsList AtEnd access left left' TooMuch =
    (mode : Mode) × (access ≡ Some mode) × ReadsList AtEnd mode left left' (Err TooMuch)
TellsList AtEnd access left left' (status.List line why) =
    (mode : Mode) × (access ≡ Some mode)
    × ReadsList AtEnd mode left left' (Err (status.List line why))
TellsList AtEnd access left left' Device = Unit {0}
