-- The commands that read an input to its end, and how they end.
use Rattle.std.specs.Prelude.{◌≡◌, ℕ, ◌≤◌, ◌⊎◌, List, [], ◌∷◌, ◌++◌, Option, Some, None}
use Rattle.std.specs.Prelude.{IsOk, length}
use Rattle.std.specs.Io.KnownBytes.{IsAtEnd}
use Rattle.std.specs.List.{AllByRecursion}
use Rattle.lines.specs.Reading.{read_limit}
use Rattle.lines.specs.Run.{RunsLines}
use Rattle.lines.specs.Text.{all_lines, line_limit}
use Rattle.lines.specs.declared.run.Ending.{Ending}
use Rattle.lines.specs.declared.run.Ending.TheVariants as ending
use Rattle.ot_base.specs.declared.access.Mode.{Mode}
use Rattle.ot_io.specs.Counts.{Rose}
use Rattle.ot_io.specs.declared.settings.ReplaySettings.{ReplaySettings}
use Rattle.ot_io.specs.declared.status.Status.{Status}
use Rattle.ot_io.specs.declared.status.Status.TheVariants as ended
use Rattle.access_list.specs.Access.{AreAccessLines}
use Rattle.tracker_model.specs.Settings.{AreLimits}
use Rattle.trace_text.specs.Trace.{line_of}
use Rattle.offline.specs.Replay.{ReplayState, IsAnswered, IsEndRefused, IsRefused, MayEnd}
use Rattle.offline.specs.Replay.{first_state, list_end}
use Rattle.offline.specs.declared.command.Fault.{Fault}
use Rattle.offline.specs.declared.command.Fault.TheVariants as because
use Rattle.offline.specs.declared.command.Offline.{Offline}
use Rattle.offline.specs.declared.command.Offline.TheVariants.{Replay}

abbrev pub settings_of : Offline → ReplaySettings
settings_of (Replay settings) = settings

-- settings that a replay may have
pub record IsOffered (settings : ReplaySettings) : Type 0 where
  pub bits : settings.bits ≤ 10
  pub limits : AreLimits settings.limits

-- the status of a run that ended so
abbrev pub status_of : Ending Fault → Status
status_of ending.Done = ended.Done
status_of (ending.Refused line (because.List fault)) = ended.List line fault
status_of (ending.Refused line (because.Line fault)) = ended.Line line fault
status_of (ending.TooLong line) = ended.TooLong line
status_of ending.TooMuch = ended.TooMuch
status_of ending.ReadFault = ended.ReadFault
status_of ending.WriteFault = ended.WriteFault
status_of ending.NoMemory = ended.NoMemory

abbrev pub IsShort : List ℕ → Type 0
IsShort line = length line ≤ line_limit

-- a line that is a record of the trace, whatever comes of it
abbrev pub IsRecord : List ℕ → Type 0
IsRecord line = IsShort line × IsOk (line_of line)

-- lines that are a whole access list and its end, and then records
pub record AreListAndTrace (lines : List (List ℕ)) : Type 0 where
  pub list : List (List ℕ)
  pub trace : List (List ℕ)
  pub cut : lines ≡ list ++ list_end ∷ trace
  pub listed : AreAccessLines list
  pub short : AllByRecursion IsShort list
  pub recorded : AllByRecursion IsRecord trace

-- lines none of which is refused: the whole access list, where there is to be one, and the trace
abbrev pub AreInput : Option Mode → List (List ℕ) → Type 0
AreInput None lines = AllByRecursion IsRecord lines
AreInput (Some mode) lines = AreListAndTrace lines

-- What is seen of the outside of a run: of the input the bytes that are left, where it tells them,
-- and its counts of ends and faults; of the output what was written, where it tells it, and its
-- faults.
module _ {S O : Type 0} (left : S → Option (List ℕ)) (ends reads : S → ℕ)
    (written : O → Option (List ℕ)) (writes : O → ℕ) where
  -- Which count rose where a run ended so: the input's count of ends or of faults, or the output's
  -- of faults.
  pub record IsCaused (input input' : S) (out out' : O) (status : Status) : Type 0 where
    pub done : status ≡ ended.Done → Rose (ends input) (ends input')
    pub read_fault : status ≡ ended.ReadFault → Rose (reads input) (reads input')
    pub write_fault : status ≡ ended.WriteFault → Rose (writes out) (writes out')
    pub no_words : (at : ℕ) → status ≡ ended.Words at → ⊥
    pub no_device : status ≡ ended.Device → ⊥

  -- The lines of the input were answered one after another, however the source cut them, beginning
  -- with the access list, if there is to be one, and empty histories of one thread's tracker: what
  -- was written is their answers' text, as far as the status says.
  pub record Replays (settings : ReplaySettings) (input input' : S) (out out' : O)
      (status : Status) : Type 0 where
    pub end : Ending Fault
    pub status_is : status ≡ status_of end
    pub state : ReplayState
    pub run :
        RunsLines (Rose (ends input) (ends input') × IsAtEnd (left input'))
        (IsAnswered settings) IsRefused MayEnd IsEndRefused
        (left input) (left input') (written out) (written out') (first_state settings) state end

  -- An input that tells its bytes, none of whose lines is refused, and fewer than 2^40 bytes, is
  -- answered to its end, but for want of memory, where neither input nor output fails.
  abbrev pub IsComplete : ReplaySettings → S → S → O → O → Status → Type 0
  IsComplete settings input input' out out' status =
      (bytes : List ℕ) → left input ≡ Some bytes → length bytes ≤ read_limit
      → AreInput settings.access (all_lines bytes)
      → (Rose (reads input) (reads input') → ⊥) → (Rose (writes out) (writes out') → ⊥)
      → (status ≡ ended.Done) ⊎ (status ≡ ended.NoMemory)

  -- all that is promised of a replay
  pub record ReplayRun (settings : ReplaySettings) (input input' : S) (out out' : O)
      (status : Status) : Type 0 where
    pub replays : Replays settings input input' out out' status
    pub caused : IsCaused input input' out out' status
    pub complete : IsComplete settings input input' out out' status
