-- What a replay writes: nothing for the lines of its access list, and then the answers of one
-- thread's tracker to the records of a trace.
use Rattle.std.specs.Prelude.{◌≡◌, ◌≢◌, ℕ, ◌^◌, false, List, [], ◌++◌, Option, Some, None, Err}
use Rattle.std.specs.Prelude.{codes, length, replicate}
use Rattle.std.specs.Option.{option_to_list}
use Rattle.ot_base.specs.declared.access.AccessFault.TheVariants as fault
use Rattle.ot_base.specs.declared.access.Mode.{Mode}
use Rattle.ot_base.specs.declared.minute.Minute.{Minute}
use Rattle.ot_io.specs.declared.settings.ReplaySettings.{ReplaySettings}
use Rattle.ot_io.specs.declared.status.LineFault.TheVariants.{Trace}
use Rattle.access_list.specs.Access.{Listing, fault_of, hash_named}
use Rattle.tracker_model.specs.Grows.{GrowsAlone}
use Rattle.tracker_model.specs.Placed.{moves_of}
use Rattle.tracker_model.specs.Settings.{Settings}
use Rattle.tracker_model.specs.declared.answer.Answer.{Answer}
use Rattle.tracker_model.specs.declared.call.Call.{Call}
use Rattle.tracker_model.specs.declared.entry.Entry.{Entry}
use Rattle.trace_text.specs.Trace.{line_of}
use Rattle.offline.specs.Records.{RecordPlan, IsLinePlan, record_placed, output_line}
use Rattle.offline.specs.declared.command.Fault.{Fault}
use Rattle.offline.specs.declared.command.Fault.TheVariants as because

-- the settings of each bucket of a replay's tracker, which has no sync
abbrev pub bucket_settings : ReplaySettings → Settings
bucket_settings s = record { limits = s.limits; sync = false }

-- the histories of its buckets before the first record
abbrev pub no_calls : (bits : ℕ) → List (List Entry)
no_calls bits = replicate (2 ^ bits) []

-- What a line is taken for: while the lines of an access list are read, which is the list so far;
-- and then, by the whole list if there is one, after the history of each bucket.
pub data ReplayState : Type 0 where
  listing : Listing → ReplayState
  answering : Option Listing → List (List Entry) → ReplayState

-- an access list of which no line has been read
abbrev pub empty_list : Mode → Listing
empty_list mode = record { mode = mode; hashes = [] }

-- the state before the first line, where such a list begins the input, or none does
abbrev pub state_before : (bits : ℕ) → Option Mode → ReplayState
state_before bits None = answering None (no_calls bits)
state_before bits (Some mode) = listing (empty_list mode)

abbrev pub first_state : ReplaySettings → ReplayState
first_state s = state_before s.bits s.access

-- the line that ends an access list
abbrev pub list_end : List ℕ
list_end = codes "end"

-- any other line is one of the list, which is longer then by the hash that the line names, if any
pub record ListsLine (list : Listing) (line : List ℕ) (longer : Listing) : Type 0 where
  pub goes_on : line ≢ list_end
  pub accepted : fault_of list.hashes line ≡ None
  pub listed : longer ≡ record list {
    hashes = list.hashes ++ option_to_list (hash_named line);
  }

-- The calls were made at a minute with these answers: in order, by caller 0, which is alone, each
-- in its bucket. The buckets' histories grew by them, and each answer is right where it stands.
pub record MakesCalls
    (g : Settings) (minute : Minute) (placed : List (ℕ × Call))
    (old : List (List Entry)) (answers : List Answer) (new : List (List Entry)) : Type 0 where
  pub one_each : length answers ≡ length placed
  pub grown : GrowsAlone g 0 old (moves_of 0 minute placed answers) new

-- A record is answered after these histories: its plan makes its calls, and the text is the output
-- line of their answers.
pub record AnswersRecord (s : ReplaySettings) (access : Option Listing)
    (old : List (List Entry)) (line text : List ℕ) (new : List (List Entry)) : Type 0 where
  pub minute : Minute
  pub plan : RecordPlan
  pub answers : List Answer
  pub planned : IsLinePlan s access line minute plan
  pub made : MakesCalls (bucket_settings s) minute (record_placed s.bits plan) old answers new
  pub written : output_line plan answers ≡ Some text

-- A line is answered with this text. Lines of the access list and its end are answered with
-- nothing; with the end the tracker begins, which nobody has called.
abbrev pub IsAnswered : ReplaySettings → ReplayState → List ℕ → List ℕ → ReplayState → Type 0
IsAnswered s (listing list) line text (listing longer) = (text ≡ []) × ListsLine list line longer
IsAnswered s (listing list) line text (answering access new) =
    (text ≡ []) × (line ≡ list_end) × (access ≡ Some list) × (new ≡ no_calls s.bits)
IsAnswered s (answering access old) line text (answering access' new) =
    (access' ≡ access) × AnswersRecord s access old line text new
IsAnswered s (answering access old) line text (listing list) = ⊥

-- a line is refused with this fault: as a line of the access list, or of the trace
abbrev pub IsRefused : ReplayState → List ℕ → Fault → Type 0
IsRefused (listing list) line (because.List fault) =
    (line ≢ list_end) × (fault_of list.hashes line ≡ Some fault)
IsRefused (listing list) line (because.Line fault) = ⊥
IsRefused (answering access histories) line (because.List fault) = ⊥
IsRefused (answering access histories) line (because.Line (Trace fault)) = line_of line ≡ Err fault

-- the input may end behind the access list, wherever in the trace
abbrev pub MayEnd : ReplayState → Type 0
MayEnd (listing list) = ⊥
MayEnd (answering access histories) = Unit {0}

-- in the list its end is refused as a line that is none of the list's
abbrev pub IsEndRefused : ReplayState → Fault → Type 0
IsEndRefused (listing list) why = why ≡ because.List fault.Line
IsEndRefused (answering access histories) why = ⊥
