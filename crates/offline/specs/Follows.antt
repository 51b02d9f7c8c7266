-- How a replay goes from line to line, as its shelf stands.
use Rattle.std.specs.Prelude.{◌≡◌, ◌≢◌, ℕ, List, [], Option, Some, None, Result, Ok, Err}
use Rattle.ot_base.specs.declared.access.AccessFault.TheVariants as fault
use Rattle.ot_base.specs.declared.access.Mode.{Mode}
use Rattle.ot_base.specs.declared.hash.InfoHash.{InfoHash}
use Rattle.ot_base.specs.declared.minute.Minute.{Minute}
use Rattle.ot_io.specs.declared.settings.ReplaySettings.{ReplaySettings}
use Rattle.ot_io.specs.declared.status.LineFault.TheVariants.{Trace}
use Rattle.access_list.specs.Access.{Listing, admits_hash, fault_of}
use Rattle.lines.specs.declared.responder.Trouble.{Trouble}
use Rattle.lines.specs.declared.responder.Trouble.TheVariants as trouble
use Rattle.bucket.specs.Shelf.{MadeOnShelf, ShelfShape}
use Rattle.tracker_model.specs.Making.{Makes}
use Rattle.tracker_model.specs.declared.answer.Answer.{Answer}
use Rattle.trace_text.specs.Trace.{line_of}
use Rattle.offline.specs.Records.{RecordPlan, IsLinePlan, record_placed, output_line}
use Rattle.offline.specs.Replay.{ListsLine, bucket_settings, empty_list, list_end}
use Rattle.offline.specs.declared.command.Fault.{Fault}
use Rattle.offline.specs.declared.command.Fault.TheVariants as because
use Rattle.offline.specs.declared.phase.Phase.{Phase}
use Rattle.offline.specs.declared.phase.Phase.TheVariants as phase

-- what is seen of a replay: its settings, what the next line is taken for, and its tracker
pub record Situation : Type 0 where
  pub settings : ReplaySettings
  pub phase : Phase
  pub shelf : ShelfShape

-- a shelf has the settings of a replay
pub record IsShelfOf (s : ReplaySettings) (shelf : ShelfShape) : Type 0 where
  pub bits : shelf.bits ≡ s.bits
  pub settings : shelf.settings ≡ bucket_settings s

-- two access lists admit the same torrents
abbrev pub AdmitAlike : (a b : Option Listing) → Type 0
AdmitAlike a b = (hash : InfoHash) → admits_hash a hash ≡ admits_hash b hash

-- A record is answered at a shelf: its plan makes its calls there, and the text is the output line
-- of their answers.
pub record AnswersAt (s : ReplaySettings) (access : Option Listing) (old : ShelfShape)
    (line text : List ℕ) (new : ShelfShape) : Type 0 where
  pub minute : Minute
  pub plan : RecordPlan
  pub answers : List Answer
  pub planned : IsLinePlan s access line minute plan
  pub made : Makes MadeOnShelf minute old (record_placed s.bits plan) answers new
  pub written : output_line plan answers ≡ Some text
  pub stays : IsShelfOf s new

-- The line is answered. At the end of the access list the whole list admits what the lines say.
abbrev pub FollowsIn : ReplaySettings → Phase → ShelfShape → List ℕ → List ℕ → Phase
    → ShelfShape → Type 0
FollowsIn s (phase.Listing list) old line text (phase.Listing longer) new =
    (text ≡ []) × ListsLine list line longer × (new ≡ old)
FollowsIn s (phase.Listing list) old line text (phase.Answering access) new =
    (text ≡ []) × (line ≡ list_end) × AdmitAlike access (Some list) × (new ≡ old)
FollowsIn s (phase.Answering access) old line text (phase.Answering access') new =
    (access' ≡ access) × AnswersAt s access old line text new
FollowsIn s (phase.Answering access) old line text (phase.Listing list) new = ⊥

abbrev pub Follows : Situation → List ℕ → List ℕ → Situation → Type 0
Follows old line text new =
    (new.settings ≡ old.settings)
    × FollowsIn old.settings old.phase old.shelf line text new.phase new.shelf

-- a line that is no record is refused, whatever the tracker
abbrev pub RefusesRecord : ShelfShape → List ℕ → Fault → Type 0
RefusesRecord shelf line (because.List fault) = ⊥
RefusesRecord shelf line (because.Line (Trace fault)) = line_of line ≡ Err fault

-- the line is refused with this fault
abbrev pub RefusesIn : Phase → List ℕ → Fault → Type 0
RefusesIn (phase.Listing list) line (because.List fault) =
    (line ≢ list_end) × (fault_of list.hashes line ≡ Some fault)
RefusesIn (phase.Listing list) line (because.Line fault) = ⊥
RefusesIn (phase.Answering access) line (because.List fault) = ⊥
RefusesIn (phase.Answering access) line (because.Line (Trace fault)) = line_of line ≡ Err fault

abbrev pub RefusesLine : Situation → List ℕ → Fault → Type 0
RefusesLine old line why = RefusesIn old.phase line why

-- an access list was ended: the whole list admits what the lines say
abbrev pub EndsList : Phase → Phase → Type 0
EndsList (phase.Listing list) (phase.Answering access) = AdmitAlike access (Some list)
EndsList (phase.Listing list) (phase.Listing longer) = ⊥
EndsList (phase.Answering access) new = ⊥

-- a line was taken for one of the access list or its end, or it is refused
abbrev pub TakesListLine : Phase → List ℕ → Phase → Result (Unit {0}) (Trouble Fault) → Type 0
TakesListLine (phase.Listing list) line (phase.Listing longer) (Ok u) = ListsLine list line longer
TakesListLine (phase.Listing list) line (phase.Answering access) (Ok u) =
    (line ≡ list_end) × AdmitAlike access (Some list)
TakesListLine (phase.Answering access) line new (Ok u) = ⊥
TakesListLine old line new (Err (trouble.Refused why)) = RefusesIn old line why
TakesListLine old line new (Err trouble.NoMemory) = Unit {0}
TakesListLine old line new (Err trouble.WriteFault) = ⊥

-- what the first line is taken for
abbrev pub phase_before : Option Mode → Phase
phase_before None = phase.Answering None
phase_before (Some mode) = phase.Listing (empty_list mode)

abbrev pub MayEndIn : Phase → Type 0
MayEndIn (phase.Listing list) = ⊥
MayEndIn (phase.Answering access) = Unit {0}

abbrev pub EndRefusedIn : Phase → Fault → Type 0
EndRefusedIn (phase.Listing list) why = why ≡ because.List fault.Line
EndRefusedIn (phase.Answering access) why = ⊥

abbrev pub MayEndAt : Situation → Type 0
MayEndAt situation = MayEndIn situation.phase

abbrev pub EndRefusedAt : Situation → Fault → Type 0
EndRefusedAt situation why = EndRefusedIn situation.phase why
