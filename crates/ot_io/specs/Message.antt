-- What is told of how a run ended.
use Rattle.std.specs.Prelude.{ℕ, ◌≤◌, ◌<◌, List, [], ◌∷◌, ◌++◌, length, take, Option}
use Rattle.std.specs.Prelude.{codes, decimal}
use Rattle.std.specs.Io.KnownBytes.{Appends}
use Rattle.ot_base.specs.Fault.{access_fault_word, trace_fault_word}
use Rattle.ot_io.specs.Counts.{Rose}
use Rattle.ot_io.specs.declared.status.LineFault.{LineFault}
use Rattle.ot_io.specs.declared.status.LineFault.TheVariants.{Trace}
use Rattle.ot_io.specs.declared.status.Status.{Status}
use Rattle.ot_io.specs.declared.status.Status.TheVariants.{Done, Words, NoMemory, ReadFault}
use Rattle.ot_io.specs.declared.status.Status.TheVariants.{WriteFault, Line, TooLong, TooMuch, Device}
use Rattle.ot_io.specs.declared.status.Status.TheVariants as status

-- the program's name, then what happened, then 0x0A
abbrev pub message : List ℕ → List ℕ
message what = codes "opentracker: " ++ what ++ 10 ∷ []

-- what is told of a line of the input
abbrev pub line_message : ℕ → List ℕ → List ℕ
line_message number what = message (codes "line " ++ decimal number ++ codes ": " ++ what)

abbrev pub fault_word : LineFault → List ℕ
fault_word (Trace fault) = trace_fault_word fault

-- one line for each status, and none for a run that is done
abbrev pub status_text : Status → List ℕ
status_text Done = []
status_text (Words at) = message (codes "word " ++ decimal at ++ codes " refused")
status_text NoMemory = message (codes "no memory")
status_text ReadFault = message (codes "read fault")
status_text WriteFault = message (codes "write fault")
status_text (Line line fault) = line_message line (fault_word fault)
status_text (TooLong line) = line_message line (codes "too long")
status_text TooMuch = message (codes "too much input")
status_text (status.List line fault) = line_message line (access_fault_word fault)
status_text Device = message (codes "device fault")

-- a text was written, or only a front of it, and then the count of faults rose
abbrev pub TellsLine : Option (List ℕ) → Option (List ℕ) → ℕ → ℕ → List ℕ → Type 0
TellsLine old new faults faults' text =
    (n : ℕ) × (n ≤ length text) × Appends old new (take n text)
    × (n < length text → Rose faults faults')
