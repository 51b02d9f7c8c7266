-- What a drill writes.
use Rattle.std.specs.Prelude.{ℕ, ◌≤◌, List, length, take, Option}
use Rattle.std.specs.Io.KnownBytes.{Appends}
use Rattle.ot_io.specs.Counts.{Rose}
use Rattle.ot_io.specs.declared.status.Status.{Status}
use Rattle.ot_io.specs.declared.status.Status.TheVariants.{Done, Words, NoMemory, ReadFault}
use Rattle.ot_io.specs.declared.status.Status.TheVariants.{WriteFault, Line, TooLong, TooMuch, Device}
use Rattle.ot_io.specs.declared.status.Status.TheVariants as status

-- a front of a text was appended
abbrev pub WritesFront : Option (List ℕ) → Option (List ℕ) → List ℕ → Type 0
WritesFront old new text = (n : ℕ) × (n ≤ length text) × Appends old new (take n text)

-- What was appended to an output by a run that ended so, and its count of faults before and after:
-- the whole text where it is done, and else a front of it. A write fault comes only where the
-- count rose. There is no other end.
abbrev pub Writes : Option (List ℕ) → Option (List ℕ) → ℕ → ℕ → List ℕ → Status → Type 0
Writes old new faults faults' text Done = Appends old new text
Writes old new faults faults' text NoMemory = WritesFront old new text
Writes old new faults faults' text WriteFault = WritesFront old new text × Rose faults faults'
Writes old new faults faults' text (Words at) = ⊥
Writes old new faults faults' text ReadFault = ⊥
Writes old new faults faults' text (Line line fault) = ⊥
Writes old new faults faults' text (TooLong line) = ⊥
Writes old new faults faults' text TooMuch = ⊥
Writes old new faults faults' text (status.List line fault) = ⊥
Writes old new faults faults' text Device = ⊥
