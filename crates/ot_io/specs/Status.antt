-- The number that a process ends with.
use Rattle.std.specs.Prelude.{ℕ}
use Rattle.ot_io.specs.declared.status.Status.{Status}
use Rattle.ot_io.specs.declared.status.Status.TheVariants.{Done, Words, NoMemory, ReadFault}
use Rattle.ot_io.specs.declared.status.Status.TheVariants.{WriteFault, Line, TooLong, TooMuch, List}
use Rattle.ot_io.specs.declared.status.Status.TheVariants.{Device}

abbrev pub code_of : Status → ℕ
code_of Done = 0
code_of (Words at) = 2
code_of NoMemory = 3
code_of ReadFault = 4
code_of WriteFault = 5
code_of (Line line fault) = 6
code_of (TooLong line) = 7
code_of TooMuch = 8
code_of (List line fault) = 9
code_of Device = 10
