-- What a read gives.
use Rattle.std.specs.Prelude.{ℕ, ◌<◌, ◌≤◌, List, length, take, Option}
use Rattle.std.specs.Io.KnownBytes.{Consumes, Keeps, IsAtEnd}
use Rattle.ot_io.specs.Counts.{Rose}
use Rattle.ot_io.specs.declared.source.Piece.{Piece}
use Rattle.ot_io.specs.declared.source.Piece.TheVariants.{Got, End, Failed}

-- n bytes from 1 to the buffer's length were taken from what is left; at the end nothing is left; a
-- failure takes nothing
abbrev pub GivesPiece : Option (List ℕ) → Option (List ℕ) → Piece → List ℕ → Type 0
GivesPiece old new (Got n) buf = (0 < n) × (n ≤ length buf) × Consumes old new (take n buf)
GivesPiece old new End buf = Keeps old new × IsAtEnd new
GivesPiece old new Failed buf = Keeps old new

-- the count of ends doesn't fall, and an end raises it
abbrev pub EndsOnlyCounted : ℕ → ℕ → Piece → Type 0
EndsOnlyCounted old new (Got n) = old ≤ new
EndsOnlyCounted old new End = (old ≤ new) × Rose old new
EndsOnlyCounted old new Failed = old ≤ new

-- the count of faults doesn't fall, and a failure raises it
abbrev pub FailsOnlyCounted : ℕ → ℕ → Piece → Type 0
FailsOnlyCounted old new (Got n) = old ≤ new
FailsOnlyCounted old new End = old ≤ new
FailsOnlyCounted old new Failed = (old ≤ new) × Rose old new
