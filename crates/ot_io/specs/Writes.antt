-- What a write takes.
use Rattle.std.specs.Prelude.{◌≡◌, ℕ, ◌<◌, ◌≤◌, List, length, take, Option}
use Rattle.std.specs.Io.KnownBytes.{Appends, Keeps}
use Rattle.ot_io.specs.Counts.{Rose}
use Rattle.ot_io.specs.declared.sink.Wrote.{Wrote}
use Rattle.ot_io.specs.declared.sink.Wrote.TheVariants.{Took, Failed}

-- the first n bytes, n from 1 to their number, were appended; a failure appends nothing
abbrev pub TakesFront : Option (List ℕ) → Option (List ℕ) → Wrote → List ℕ → Type 0
TakesFront old new (Took n) bytes = (0 < n) × (n ≤ length bytes) × Appends old new (take n bytes)
TakesFront old new Failed bytes = Keeps old new

-- all of the bytes were appended, or after a failure the first n of them and not all
abbrev pub WritesAll : Option (List ℕ) → Option (List ℕ) → Wrote → List ℕ → Type 0
WritesAll old new (Took n) bytes = (n ≡ length bytes) × Appends old new bytes
WritesAll old new Failed bytes = (n : ℕ) × (n < length bytes) × Appends old new (take n bytes)

-- the count of faults doesn't fall, and a failure raises it
abbrev pub WriteFailsOnlyCounted : ℕ → ℕ → Wrote → Type 0
WriteFailsOnlyCounted old new (Took n) = old ≤ new
WriteFailsOnlyCounted old new Failed = (old ≤ new) × Rose old new
