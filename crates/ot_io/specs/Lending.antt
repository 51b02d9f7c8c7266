-- What an outside makes and takes back.
use Rattle.std.specs.Prelude.{◌≡◌, ℕ, ◌+◌, ◌≤◌, List, ◌++◌, length, Option, None, Some, vec_len}
use Rattle.std.specs.List.{All}
use Rattle.std.specs.Global.{Vec}
use Rattle.ot_io.specs.Counts.{Rose}
use Rattle.ot_io.specs.declared.outside.Made.{Made}
use Rattle.ot_io.specs.declared.outside.Made.TheVariants.{Got, Failed, NoMemory}

-- how many objects of a kind were made, and what is told of those that came back, in order
pub record Lent (T : Type 0) : Type 0 where
  pub made : ℕ
  pub back : List T

-- So many were made, and these came back. What isn't told stays untold.
abbrev pub Lends : {T : Type 0} → Option (Lent T) → Option (Lent T) → ℕ → List T → Type 0
Lends None None count tales = Unit
Lends None (Some new) count tales = ⊥
Lends (Some old) None count tales = ⊥
Lends (Some old) (Some new) count tales =
    (new.made ≡ old.made + count) × (new.back ≡ old.back ++ tales)

-- at least so many of those that were made didn't come back yet, where it is told
abbrev pub AreOut : {T : Type 0} → Option (Lent T) → ℕ → Type 0
AreOut None count = Unit
AreOut (Some lent) count = length lent.back + count ≤ lent.made

-- as many came back as were made, where it is told
abbrev pub AreBack : {T : Type 0} → Option (Lent T) → Type 0
AreBack None = Unit
AreBack (Some lent) = lent.made ≤ length lent.back

-- so many objects were made, each new, or none was
abbrev pub Makes : {T : Type 0} → (T → Type 0) → ℕ → Made (Vec T) → Type 0
Makes IsNew count (Got made) = (vec_len made ≡ count) × All IsNew made.items
Makes IsNew count Failed = Unit
Makes IsNew count NoMemory = Unit

-- how many were made of those that were asked for
abbrev pub count_made : {T : Type 0} → ℕ → Made T → ℕ
count_made count (Got made) = count
count_made count Failed = 0
count_made count NoMemory = 0

-- the count of faults doesn't fall, and a failure raises it
abbrev pub MakerFailsOnlyCounted : {T : Type 0} → ℕ → ℕ → Made T → Type 0
MakerFailsOnlyCounted old new (Got made) = old ≤ new
MakerFailsOnlyCounted old new Failed = (old ≤ new) × Rose old new
MakerFailsOnlyCounted old new NoMemory = old ≤ new
