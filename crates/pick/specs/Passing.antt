-- Positions among all, and among all but one.
use Rattle.std.specs.Prelude.{ℕ, ◌+◌, if◌then◌else◌, nat_le}

-- where a position among all but the one at the gap stands among all
abbrev pub past : ℕ → ℕ → ℕ
past gap position = if nat_le gap position then position + 1 else position
