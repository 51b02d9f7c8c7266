-- Counters of what the outside did.
use Rattle.std.specs.Prelude.{ℕ, ◌+◌, ◌≤◌, min}

-- where a counter of 64 bits stays
abbrev pub last_count : ℕ
last_count = 18446744073709551615

-- A count rose. At its last value it stays, and then it counts as risen.
abbrev pub Rose : ℕ → ℕ → Type 0
Rose old new = min (old + 1) last_count ≤ new
