-- Time in minutes.
use Rattle.std.specs.Prelude.{ℕ, ◌/◌, min}
use Rattle.ot_base.specs.declared.minute.Minute.{Minute}

-- the minute that a moment in seconds lies in, at most the last of 32 bits
abbrev pub minute_at : ℕ → Minute
minute_at seconds = record { 0 = min (seconds / 60) 4294967295 }
