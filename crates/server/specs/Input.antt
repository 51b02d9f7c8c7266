-- How a server's input ends.
use Rattle.std.specs.Prelude.{ℕ}
use Rattle.ot_io.specs.Counts.{Rose}
use Rattle.server.specs.declared.input.InputEnd.{InputEnd}
use Rattle.server.specs.declared.input.InputEnd.TheVariants.{Ended, Failed}

-- the count of ends rose where the input ended, and that of faults where it failed
abbrev pub IsInputCaused : (ends ends' faults faults' : ℕ) → InputEnd → Type 0
IsInputCaused ends ends' faults faults' Ended = Rose ends ends'
IsInputCaused ends ends' faults faults' Failed = Rose faults faults'
