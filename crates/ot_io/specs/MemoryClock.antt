-- What is seen of a clock in memory.
use Rattle.std.specs.Prelude.{ℕ}
use Rattle.ot_io.specs.declared.mem_clock.MemClock.{MemClock}

-- what it told last, or what it tells first
abbrev pub clock_told : MemClock → ℕ
clock_told clock = clock.told

-- what it tells next
abbrev pub clock_next : MemClock → ℕ
clock_next clock = clock.next

-- by how much the numbers rise
abbrev pub clock_step : MemClock → ℕ
clock_step clock = clock.step
