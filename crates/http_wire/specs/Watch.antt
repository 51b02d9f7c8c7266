-- Whether the first line that isn't empty has begun.
use Rattle.std.specs.Prelude.{ℕ, ◌==◌, if◌then◌else◌, Bool, false, List, fold}
use Rattle.http_wire.specs.declared.watch.Watch.{Watch}
use Rattle.http_wire.specs.declared.watch.Watch.TheVariants.{Empty, Return, Begun}

-- after one more byte
abbrev pub watch_after : Watch → ℕ → Watch
watch_after Empty b = if b == 10 then Empty else if b == 13 then Return else Begun
watch_after Return b = if b == 10 then Empty else Begun
watch_after Begun b = Begun

-- after these bytes
abbrev pub watch_of : List ℕ → Watch
watch_of bytes = fold watch_after Empty bytes

-- whether this byte was the end of a line, after which the first one has begun
abbrev pub ends_line : Watch → ℕ → Bool
ends_line Empty b = false
ends_line Return b = false
ends_line Begun b = b == 10
