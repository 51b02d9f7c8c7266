-- Sources and sinks, before some calls and after them.
use Rattle.std.specs.Prelude.{◌≡◌, ℕ, ◌≤◌, List, Option}
use Rattle.ot_io.specs.Content.{Aside}

-- the bytes of a stream, where they are known
abbrev pub Stream : Type 0
Stream = Option (List ℕ)

-- a source after some reads: its counts of faults and of ends don't fall, and what is aside stays
pub record IsLaterSource {S : Type 0} (faults ends : S → ℕ) (aside : S → Aside)
    (old new : S) : Type 0 where
  pub counted : faults old ≤ faults new
  pub ended : ends old ≤ ends new
  pub stays : aside new ≡ aside old

-- a sink after some writes: its count of faults doesn't fall, and what is aside stays
pub record IsLaterSink {O : Type 0} (faults : O → ℕ) (aside : O → Aside)
    (old new : O) : Type 0 where
  pub counted : faults old ≤ faults new
  pub stays : aside new ≡ aside old
