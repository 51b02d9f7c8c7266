-- Answers on their way to a sink: some were written, and the last of them wait.
use Rattle.std.specs.Prelude.{◌≡◌, ℕ, List, ◌++◌}
use Rattle.std.specs.Io.KnownBytes.{Appends}
use Rattle.lines.specs.Streams.{Stream}

-- how many bytes wait at most
abbrev pub replies_len : ℕ
replies_len = 65536

-- A text was added. What was written and what waits are, together, what waited and then the text.
pub record Adds (held held' : Stream) (waiting waiting' text : List ℕ) : Type 0 where
  pub sent : List ℕ
  pub gone : Appends held held' sent
  pub kept : waiting ++ text ≡ sent ++ waiting'

-- a front of these bytes was written, and the rest is lost
pub record Loses (held held' : Stream) (bytes : List ℕ) : Type 0 where
  pub sent : List ℕ
  pub lost : List ℕ
  pub gone : Appends held held' sent
  pub front : bytes ≡ sent ++ lost
