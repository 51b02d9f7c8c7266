-- The buffer of the bytes that were read: what holds of its places.
use Rattle.std.specs.Prelude.{◌≡◌, ℕ, ◌+◌, ◌<◌, ◌≤◌, false, List, ◌++◌, length, take, slice_range}
use Rattle.std.specs.Io.KnownBytes.{Consumes, Keeps, IsAtEnd}
use Rattle.ot_io.specs.declared.source.Piece.{Piece}
use Rattle.ot_io.specs.declared.source.Piece.TheVariants.{Got, End, Failed}
use Rattle.lines.specs.Streams.{Stream}
use Rattle.lines.specs.Text.{has_end}
use Rattle.lines.specs.Reading.{Reading, read_limit}
use Rattle.lines.specs.declared.line_buffer.Lines.TheInside.{Inside}

-- how many bytes the buffer has: a line and a piece
abbrev pub buffer_len : ℕ
buffer_len = 327680

abbrev pub reading_of : Inside → Reading
reading_of lines = record {
  ahead = slice_range lines.buffer.items lines.start lines.end;
  line = slice_range lines.buffer.items lines.line_start lines.line_end;
  number = lines.number;
  count = lines.count;
}

-- what always holds of the buffer's places and counts
pub record IsInOrder (lines : Inside) : Type 0 where
  pub size : length lines.buffer.items ≡ buffer_len
  pub start_first : lines.start ≤ lines.searched
  pub searched_first : lines.searched ≤ lines.end
  pub in_buffer : lines.end ≤ buffer_len
  pub line_order : lines.line_start ≤ lines.line_end
  pub line_in_buffer : lines.line_end ≤ buffer_len
  pub no_end : has_end (slice_range lines.buffer.items lines.start lines.searched) ≡ false
  pub few_lines : lines.number + lines.end ≤ lines.count + lines.start
  pub few_bytes : lines.count ≤ read_limit

-- The bytes ahead stand at the front of the buffer, up to `at`. Where a read gave a piece, that
-- stands behind them.
abbrev pub ReadsBehind : Stream → Stream → List ℕ → ℕ → List ℕ → ℕ → Piece → Type 0
ReadsBehind left left' ahead at buffer room (Got n) =
    (piece : List ℕ) × (length piece ≡ n) × (0 < n) × (n ≤ room) × Consumes left left' piece
    × (take at buffer ≡ ahead) × (take (at + n) buffer ≡ ahead ++ piece)
ReadsBehind left left' ahead at buffer room End =
    Keeps left left' × IsAtEnd left' × (take at buffer ≡ ahead)
ReadsBehind left left' ahead at buffer room Failed = Keeps left left' × (take at buffer ≡ ahead)
