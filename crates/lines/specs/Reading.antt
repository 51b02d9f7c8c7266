-- What is seen of the lines of an input while they come.
use Rattle.std.specs.Prelude.{◌≡◌, ℕ, ◌+◌, ◌<◌, ◌≤◌, true, false, Bool, List, [], ◌∷◌, ◌++◌, length}
use Rattle.std.specs.Io.KnownBytes.{Consumes, Keeps, IsAtEnd}
use Rattle.lines.specs.Streams.{Stream}
use Rattle.lines.specs.Text.{line_end, line_limit, has_end, IsUnfinished}
use Rattle.lines.specs.declared.line_buffer.Taken.{Taken}
use Rattle.lines.specs.declared.line_buffer.Taken.TheVariants as taken
use Rattle.lines.specs.declared.line_buffer.Filled.{Filled}
use Rattle.lines.specs.declared.line_buffer.Filled.TheVariants as filled

-- how many bytes are read at most, 2^40
abbrev pub read_limit : ℕ
read_limit = 1099511627776

-- the bytes that were read and not yet taken, the line that was taken last, how many lines were
-- taken, and how many bytes were read
pub record Reading : Type 0 where
  pub ahead : List ℕ
  pub line : List ℕ
  pub number : ℕ
  pub count : ℕ

-- nothing was read yet
abbrev pub nothing_read : Reading
nothing_read = record { ahead = []; line = []; number = 0; count = 0 }

-- the next line was taken with its end
pub record TakesLine (old new : Reading) : Type 0 where
  pub cut : old.ahead ≡ new.line ++ line_end ∷ new.ahead
  pub one_line : has_end new.line ≡ false
  pub short : length new.line ≤ line_limit
  pub number : new.number ≡ old.number + 1
  pub count : new.count ≡ old.count

-- the bytes begin with a line that has too many, whether it has ended or not
pub record BeginsTooLong (bytes : List ℕ) : Type 0 where
  pub front : List ℕ
  pub rest : List ℕ
  pub cut : bytes ≡ front ++ rest
  pub one_line : has_end front ≡ false
  pub long : line_limit < length front

-- a line was taken, or nothing changes
abbrev pub Takes : Reading → Reading → Taken → Type 0
Takes old new taken.Line = TakesLine old new
Takes old new taken.TooLong = (new ≡ old) × BeginsTooLong old.ahead
Takes old new taken.More = (new ≡ old) × IsUnfinished old.ahead

-- all that was ahead is the last line
pub record TakesRest (old new : Reading) : Type 0 where
  pub some : 0 < length old.ahead
  pub line : new.line ≡ old.ahead
  pub ahead : new.ahead ≡ []
  pub number : new.number ≡ old.number + 1
  pub count : new.count ≡ old.count

abbrev pub TakesLast : Reading → Reading → Bool → Type 0
TakesLast old new true = TakesRest old new
TakesLast old new false = (new ≡ old) × (old.ahead ≡ [])

-- nothing was read; the line that was taken last is forgotten
abbrev pub forgetful : Reading → Reading
forgetful reading = record reading { line = [] }

-- a piece of what was left was read, and is ahead after what was ahead before
pub record Gets (left left' : Stream) (old new : Reading) : Type 0 where
  pub piece : List ℕ
  pub some : 0 < length piece
  pub taken : Consumes left left' piece
  pub ahead : new.ahead ≡ old.ahead ++ piece
  pub number : new.number ≡ old.number
  pub count : new.count ≡ old.count + length piece

-- a read gave bytes beyond the limit, which are dropped
pub record Overflows (left left' : Stream) (old new : Reading) : Type 0 where
  pub piece : List ℕ
  pub some : 0 < length piece
  pub taken : Consumes left left' piece
  pub full : old.count ≡ read_limit
  pub same : new ≡ forgetful old

abbrev pub Fills : Stream → Stream → Reading → Reading → Filled → Type 0
Fills left left' old new filled.Got = Gets left left' old new × (new.count ≤ read_limit)
Fills left left' old new filled.End = Keeps left left' × IsAtEnd left' × (new ≡ forgetful old)
Fills left left' old new filled.Failed = Keeps left left' × (new ≡ forgetful old)
Fills left left' old new filled.TooMuch = Overflows left left' old new
