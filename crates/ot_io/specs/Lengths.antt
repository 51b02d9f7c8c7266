-- How much objects in memory give and take at once.
use Rattle.std.specs.Prelude.{◌≡◌, ℕ, Bool, List, [], ◌∷◌, ◌+◌, drop, min, max, nat_lt}
use Rattle.ot_io.specs.declared.source.Piece.{Piece}
use Rattle.ot_io.specs.declared.source.Piece.TheVariants.{Got, End, Failed}

-- the length of the next piece into so much room, where 0 counts as 1; after the last length all of
-- it
abbrev pub next_length : List ℕ → ℕ → ℕ
next_length [] room = room
next_length (n ∷ others) room = min (max n 1) room

-- a piece has the next length, or all that is left, and takes the length; else none is taken
abbrev pub TakesLength : List ℕ → List ℕ → ℕ → ℕ → Piece → Type 0
TakesLength lengths lengths' room left (Got n) =
    (n ≡ min (next_length lengths room) left) × (lengths' ≡ drop 1 lengths)
TakesLength lengths lengths' room left End = lengths' ≡ lengths
TakesLength lengths lengths' room left Failed = lengths' ≡ lengths

-- how many of so many bytes are taken at once, where a piece of 0 counts as 1
abbrev pub count_at_once : ℕ → ℕ → ℕ
count_at_once piece count = min count (max piece 1)

-- more bytes pass the room
abbrev pub passes_room : ℕ → ℕ → ℕ → Bool
passes_room room written count = nat_lt room (written + count)
