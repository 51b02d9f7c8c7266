-- The lines of a text.
use Rattle.std.specs.Prelude.{◌≡◌, ℕ, ◌≤◌, Bool, false, ◌||◌, ◌==◌, if◌then◌else◌}
use Rattle.std.specs.Prelude.{List, [], ◌∷◌, ◌++◌, length}

-- the byte that ends a line, 0x0A
abbrev pub line_end : ℕ
line_end = 10

-- how many bytes a line has at most, without its end
abbrev pub line_limit : ℕ
line_limit = 262144

-- whether a line ends in these bytes
abbrev pub has_end : List ℕ → Bool
has_end [] = false
has_end (byte ∷ bytes) = byte == line_end || has_end bytes

-- a byte in front of the first line; where no line has ended there is none
abbrev pub onto_first : ℕ → List (List ℕ) → List (List ℕ)
onto_first byte [] = []
onto_first byte (line ∷ lines) = (byte ∷ line) ∷ lines

-- the lines that have ended, without their ends
abbrev pub whole_lines : List ℕ → List (List ℕ)
whole_lines [] = []
whole_lines (byte ∷ bytes) =
    if byte == line_end then [] ∷ whole_lines bytes else onto_first byte (whole_lines bytes)

-- the bytes after the last end of a line
abbrev pub unfinished : List ℕ → List ℕ
unfinished [] = []
unfinished (byte ∷ bytes) = if has_end (byte ∷ bytes) then unfinished bytes else byte ∷ bytes

-- last bytes without an end are a line where there is at least one
abbrev pub last_line : List ℕ → List (List ℕ)
last_line [] = []
last_line (byte ∷ bytes) = (byte ∷ bytes) ∷ []

-- all lines of a text that has come to its end
abbrev pub all_lines : List ℕ → List (List ℕ)
all_lines bytes = whole_lines bytes ++ last_line (unfinished bytes)

-- no line has ended, and what has come may still be a line
abbrev pub IsUnfinished : List ℕ → Type 0
IsUnfinished bytes = (has_end bytes ≡ false) × (length bytes ≤ line_limit)
