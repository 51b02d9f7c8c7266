-- What some bytes are as the beginning of a request: a whole head, or why there is none.
use Rattle.std.specs.Prelude.{◌≡◌, ℕ, ◌-◌, ◌≤◌, ◌↔◌, ◌==◌, ◌&&◌, ◌||◌, nat_eq, nat_le, Bool, not, if◌then◌else◌, IsTrue, List, [], ◌∷◌, length, take, drop, slice_index, slice_range, count_by, codes}
use Rattle.std.specs.List.{before_first, list_any, ends_with}
use Rattle.httparse.specs.Grammar.{RequestHead, ReadsRequest, print_request}
use Rattle.http_wire.specs.declared.head.Head.{Head}
use Rattle.http_wire.specs.declared.head.Head.TheVariants.{Whole, More, Bad, Many}

-- how many fields a head has at most
abbrev pub most_fields : ℕ
most_fields = 64

-- more lines than end in a head of so many fields, with its first line and its empty one
abbrev pub too_many_lines : ℕ
too_many_lines = 67

-- no front of the bytes is a head of at most 64 fields
abbrev pub HasNoHead : List ℕ → Type 0
HasNoHead bytes =
    (head : RequestHead) (rest : List ℕ) → ReadsRequest bytes head rest
    → length head.fields ≤ most_fields → ⊥

-- the first `len` bytes are a head of at most 64 fields, and its target stands from `from` up to
-- `to`
pub record IsWhole (bytes : List ℕ) (get : Bool) (from to len : ℕ) : Type 0 where
  pub head : RequestHead
  pub reads : ReadsRequest bytes head (drop len bytes)
  pub few : length head.fields ≤ most_fields
  pub len_is : len ≡ length (print_request head)
  pub target : slice_range bytes from to ≡ head.target
  pub ordered : from ≤ to
  pub inside : to ≤ len
  pub fits : len ≤ length bytes
  pub method : IsTrue get ↔ (head.method ≡ codes "GET")

-- from the first line on that isn't empty: a line ends at 0x0A, and one 0x0D before it isn't
-- counted
abbrev pub after_empty_lines : List ℕ → List ℕ
after_empty_lines [] = []
after_empty_lines (b ∷ []) = if b == 10 then [] else b ∷ []
after_empty_lines (b ∷ c ∷ bytes) =
    if b == 10 then after_empty_lines (c ∷ bytes)
    else if b == 13 then (if c == 10 then after_empty_lines bytes else b ∷ c ∷ bytes)
    else b ∷ c ∷ bytes

-- whether a line ends in the bytes
abbrev pub has_line_end : List ℕ → Bool
has_line_end bytes = list_any (λ b. b == 10) bytes

-- the line without one 0x0D at its end
abbrev pub without_return : List ℕ → List ℕ
without_return line =
    if slice_index line (length line - 1) == 13 then take (length line - 1) line else line

-- the first line, where one ends in the bytes
abbrev pub first_line : List ℕ → List ℕ
first_line bytes = without_return (before_first (λ b. b == 10) bytes)

-- whether a line ends as a request's does
abbrev pub has_version : List ℕ → Bool
has_version line =
    ends_with nat_eq line (codes " HTTP/1.0") || ends_with nat_eq line (codes " HTTP/1.1")

-- whether the first line is whole and no request's
abbrev pub is_bad : List ℕ → Bool
is_bad lines = has_line_end lines && not (has_version (first_line lines))

-- whether more lines end than a head of so many fields has, with its first line and its empty one
abbrev pub is_many : List ℕ → Bool
is_many lines = nat_le too_many_lines (count_by (λ b. b == 10) lines)

-- what stands there where no front of the bytes is a head of at most 64 fields
abbrev pub answer_without_head : List ℕ → Head
answer_without_head bytes =
    let lines = after_empty_lines bytes in
    if is_bad lines then Bad else if is_many lines then Many else More

-- what the bytes are
abbrev pub IsAnswer : List ℕ → Head → Type 0
IsAnswer bytes (Whole get from to len) = IsWhole bytes get from to len
IsAnswer bytes Bad = HasNoHead bytes × (answer_without_head bytes ≡ Bad)
IsAnswer bytes Many = HasNoHead bytes × (answer_without_head bytes ≡ Many)
IsAnswer bytes More = HasNoHead bytes × (answer_without_head bytes ≡ More)
