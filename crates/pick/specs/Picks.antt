-- Picks without repetition.
use Rattle.std.specs.Prelude.{◌≡◌, ℕ, ◌-◌, ◌%◌, ◌<◌, Bool, not, ◌==◌, List, [], ◌∷◌, ◌++◌}
use Rattle.std.specs.Prelude.{All, length, take, fold, nat_eq, slice_index}
use Rattle.std.specs.List.{filter, list_any, range_with_len, IsDistinct}

abbrev pub is_picked : List ℕ → ℕ → Bool
is_picked picked position = list_any (λ p. p == position) picked

-- the positions below n that aren't picked yet, ascending
abbrev pub unpicked : ℕ → List ℕ → List ℕ
unpicked n picked = filter (λ position. not (is_picked picked position)) (range_with_len 0 n)

-- one pick more: of the positions that are left, the one whose number the word gives
abbrev pub with_pick : ℕ → List ℕ → ℕ → List ℕ
with_pick n picked word =
    picked ++ slice_index (unpicked n picked) (word % (n - length picked)) ∷ []

-- the positions below n that the first k words pick
unfoldable pub picks : List ℕ → ℕ → ℕ → List ℕ
picks words n k = fold (with_pick n) [] (take k words)

-- k different positions below n
pub record AreApart (n k : ℕ) (picked : List ℕ) : Type 0 where
  pub count : length picked ≡ k
  pub below : All (λ position. position < n) picked
  pub distinct : IsDistinct nat_eq picked
