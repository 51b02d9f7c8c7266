-- A ring of items by age, as contracts see it.
use Rattle.std.specs.Prelude.{◌≡◌, ℕ, ◌+◌, ◌<◌, ◌≤◌, List, ◌++◌, length, map, All}
use Rattle.std.specs.List.Sorted.{IsPermutation}

pub record Ring (T : Type 0) : Type 0 where
  -- each item with its stamp, in the dense order
  pub pairs : List (T × ℕ)
  pub time : ℕ
  pub ages : ℕ
  -- how many more items fit into the memory that it holds
  pub spare : ℕ

abbrev pub items_of : {T : Type 0} → List (T × ℕ) → List T
items_of pairs = map (λ pair. pair.0) pairs

abbrev pub stamps_of : {T : Type 0} → List (T × ℕ) → List ℕ
stamps_of pairs = map (λ pair. pair.1) pairs

-- at a time, an item's stamp is as many ages below it or more
abbrev pub IsDue : {T : Type 0} → ℕ → ℕ → T × ℕ → Type 0
IsDue ages time pair = pair.1 + ages ≤ time

abbrev pub IsYoung : {T : Type 0} → ℕ → ℕ → T × ℕ → Type 0
IsYoung ages time pair = time < pair.1 + ages

-- so many items were dropped, and each of them was due
pub record Drops {T : Type 0} (ages time : ℕ) (old new : List (T × ℕ)) (count : ℕ) : Type 0 where
  pub gone : List (T × ℕ)
  pub moves : IsPermutation old (gone ++ new)
  pub due : All (IsDue ages time) gone
  pub counts : count ≡ length gone
  pub still : count ≡ 0 → new ≡ old
