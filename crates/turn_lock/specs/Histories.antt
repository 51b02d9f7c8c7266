-- How a history that was seen goes on.
use Rattle.std.specs.Prelude.{◌≡◌, ◌<◌, ℕ, List, ◌++◌}
use Rattle.std.specs.List.{AllByRecursion}
use Rattle.tracker_model.specs.Grows.{OthersBetween}
use Rattle.tracker_model.specs.declared.entry.Entry.{Entry}

-- no entry is of one of these callers
abbrev pub NoneBy : (callers : List ℕ) → List Entry → Type 0
NoneBy callers history = AllByRecursion (λ caller. OthersBetween caller history) callers

-- a history begins with an older one, and goes on with entries of none of these callers
pub record GoesOn (callers : List ℕ) (old new : List Entry) : Type 0 where
  pub others : List Entry
  pub grown : new ≡ old ++ others
  pub apart : NoneBy callers others

-- each entry's caller is below a number
abbrev pub AllBelow : ℕ → List Entry → Type 0
AllBelow n history = AllByRecursion (λ x. x.caller < n) history
