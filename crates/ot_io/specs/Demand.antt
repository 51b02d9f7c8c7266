-- Faults on demand.
use Rattle.std.specs.Prelude.{ℕ, Bool, List, ◌==◌}
use Rattle.std.specs.List.{list_any}

-- the call of this number is one of those that are to fail
abbrev pub is_demanded : List ℕ → ℕ → Bool
is_demanded demanded number = list_any (λ k. k == number) demanded
