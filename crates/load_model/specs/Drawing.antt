-- How requests are drawn, phase by phase.
use Rattle.std.specs.Prelude.{◌≡◌, ◌≢◌, ◌<◌, ◌≤◌, ℕ, List, [], ◌∷◌, ◌++◌, length, map}
use Rattle.std.specs.List.{AllByRecursion}
use Rattle.load_model.specs.Load.{requests}
use Rattle.load_model.specs.declared.request.Request.{Request}
use Rattle.load_model.specs.declared.settings.DrillSettings.{DrillSettings}

-- there is no next request, or it is one of another phase
abbrev pub IsNotNext : ℕ → List (ℕ × Request) → Type 0
IsNotNext phase [] = Unit {0}
IsNotNext phase (x ∷ rest) = x.0 ≢ phase

-- requests of one phase
abbrev pub of_phase : ℕ → List Request → List (ℕ × Request)
of_phase phase rs = map (λ r. (phase, r)) rs

-- none is of an earlier phase
abbrev pub AllFrom : ℕ → List (ℕ × Request) → Type 0
AllFrom phase xs = AllByRecursion (λ x. phase ≤ x.0) xs

-- all are of earlier phases
abbrev pub AllBefore : ℕ → List (ℕ × Request) → Type 0
AllBefore phase xs = AllByRecursion (λ x. x.0 < phase) xs

-- the requests that are left before a phase, when so many were drawn
pub record IsLeft (s : DrillSettings) (phase drew : ℕ) (left : List (ℕ × Request)) : Type 0 where
  pub front : List (ℕ × Request)
  pub many : length front ≡ drew
  pub cut : requests s ≡ front ++ left
  pub before : AllBefore phase front
  pub from : AllFrom phase left
