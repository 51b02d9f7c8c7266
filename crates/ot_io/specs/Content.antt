-- What an object of the outside holds besides the stream at hand.
use Rattle.std.specs.Prelude.{ℕ, List, Option, None, Some}
use Rattle.ot_base.specs.declared.address.Endpoint.{Endpoint}

-- what a call leaves alone: the other stream of a connection with its count of ends, and who is at
-- its other end; its faults are counted together, whichever stream they came to
pub record Aside : Type 0 where
  pub stream : Option (List ℕ)
  pub ends : ℕ
  pub peer : Option Endpoint

-- of an object that is nothing else
abbrev pub nothing_aside : {X : Type 0} → X → Aside
nothing_aside x = record { stream = None; ends = 0; peer = None }

-- what a read of a connection leaves alone: what was written to this client
abbrev pub written_aside : Option (List ℕ) → Endpoint → Aside
written_aside written client = record { stream = written; ends = 0; peer = Some client }

-- what a write to a connection leaves alone: what is left of this client's bytes, and how often
-- they ended
abbrev pub left_aside : Option (List ℕ) → ℕ → Endpoint → Aside
left_aside left ends client = record { stream = left; ends = ends; peer = Some client }
