-- What a worker did at a listener, connection by connection.
use Rattle.std.specs.Prelude.{◌≡◌, ◌≤◌, ◌⊎◌, ℕ, Bool, List, [], ◌∷◌, Option, map}
use Rattle.access_list.specs.Access.{Listing}
use Rattle.ot_base.specs.declared.minute.Minute.{Minute}
use Rattle.ot_io.specs.Counts.{Rose}
use Rattle.ot_io.specs.Tales.{IsNewConnection, Links, NoLinkWaits, Passes, Tale}
use Rattle.shards.specs.Shape.{PassShape}
use Rattle.serve.specs.Connection.{AreFaultsCounted, ConnectionTerms, Serves}
use Rattle.serve.specs.declared.connection.ConnEnd.{ConnEnd}
use Rattle.serve.specs.declared.connection.ConnEnd.TheVariants as end

-- a connection as a worker accepted it and as the worker gave it back, the minute that it was
-- served in, and how that ended
pub record LinkTurn : Type 0 where
  pub came : Tale
  pub went : Tale
  pub minute : Minute
  pub ended : ConnEnd

module _ (access : Option Listing) (full : Bool) where
  -- what decides over the connection of a turn
  abbrev pub link_terms : LinkTurn → ConnectionTerms
  link_terms turn = record { access = access; full = full; minute = turn.minute }

  -- A new connection was served: its request's calls were made through the pass, and its reply was
  -- written. A whole reply is missing only where its bytes ended without a request, its count of
  -- faults rose, or there was no memory.
  pub record ServesLink (old new : PassShape) (turn : LinkTurn) : Type 0 where
    pub fresh : IsNewConnection turn.came
    pub served : Serves (link_terms turn) old new turn.came turn.went turn.ended
    pub client : turn.went.client ≡ turn.came.client
    pub faults : AreFaultsCounted turn.came.faults turn.went.faults turn.ended
    pub cut : turn.ended ≡ end.Cut → Rose turn.came.ends turn.went.ends

  -- connections were served one after another: the pass as it was and as it is then
  abbrev pub ServesLinks : (old : PassShape) → List LinkTurn → (new : PassShape) → Type 0
  ServesLinks old [] new = new ≡ old
  ServesLinks old (turn ∷ turns) new =
      (middle : PassShape) × ServesLink old middle turn × ServesLinks middle turns new

-- A worker took turns: each connection that it accepted has one, in order, and was given back once
-- it was served, in the same order. Through the pass it made the calls of their requests in this
-- order and no others.
pub record WorkedLinks (access : Option Listing) (full : Bool) (old new : PassShape)
    (links links' : Option Links) (faults faults' : ℕ) : Type 0 where
  pub turns : List LinkTurn
  pub served : ServesLinks access full old turns new
  pub pass : new ≡ record old { seen = new.seen }
  pub passed : Passes links links' (map (λ turn. turn.came) turns) (map (λ turn. turn.went) turns)
  pub counted : faults ≤ faults'

-- A worker may rest: no connection waits at its listener, or the listener's count of faults rose.
abbrev pub RestsAt : Option Links → (faults faults' : ℕ) → Type 0
RestsAt links faults faults' = NoLinkWaits links ⊎ Rose faults faults'
