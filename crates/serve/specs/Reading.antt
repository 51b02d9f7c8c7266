-- What is read of a connection.
use Rattle.std.specs.Prelude.{◌≡◌, ℕ, ◌<◌, ◌≤◌, Bool, List, ◌++◌, length, Option, None, Some}
use Rattle.std.specs.Io.KnownBytes.{Consumes, IsAtEnd, Keeps}
use Rattle.access_list.specs.Access.{Listing}
use Rattle.ot_base.specs.declared.address.Endpoint.{Endpoint}
use Rattle.ot_io.specs.declared.source.Piece.{Piece}
use Rattle.ot_io.specs.declared.source.Piece.TheVariants.{Got, End, Failed}
use Rattle.tracker_core.specs.ConnectionPlan.{IsConnectionPlan, head_room}
use Rattle.tracker_core.specs.declared.connection_plan.ConnectionPlan.{ConnectionPlan}

-- what a connection has left, where it is told
abbrev pub Left : Type 0
Left = Option (List ℕ)

-- A piece was read and stands behind what was read before, or nothing was.
abbrev pub AddsPiece : (most : ℕ) → Left → Left → Piece → (read read' : List ℕ) → Type 0
AddsPiece most left left' (Got n) read read' =
    (piece : List ℕ)
    × Consumes left left' piece
    × (read' ≡ read ++ piece)
    × (0 < length piece) × (length piece ≤ most)
AddsPiece most left left' End read read' = Keeps left left' × IsAtEnd left' × (read' ≡ read)
AddsPiece most left left' Failed read read' = Keeps left left' × (read' ≡ read)

-- Some bytes were read, at most 8,192, and this is their plan; or some were read, and then the
-- outside failed.
abbrev pub ReadsPlan : Option Listing → (client : Endpoint) → (full : Bool) → Left → Left
    → Option ConnectionPlan → Type 0
ReadsPlan access client full left left' (Some plan) =
    (read : List ℕ)
    × Consumes left left' read
    × (length read ≤ head_room)
    × IsConnectionPlan read access client full plan
ReadsPlan access client full left left' None = (read : List ℕ) × Consumes left left' read
