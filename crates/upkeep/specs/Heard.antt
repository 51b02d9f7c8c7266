-- What a node heard of the others, datagram by datagram.
use Rattle.std.specs.Prelude.{◌≡◌, ℕ, ◌≤◌, Bool, true, false, List, [], map, Option}
use Rattle.std.specs.List.{AllByRecursion, flat_map}
use Rattle.ot_base.specs.declared.address.Endpoint.{Endpoint}
use Rattle.ot_base.specs.declared.minute.Minute.{Minute}
use Rattle.ot_io.specs.Traffic.{Datagram, Moves, Traffic}
use Rattle.shards.specs.Shape.{PassShape}
use Rattle.tracker_model.specs.Grows.{GrowsAmong, Move}
use Rattle.tracker_model.specs.Placed.{moves_of}
use Rattle.tracker_model.specs.declared.answer.Answer.{Answer}
use Rattle.upkeep.specs.Hearing.{TellsOf, sync_placed}
use Rattle.upkeep.specs.declared.sync_in.SyncIn.{SyncIn}
use Rattle.upkeep.specs.declared.sync_in.SyncIn.TheVariants.{Idle, RecvFault, Stranger, Refused}
use Rattle.upkeep.specs.declared.sync_in.SyncIn.TheVariants.{Applied, NoMemory}

-- a datagram that was received, the minute that it was heard in, the answers to the calls that it
-- asks for, and what was told of it
pub record Turn : Type 0 where
  pub came : Datagram
  pub minute : Minute
  pub answers : List Answer
  pub told : SyncIn

-- the calls of a turn, each with its answer, by this pass's number
abbrev pub moves_in : (own : ℕ) → PassShape → Turn → List Move
moves_in own pass turn =
    moves_of pass.caller turn.minute (sync_placed pass.shards.bits own turn.came) turn.answers

-- a datagram was received
abbrev pub is_received : SyncIn → Bool
is_received Idle = false
is_received RecvFault = false
is_received (Stranger from) = true
is_received (Refused fault) = true
is_received (Applied calls full) = true
is_received (NoMemory calls) = true

-- Each datagram that was received has a turn, in order. Through the pass the calls that they ask
-- for were made in this order, and no others; nothing was sent.
pub record Heard (own : ℕ) (nodes : List Endpoint) (old new : PassShape)
    (wire wire' : Option Traffic) (faults faults' : ℕ) : Type 0 where
  pub turns : List Turn
  pub each : AllByRecursion (λ turn. TellsOf own nodes turn.came turn.answers turn.told) turns
  pub grown : GrowsAmong old.shards.settings old.caller old.seen
      (flat_map (moves_in own old) turns) new.seen
  pub pass : new ≡ record old { seen = new.seen }
  pub moved : Moves wire wire' (map (λ turn. turn.came) turns) []
  pub counted : faults ≤ faults'
