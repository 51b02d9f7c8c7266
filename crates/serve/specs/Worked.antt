-- What a worker did at a wire, datagram by datagram.
use Rattle.std.specs.Prelude.{◌≡◌, ◌≤◌, ◌+◌, ◌⊎◌, ℕ, Bool, true, false, List, [], ◌∷◌, Option, length, map, min}
use Rattle.std.specs.List.{AllByRecursion, flat_map, sum_by}
use Rattle.access_list.specs.Access.{Listing}
use Rattle.ot_base.specs.Address.{family_of}
use Rattle.ot_base.specs.declared.address.Family.TheVariants.{Six}
use Rattle.ot_base.specs.declared.hash.Secret.{Secret}
use Rattle.ot_base.specs.declared.minute.Minute.{Minute}
use Rattle.ot_io.specs.Counts.{Rose, last_count}
use Rattle.ot_io.specs.Traffic.{Datagram, Moves, NoneWaits, Traffic, datagram}
use Rattle.request_handler.specs.Datagram.{udp_placed}
use Rattle.shards.specs.Shape.{PassShape}
use Rattle.tracker_core.specs.UdpPlan.{calls_of}
use Rattle.tracker_core.specs.declared.udp_plan.UdpPlan.{UdpPlan}
use Rattle.tracker_core.specs.declared.udp_plan.UdpPlan.TheVariants as planned
use Rattle.tracker_model.specs.Grows.{GrowsAmong, Move}
use Rattle.tracker_model.specs.Placed.{moves_of}
use Rattle.tracker_model.specs.declared.answer.Answer.{Answer}
use Rattle.tracker_model.specs.declared.answer.Answer.TheVariants as answered
use Rattle.tracker_model.specs.declared.call.Call.{Call}
use Rattle.serve.specs.Datagram.{Replies, Terms, plan_of}
use Rattle.serve.specs.declared.datagram.Served.{Served}
use Rattle.serve.specs.declared.datagram.Served.TheVariants.{Idle, RecvFault, Unbuilt, Silent, Sent, SendFault, NoMemory}

-- a datagram that a worker received, the minute that it was served in, the answers to the calls of
-- its plan, the reply that they make where there is one, and what was done for it
pub record Turn : Type 0 where
  pub came : Datagram
  pub minute : Minute
  pub answers : List Answer
  pub reply : List ℕ
  pub served : Served

module _ (secret : Secret) (access : Option Listing) where
  -- the plan of a turn's datagram
  abbrev pub turn_terms : Turn → Terms
  turn_terms turn = record { secret = secret; access = access; minute = turn.minute }

  abbrev pub turn_plan : Turn → UdpPlan
  turn_plan turn = plan_of (turn_terms turn) turn.came

  -- each call of the plan is answered, and this is the reply that the answers make
  abbrev pub HasReply : Turn → Type 0
  HasReply turn =
      (length turn.answers ≡ length (calls_of (turn_plan turn)))
      × Replies (turn_terms turn) turn.came turn.answers turn.reply

  -- what holds of a turn, by what was done: nothing without a datagram
  abbrev pub IsServedTurn : Turn → Served → Type 0
  IsServedTurn turn Idle = ⊥
  IsServedTurn turn RecvFault = ⊥
  IsServedTurn turn Unbuilt = (family_of turn.came.peer.addr ≡ Six) × (turn.answers ≡ [])
  IsServedTurn turn (Silent quiet) =
      (turn_plan turn ≡ planned.Silent quiet) × (turn.answers ≡ [])
  IsServedTurn turn Sent = HasReply turn
  IsServedTurn turn SendFault = HasReply turn
  IsServedTurn turn NoMemory =
      (transaction : ℕ) × (call : Call)
      × (turn_plan turn ≡ planned.Announce transaction call)
      × (turn.answers ≡ answered.NoMemory ∷ [])

  abbrev pub IsTurn : Turn → Type 0
  IsTurn turn = IsServedTurn turn turn.served

  -- the calls of a turn, each with its answer, by this pass's number
  abbrev pub moves_in : PassShape → Turn → List Move
  moves_in pass turn =
      moves_of pass.caller turn.minute (udp_placed pass.shards.bits (turn_plan turn)) turn.answers

-- the datagrams that were sent in a turn
abbrev pub sent_as : Datagram → Served → List Datagram
sent_as reply Idle = []
sent_as reply RecvFault = []
sent_as reply Unbuilt = []
sent_as reply (Silent quiet) = []
sent_as reply Sent = reply ∷ []
sent_as reply SendFault = []
sent_as reply NoMemory = []

abbrev pub sent_in : Turn → List Datagram
sent_in turn = sent_as (datagram turn.came.peer turn.reply) turn.served

-- how many replies were lost in a turn as they were to be sent
abbrev pub lost_as : Served → ℕ
lost_as Idle = 0
lost_as RecvFault = 0
lost_as Unbuilt = 0
lost_as (Silent quiet) = 0
lost_as Sent = 0
lost_as SendFault = 1
lost_as NoMemory = 0

abbrev pub lost_in : Turn → ℕ
lost_in turn = lost_as turn.served

-- a datagram was received
abbrev pub is_received : Served → Bool
is_received Idle = false
is_received RecvFault = false
is_received Unbuilt = true
is_received (Silent quiet) = true
is_received Sent = true
is_received SendFault = true
is_received NoMemory = true

-- A worker took turns: each datagram that it received has one, in order. Through the pass it made
-- the calls of their plans in this order and no others, and over the wire it sent the replies in
-- this order and nothing else. The wire's count of faults rose at least by the replies that were
-- lost.
pub record Worked (secret : Secret) (access : Option Listing) (old new : PassShape)
    (wire wire' : Option Traffic) (faults faults' : ℕ) : Type 0 where
  pub turns : List Turn
  pub each : AllByRecursion (IsTurn secret access) turns
  pub grown : GrowsAmong old.shards.settings old.caller old.seen
      (flat_map (moves_in secret access old) turns) new.seen
  pub pass : new ≡ record old { seen = new.seen }
  pub moved : Moves wire wire' (map (λ turn. turn.came) turns) (flat_map sent_in turns)
  pub counted : faults ≤ faults'
  pub failed : min (faults + sum_by lost_in turns) last_count ≤ faults'

-- A worker may rest: no datagram waits at its wire, or the wire's count of faults rose.
abbrev pub Rests : Option Traffic → (faults faults' : ℕ) → Type 0
Rests wire faults faults' = NoneWaits wire ⊎ Rose faults faults'
