-- What a server does for a datagram.
use Rattle.std.specs.Prelude.{◌≡◌, ℕ, ◌≤◌, List, [], ◌∷◌, Option, Some, take}
use Rattle.access_list.specs.Access.{Listing}
use Rattle.ot_base.specs.Address.{family_of}
use Rattle.ot_base.specs.declared.address.Family.TheVariants.{Six}
use Rattle.ot_base.specs.declared.hash.Secret.{Secret}
use Rattle.ot_base.specs.declared.minute.Minute.{Minute}
use Rattle.ot_io.specs.Counts.{Rose}
use Rattle.ot_io.specs.Traffic.{Datagram, Moves, NoneWaits, Traffic, datagram}
use Rattle.request_handler.specs.Datagram.{IsOutcome, udp_placed}
use Rattle.request_handler.specs.declared.datagram.Outcome.{Outcome}
use Rattle.shards.specs.Passing.{PassFollows}
use Rattle.shards.specs.Shape.{PassShape}
use Rattle.tracker_core.specs.UdpPlan.{udp_plan}
use Rattle.tracker_core.specs.UdpText.{udp_text}
use Rattle.tracker_core.specs.declared.udp_plan.UdpPlan.{UdpPlan}
use Rattle.tracker_core.specs.declared.udp_plan.UdpPlan.TheVariants as planned
use Rattle.tracker_model.specs.declared.answer.Answer.{Answer}
use Rattle.tracker_model.specs.declared.answer.Answer.TheVariants as answered
use Rattle.tracker_model.specs.declared.call.Call.{Call}
use Rattle.udp_wire.specs.Packets.{request_of}
use Rattle.serve.specs.declared.datagram.Served.{Served}
use Rattle.serve.specs.declared.datagram.Served.TheVariants.{Idle, RecvFault, Unbuilt, Silent, Sent, SendFault, NoMemory}

-- what decides over a datagram beside its bytes and its sender: the secret of connection ids, the
-- access list if there is one, and the minute
pub record Terms : Type 0 where
  pub secret : Secret
  pub access : Option Listing
  pub minute : Minute

-- the plan of a datagram, of which the first 2,048 bytes count
abbrev pub plan_of : Terms → Datagram → UdpPlan
plan_of terms came =
    udp_plan terms.secret terms.access came.peer terms.minute (request_of (take 2048 came.bytes))

-- A plan was carried out through the pass: its calls were made in order, each with its answer right
-- just there, and this came of their answers.
pub record Carries (minute : Minute) (plan : UdpPlan) (old new : PassShape) (reply : List ℕ)
    (outcome : Outcome) : Type 0 where
  pub answers : List Answer
  pub follows : PassFollows minute old (udp_placed old.shards.bits plan) answers new
  pub came : IsOutcome plan answers reply outcome

-- the calls of a datagram's plan were made through the pass, and have these answers
abbrev pub Handles : Terms → (old new : PassShape) → Datagram → List Answer → Type 0
Handles terms old new came answers =
    PassFollows terms.minute old (udp_placed old.shards.bits (plan_of terms came)) answers new

-- the reply of a datagram whose plan's calls have these answers is these bytes
abbrev pub Replies : Terms → Datagram → List Answer → List ℕ → Type 0
Replies terms came answers reply = udp_text (plan_of terms came) answers ≡ Some reply

-- What was done for a datagram at a wire: none came; or one came from an address that isn't
-- answered yet, or one that is no request, and it is left without a reply; or its plan was carried
-- out and its sender was sent the reply, or that was lost; or there was no memory for its announce,
-- which has no reply.
abbrev pub Serves : Terms → (old new : PassShape) → (wire wire' : Option Traffic) → Served → Type 0
Serves terms old new wire wire' Idle = (new ≡ old) × Moves wire wire' [] [] × NoneWaits wire'
Serves terms old new wire wire' RecvFault = (new ≡ old) × Moves wire wire' [] []
Serves terms old new wire wire' Unbuilt =
    (came : Datagram)
    × (family_of came.peer.addr ≡ Six)
    × (new ≡ old)
    × Moves wire wire' (came ∷ []) []
Serves terms old new wire wire' (Silent quiet) =
    (came : Datagram)
    × (plan_of terms came ≡ planned.Silent quiet)
    × (new ≡ old)
    × Moves wire wire' (came ∷ []) []
Serves terms old new wire wire' Sent =
    (came : Datagram) × (answers : List Answer) × (reply : List ℕ)
    × Handles terms old new came answers
    × Replies terms came answers reply
    × Moves wire wire' (came ∷ []) (datagram came.peer reply ∷ [])
Serves terms old new wire wire' SendFault =
    (came : Datagram) × (answers : List Answer) × (reply : List ℕ)
    × Handles terms old new came answers
    × Replies terms came answers reply
    × Moves wire wire' (came ∷ []) []
Serves terms old new wire wire' NoMemory =
    (came : Datagram) × (transaction : ℕ) × (call : Call)
    × (plan_of terms came ≡ planned.Announce transaction call)
    × Handles terms old new came (answered.NoMemory ∷ [])
    × Moves wire wire' (came ∷ []) []

-- a count of faults doesn't fall, and each that is told raises it
abbrev pub FaultsAreCounted : ℕ → ℕ → Served → Type 0
FaultsAreCounted old new Idle = old ≤ new
FaultsAreCounted old new RecvFault = (old ≤ new) × Rose old new
FaultsAreCounted old new Unbuilt = old ≤ new
FaultsAreCounted old new (Silent quiet) = old ≤ new
FaultsAreCounted old new Sent = old ≤ new
FaultsAreCounted old new SendFault = (old ≤ new) × Rose old new
FaultsAreCounted old new NoMemory = old ≤ new

-- a count of the times that none waited doesn't fall, and each such time raises it
abbrev pub IdlesAreCounted : ℕ → ℕ → Served → Type 0
IdlesAreCounted old new Idle = (old ≤ new) × Rose old new
IdlesAreCounted old new RecvFault = old ≤ new
IdlesAreCounted old new Unbuilt = old ≤ new
IdlesAreCounted old new (Silent quiet) = old ≤ new
IdlesAreCounted old new Sent = old ≤ new
IdlesAreCounted old new SendFault = old ≤ new
IdlesAreCounted old new NoMemory = old ≤ new
