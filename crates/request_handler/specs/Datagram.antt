-- What becomes of the plan of a datagram.
use Rattle.std.specs.Prelude.{◌≡◌, ℕ, ◌≤◌, List, [], ◌∷◌, Some, take}
use Rattle.ot_base.specs.declared.minute.Minute.{Minute}
use Rattle.tracker_core.specs.UdpPlan.{calls_of}
use Rattle.tracker_core.specs.UdpText.{announce_text, udp_text}
use Rattle.tracker_core.specs.declared.udp_plan.UdpPlan.{UdpPlan}
use Rattle.tracker_core.specs.declared.udp_plan.UdpPlan.TheVariants as planned
use Rattle.tracker_model.specs.Making.{Makes, MakingRelation}
use Rattle.tracker_model.specs.Placed.{bucket_in, placed_calls}
use Rattle.tracker_model.specs.declared.answer.Answer.{Answer}
use Rattle.tracker_model.specs.declared.answer.Answer.TheVariants as answered
use Rattle.tracker_model.specs.declared.call.Call.{Call}
use Rattle.udp_wire.specs.Packets.{AreTellable}
use Rattle.request_handler.specs.declared.datagram.Outcome.{Outcome}
use Rattle.request_handler.specs.declared.datagram.Outcome.TheVariants.{Silent, Replied, NoMemory}

-- the calls that a plan makes, each on its torrent's bucket
abbrev pub udp_placed : (bits : ℕ) → UdpPlan → List (ℕ × Call)
udp_placed bits plan = placed_calls (bucket_in bits) (calls_of plan)

-- a reply is no longer than its buffer
abbrev pub HasRoom : Outcome → Type 0
HasRoom (Silent quiet) = Unit {0}
HasRoom (Replied len) = len ≤ 2048
HasRoom NoMemory = Unit {0}

-- What came of a plan whose calls have these answers: its datagram is silent; its reply stands at
-- the front of the buffer; or there was no memory for its announce.
abbrev pub IsOutcome : UdpPlan → List Answer → List ℕ → Outcome → Type 0
IsOutcome plan answers reply (Silent quiet) = plan ≡ planned.Silent quiet
IsOutcome plan answers reply (Replied len) = udp_text plan answers ≡ Some (take len reply)
IsOutcome plan answers reply NoMemory =
    (transaction : ℕ) × (call : Call)
    × (plan ≡ planned.Announce transaction call) × (answers ≡ answered.NoMemory ∷ [])

-- a plan was carried out from the state old to the state new
pub record CarriesOut {T : Type 0}
    (made : MakingRelation T) (minute : Minute) (old : T) (bits : ℕ) (plan : UdpPlan) (new : T)
    (reply : List ℕ) (outcome : Outcome) : Type 0 where
  pub answers : List Answer
  pub makes : Makes made minute old (udp_placed bits plan) answers new
  pub came : IsOutcome plan answers reply outcome

-- an answer that an announce or a stop can have, with peers that fit into a reply
abbrev pub IsReportAnswer : Answer → Type 0
IsReportAnswer (answered.Told counts peers) = AreTellable peers
IsReportAnswer (answered.SwarmFull count) = Unit {0}
IsReportAnswer (answered.BucketFull count) = Unit {0}
IsReportAnswer answered.NoMemory = Unit {0}
IsReportAnswer (answered.Stats counts known) = ⊥
IsReportAnswer (answered.Rows rows) = ⊥
IsReportAnswer (answered.Cleaned held) = ⊥
IsReportAnswer answered.Applied = ⊥
IsReportAnswer (answered.Drained notes dropped) = ⊥

-- what came of an announce or a stop that has this answer
abbrev pub IsReportOutcome : ℕ → Answer → List ℕ → Outcome → Type 0
IsReportOutcome transaction answer reply (Silent quiet) = ⊥
IsReportOutcome transaction answer reply (Replied len) =
    announce_text transaction answer ≡ Some (take len reply)
IsReportOutcome transaction answer reply NoMemory = answer ≡ answered.NoMemory
