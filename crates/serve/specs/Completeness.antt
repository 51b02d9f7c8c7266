-- When what is sent to a server is taken up.
use Rattle.std.specs.Prelude.{◌≡◌, ℕ, ◌≤◌, Bool, false, List, ◌∷◌, []}
use Rattle.std.specs.Prelude.{Option, length}
use Rattle.std.specs.Io.KnownBytes.{Consumes}
use Rattle.http_wire.specs.Head.{IsWhole, after_empty_lines, is_bad, is_many, most_fields}
use Rattle.http_wire.specs.declared.head.Head.TheVariants.{Whole}
use Rattle.httparse.specs.Grammar.{ReadsRequest, RequestHead, print_request}
use Rattle.ot_io.specs.Tales.{Tale}
use Rattle.ot_io.specs.Traffic.{Datagram, Moves, Traffic, datagram}
use Rattle.shards.specs.Shape.{PassShape}
use Rattle.tracker_core.specs.ConnectionPlan.{head_front, head_room, plan_of_head}
use Rattle.tracker_core.specs.declared.connection_plan.ConnectionPlan.{ConnectionPlan}
use Rattle.tracker_core.specs.declared.udp_plan.UdpPlan.TheVariants as planned
use Rattle.tracker_model.specs.declared.answer.Answer.{Answer}
use Rattle.tracker_model.specs.declared.call.Call.{Call}
use Rattle.serve.specs.Connection.{ConnectionTerms, EndsConnection}
use Rattle.serve.specs.Datagram.{Handles, Replies, Terms, plan_of}
use Rattle.serve.specs.declared.connection.ConnEnd.{ConnEnd}
use Rattle.serve.specs.declared.connection.ConnEnd.TheVariants as end
use Rattle.serve.specs.declared.datagram.Served.{Served}
use Rattle.serve.specs.declared.datagram.Served.TheVariants.{Idle, RecvFault, Unbuilt, Silent, Sent, SendFault, NoMemory}

-- a datagram waits at a wire before all others
abbrev pub WaitsFirst : Traffic → Datagram → Type 0
WaitsFirst wire came = (others : List Datagram) × (wire.waiting ≡ came ∷ others)

-- A datagram was taken up: its plan was carried out and the reply sent to where it came from; or it
-- is no request; or there was no memory for its announce.
abbrev pub TakesUp : Terms → (old new : PassShape) → Datagram → (wire wire' : Option Traffic)
    → Served → Type 0
TakesUp terms old new came wire wire' Idle = ⊥
TakesUp terms old new came wire wire' RecvFault = ⊥
TakesUp terms old new came wire wire' Unbuilt = ⊥
TakesUp terms old new came wire wire' (Silent quiet) = plan_of terms came ≡ planned.Silent quiet
TakesUp terms old new came wire wire' Sent =
    (answers : List Answer) × (reply : List ℕ)
    × Handles terms old new came answers
    × Replies terms came answers reply
    × Moves wire wire' (came ∷ []) (datagram came.peer reply ∷ [])
TakesUp terms old new came wire wire' SendFault = ⊥
TakesUp terms old new came wire wire' NoMemory =
    (transaction : ℕ) × (call : Call) × (plan_of terms came ≡ planned.Announce transaction call)

-- Of some bytes a front of at most 8,192 is the head of a request, with at most 64 fields. From its
-- first line that isn't empty on it has at most 66 lines, and that line ends as a request's does.
pub record BeginsWithHead (bytes : List ℕ) : Type 0 where
  pub head : RequestHead
  pub rest : List ℕ
  pub reads : ReadsRequest bytes head rest
  pub few_fields : length head.fields ≤ most_fields
  pub short : length (print_request head) ≤ head_room
  pub few_lines : is_many (after_empty_lines (print_request head)) ≡ false
  pub version : is_bad (after_empty_lines (print_request head)) ≡ false

-- a plan is the one for a whole head that was read
pub record IsPlanOfHead (terms : ConnectionTerms) (link link' : Tale) (plan : ConnectionPlan)
    : Type 0 where
  pub read : List ℕ
  pub consumed : Consumes link.left link'.left read
  pub get : Bool
  pub start : ℕ
  pub stop : ℕ
  pub len : ℕ
  pub whole : IsWhole (head_front read) get start stop len
  pub planned : plan ≡ plan_of_head (head_front read) terms.access link.client terms.full
      (Whole get start stop len)

-- A connection's request was taken up: the whole reply to the head that it sent was written, or
-- there was no memory.
abbrev pub IsRepliedTo : ConnectionTerms → (old new : PassShape) → (link link' : Tale) → ConnEnd
    → Type 0
IsRepliedTo terms old new link link' end.Unbuilt = ⊥
IsRepliedTo terms old new link link' (end.Replied status) =
    (plan : ConnectionPlan)
    × IsPlanOfHead terms link link' plan
    × EndsConnection terms.minute old new plan link.written link'.written (end.Replied status)
IsRepliedTo terms old new link link' end.Cut = ⊥
IsRepliedTo terms old new link link' end.ReadFault = ⊥
IsRepliedTo terms old new link link' end.WriteFault = ⊥
IsRepliedTo terms old new link link' end.NoMemory = Unit {0}
