-- What is to be done for what a connection has sent so far, as a relation on its bytes.
use Rattle.std.specs.Prelude.{◌≡◌, ℕ, nat_le, Bool, List, [], length, take, slice_range, if◌then◌else◌}
use Rattle.std.specs.Prelude.{Option}
use Rattle.ot_base.specs.declared.address.Endpoint.{Endpoint}
use Rattle.tracker_model.specs.declared.call.Call.{Call}
use Rattle.access_list.specs.Access.{Listing}
use Rattle.http_wire.specs.Head.{IsAnswer}
use Rattle.http_wire.specs.declared.head.Head.{Head}
use Rattle.http_wire.specs.declared.head.Head.TheVariants as head
use Rattle.http_wire.specs.declared.reply.Code.TheVariants.{BadRequest, TooLarge}
use Rattle.tracker_core.specs.HttpPlan.{IsBounded, IsCompleteHttp, ScrapesInOrder, http_calls, http_plan}
use Rattle.tracker_core.specs.declared.connection_plan.ConnectionPlan.{ConnectionPlan}
use Rattle.tracker_core.specs.declared.connection_plan.ConnectionPlan.TheVariants.{More, Rejected, Planned}

-- how many bytes a head has at most
abbrev pub head_room : ℕ
head_room = 8192

-- the bytes in which a head has to stand
abbrev pub head_front : List ℕ → List ℕ
head_front bytes = take head_room bytes

-- the plan for bytes, by what they are as the beginning of a request
abbrev pub plan_of_head : (bytes : List ℕ) → Option Listing → Endpoint → (full : Bool) → Head
    → ConnectionPlan
plan_of_head bytes access from full (head.Whole get start end len) =
    if get then Planned (http_plan (slice_range bytes start end) access from full)
    else Rejected BadRequest
plan_of_head bytes access from full head.Bad = Rejected BadRequest
plan_of_head bytes access from full head.Many = Rejected TooLarge
plan_of_head bytes access from full head.More =
    if nat_le head_room (length bytes) then Rejected TooLarge else More

-- a plan is one for all bytes that a connection has sent, of which the first 8,192 count
pub record IsConnectionPlan (bytes : List ℕ) (access : Option Listing) (from : Endpoint)
    (full : Bool) (plan : ConnectionPlan) : Type 0 where
  pub head : Head
  pub found : IsAnswer (head_front bytes) head
  pub planned : plan ≡ plan_of_head (head_front bytes) access from full head

-- the calls that a plan makes, in order
abbrev pub connection_calls : ConnectionPlan → List Call
connection_calls More = []
connection_calls (Rejected code) = []
connection_calls (Planned plan) = http_calls plan

-- its plan is complete, and the torrents of a scrape ascend
abbrev pub IsCompleteConnection : ConnectionPlan → Type 0
IsCompleteConnection More = Unit {0}
IsCompleteConnection (Rejected code) = Unit {0}
IsCompleteConnection (Planned plan) = IsCompleteHttp plan × ScrapesInOrder plan

abbrev pub IsBoundedConnection : ConnectionPlan → Type 0
IsBoundedConnection More = Unit {0}
IsBoundedConnection (Rejected code) = Unit {0}
IsBoundedConnection (Planned plan) = IsBounded plan
