-- Access lists that admit the same torrents give the same plans.
use Rattle.std.proofs.Common.{◌≡◌, ℕ, List, [], ◌∷◌, Bool, true, false, refl, sym, ◌∙◌, ap}
use Rattle.std.specs.Prelude.{Option, Some, None, Result, Ok, Err, if◌then◌else◌, ◌==◌, codes, slice_range}
use Rattle.access_list.specs.Access.{Listing, admits_hash}
use Rattle.conn_id.specs.ConnectionId.{accepted_id}
use Rattle.http_wire.specs.declared.head.Head.{Head}
use Rattle.http_wire.specs.declared.head.Head.TheVariants as head
use Rattle.http_wire.specs.declared.reply.Code.TheVariants.{BadRequest}
use Rattle.ot_base.specs.declared.address.Endpoint.{Endpoint}
use Rattle.ot_base.specs.declared.hash.InfoHash.{InfoHash}
use Rattle.ot_base.specs.declared.hash.Secret.{Secret}
use Rattle.ot_base.specs.declared.minute.Minute.{Minute}
use Rattle.ot_base.specs.declared.refusal.Refusal.{Refusal}
use Rattle.ot_base.specs.declared.refusal.Refusal.TheVariants as refusal
use Rattle.ot_io.specs.declared.settings.ReplaySettings.{ReplaySettings}
use Rattle.query_read.specs.Query.{Pair, target_of}
use Rattle.query_read.specs.declared.target.Target.{Target}
use Rattle.query_read.specs.declared.target.Target.TheVariants as target
use Rattle.trace_text.specs.declared.line.TraceLine.{TraceLine}
use Rattle.trace_text.specs.declared.line.TraceLine.TheVariants.{Udp, Http, Clean}
use Rattle.tracker_core.specs.ConnectionPlan.{IsConnectionPlan, head_front, plan_of_head}
use Rattle.tracker_core.specs.HttpPlan.{first_value, hash_named, judged_plan, named_call, plan_of_target, port_named}
use Rattle.tracker_core.specs.UdpPlan.{announce_call, udp_plan}
use Rattle.tracker_core.specs.declared.connection_plan.ConnectionPlan.{ConnectionPlan}
use Rattle.tracker_core.specs.declared.connection_plan.ConnectionPlan.TheVariants.{Rejected, Planned}
use Rattle.tracker_core.specs.declared.http_plan.HttpPlan.{HttpPlan}
use Rattle.tracker_core.specs.declared.http_plan.HttpPlan.TheVariants as planned
use Rattle.tracker_core.specs.declared.udp_plan.UdpPlan.{UdpPlan}
use Rattle.tracker_core.specs.declared.udp_plan.UdpPlan.TheVariants.{Refused, Announce}
use Rattle.udp_wire.specs.Packets.{request_of}
use Rattle.udp_wire.specs.declared.request.Request.{Request}
use Rattle.udp_wire.specs.declared.request.Request.TheVariants as request
use Rattle.udp_wire.specs.declared.request.UdpAnnounce.{UdpAnnounce}
use Rattle.offline.specs.Follows.{AdmitAlike}
use Rattle.offline.specs.Records.{RecordPlan, datagram, connection, cleaning, IsLinePlan, IsRecordPlan}

module _ (a b : Option Listing) (alike : AdmitAlike a b) where
  udp_alike : (secret : Secret) (from : Endpoint) (minute : Minute) (r : Request) → udp_plan secret a from minute r ≡ udp_plan secret b from minute r
  udp_alike secret from minute (request.Silent quiet) = refl
  udp_alike secret from minute (request.Connect transaction) = refl
  udp_alike secret from minute (request.Unknown transaction action) = refl
  udp_alike secret from minute (request.Scrape connection' transaction hashes) = refl
  udp_alike secret from minute (request.Announce x) =
      ap (λ (admitted : Bool). if accepted_id secret from.addr minute x.connection
      then (if x.port == 0 then Refused x.transaction refusal.BadPort
      else if admitted then Announce x.transaction (announce_call from x)
      else Refused x.transaction refusal.Denied)
      else Refused x.transaction refusal.ConnectionId) (alike x.hash)

  judged_alike : (from : Endpoint) (pairs : List Pair) (hash : Result InfoHash Refusal) (port : Result ℕ Refusal) → judged_plan a from pairs hash port ≡ judged_plan b from pairs hash port
  judged_alike from pairs (Err why) port = refl
  judged_alike from pairs (Ok hash) (Err why) = refl
  judged_alike from pairs (Ok hash) (Ok port) =
      ap (λ (admitted : Bool). if admitted then planned.Announce (named_call from pairs hash port) else planned.Refused refusal.Denied) (alike hash)

  target_alike : (from : Endpoint) (full : Bool) (t : Target) → plan_of_target a from full t ≡ plan_of_target b from full t
  target_alike from full (target.Announce pairs) = judged_alike from pairs (hash_named (first_value pairs (codes "info_hash"))) (port_named (first_value pairs (codes "port")))
  target_alike from full (target.Scrape pairs) = refl
  target_alike from full target.Other = refl

  head_alike : (bytes : List ℕ) (from : Endpoint) (full : Bool) (h : Head) → plan_of_head bytes a from full h ≡ plan_of_head bytes b from full h
  head_alike bytes from full (head.Whole get start end len) =
      ap (λ (plan : HttpPlan). if get then Planned plan else Rejected BadRequest) (target_alike from full (target_of (slice_range bytes start end)))
  head_alike bytes from full head.Bad = refl
  head_alike bytes from full head.Many = refl
  head_alike bytes from full head.More = refl

  connection_alike : (bytes : List ℕ) (from : Endpoint) (full : Bool) (plan : ConnectionPlan) → IsConnectionPlan bytes a from full plan → IsConnectionPlan bytes b from full plan
  connection_alike bytes from full plan is = record { head = is.head; found = is.found; planned = is.planned ∙ head_alike (head_front bytes) from full is.head }

  record_alike : (s : ReplaySettings) (recorded : TraceLine) (minute : Minute) (plan : RecordPlan) → IsRecordPlan s a recorded minute plan → IsRecordPlan s b recorded minute plan
  record_alike s (Udp seconds from bytes) minute (datagram plan) is = (is.0, is.1 ∙ udp_alike s.secret from minute (request_of bytes))
  record_alike s (Udp seconds from bytes) minute (connection plan) is = absurd is
  record_alike s (Udp seconds from bytes) minute cleaning is = absurd is
  record_alike s (Http seconds from bytes) minute (datagram plan) is = absurd is
  record_alike s (Http seconds from bytes) minute (connection plan) is = (is.0, connection_alike bytes from s.full plan is.1)
  record_alike s (Http seconds from bytes) minute cleaning is = absurd is
  record_alike s (Clean seconds) minute (datagram plan) is = absurd is
  record_alike s (Clean seconds) minute (connection plan) is = absurd is
  record_alike s (Clean seconds) minute cleaning is = is

  pub line_alike : (s : ReplaySettings) (line : List ℕ) (minute : Minute) (plan : RecordPlan) → IsLinePlan s a line minute plan → IsLinePlan s b line minute plan
  line_alike s line minute plan is = record { recorded = is.recorded; read = is.read; planned = record_alike s is.recorded minute plan is.planned }
