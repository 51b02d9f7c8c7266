-- What a record of a trace asks of the tracker, and what is written for it.
use Rattle.std.specs.Prelude.{◌≡◌, ℕ, List, [], ◌∷◌, ◌++◌, Option, Some, None, Ok, codes, decimal}
use Rattle.std.specs.Option.{option_map}
use Rattle.hex.specs.Hex.{encode_lower}
use Rattle.ot_base.specs.Minute.{minute_at}
use Rattle.ot_base.specs.declared.minute.Minute.{Minute}
use Rattle.ot_io.specs.declared.settings.ReplaySettings.{ReplaySettings}
use Rattle.lines.specs.Text.{line_end}
use Rattle.access_list.specs.Access.{Listing}
use Rattle.tracker_core.specs.ConnectionPlan.{IsConnectionPlan}
use Rattle.tracker_core.specs.UdpPlan.{udp_plan}
use Rattle.tracker_core.specs.UdpText.{udp_text}
use Rattle.tracker_core.specs.declared.connection_plan.ConnectionPlan.{ConnectionPlan}
use Rattle.tracker_core.specs.declared.connection_plan.ConnectionPlan.TheVariants.{More, Rejected}
use Rattle.tracker_core.specs.declared.connection_plan.ConnectionPlan.TheVariants.{Planned}
use Rattle.tracker_core.specs.declared.udp_plan.UdpPlan.{UdpPlan}
use Rattle.tracker_core.specs.declared.udp_plan.UdpPlan.TheVariants.{Silent, Connected, Refused}
use Rattle.tracker_core.specs.declared.udp_plan.UdpPlan.TheVariants.{Announce, Scrape}
use Rattle.tracker_model.specs.Placed.{on_each_bucket}
use Rattle.tracker_model.specs.declared.answer.Answer.{Answer}
use Rattle.tracker_model.specs.declared.call.Call.{Call}
use Rattle.tracker_model.specs.declared.call.Call.TheVariants as call
use Rattle.trace_text.specs.Trace.{line_of}
use Rattle.trace_text.specs.declared.line.TraceLine.{TraceLine}
use Rattle.trace_text.specs.declared.line.TraceLine.TheVariants.{Udp, Http, Clean}
use Rattle.udp_wire.specs.Packets.{request_of}
use Rattle.udp_wire.specs.declared.request.Quiet.{Quiet}
use Rattle.udp_wire.specs.declared.request.Quiet.TheVariants as quiet
use Rattle.request_handler.specs.Cleaning.{held_sum}
use Rattle.request_handler.specs.Connection.{connection_placed, connection_reply}
use Rattle.request_handler.specs.Datagram.{udp_placed}

-- what is to be done for a record: for a datagram, for what came on a connection until its end, or
-- where the cleaner goes over the buckets
pub data RecordPlan : Type 0 where
  datagram : UdpPlan → RecordPlan
  connection : ConnectionPlan → RecordPlan
  cleaning : RecordPlan

-- a record's minute, and its plan then, of a tracker with these settings and this access list
abbrev pub IsRecordPlan : ReplaySettings → Option Listing → TraceLine → Minute → RecordPlan → Type 0
IsRecordPlan s access (Udp seconds from bytes) minute (datagram plan) =
    (minute ≡ minute_at seconds) × (plan ≡ udp_plan s.secret access from minute (request_of bytes))
IsRecordPlan s access (Http seconds from bytes) minute (connection plan) =
    (minute ≡ minute_at seconds) × IsConnectionPlan bytes access from s.full plan
IsRecordPlan s access (Clean seconds) minute cleaning = minute ≡ minute_at seconds
IsRecordPlan s access (Udp seconds from bytes) minute (connection plan) = ⊥
IsRecordPlan s access (Udp seconds from bytes) minute cleaning = ⊥
IsRecordPlan s access (Http seconds from bytes) minute (datagram plan) = ⊥
IsRecordPlan s access (Http seconds from bytes) minute cleaning = ⊥
IsRecordPlan s access (Clean seconds) minute (datagram plan) = ⊥
IsRecordPlan s access (Clean seconds) minute (connection plan) = ⊥

-- the same of a line
pub record IsLinePlan (s : ReplaySettings) (access : Option Listing) (line : List ℕ)
    (minute : Minute) (plan : RecordPlan) : Type 0 where
  pub recorded : TraceLine
  pub read : line_of line ≡ Ok recorded
  pub planned : IsRecordPlan s access recorded minute plan

-- the calls that a plan makes, in order, each in its bucket
abbrev pub record_placed : (bits : ℕ) → RecordPlan → List (ℕ × Call)
record_placed bits (datagram plan) = udp_placed bits plan
record_placed bits (connection plan) = connection_placed bits plan
record_placed bits cleaning = on_each_bucket bits call.Clean

-- why a datagram has no reply, in a word
abbrev pub quiet_word : Quiet → List ℕ
quiet_word quiet.Short = codes "short"
quiet_word quiet.Protocol = codes "protocol"
quiet_word quiet.Announce = codes "announce"
quiet_word quiet.Scrape = codes "scrape"

-- the output line of a reply: its bytes in lower-case hex digits
abbrev pub reply_line : List ℕ → List ℕ
reply_line reply = codes "R " ++ encode_lower reply ++ line_end ∷ []

-- the output line of a datagram that has no reply
abbrev pub silent_line : Quiet → List ℕ
silent_line quiet = codes "S " ++ quiet_word quiet ++ line_end ∷ []

-- the output line of a connection that ended before a head
abbrev pub cut_line : List ℕ
cut_line = codes "S cut" ++ line_end ∷ []

-- the output line of what a connection is sent, if it is sent anything
abbrev pub sent_line : Option (List ℕ) → List ℕ
sent_line None = cut_line
sent_line (Some reply) = reply_line reply

-- the output line of a datagram whose plan's calls have these answers; want of memory has none
abbrev pub datagram_output : UdpPlan → List Answer → Option (List ℕ)
datagram_output (Silent quiet) answers = Some (silent_line quiet)
datagram_output (Connected transaction connection') answers =
    option_map reply_line (udp_text (Connected transaction connection') answers)
datagram_output (Refused transaction why) answers =
    option_map reply_line (udp_text (Refused transaction why) answers)
datagram_output (Announce transaction call) answers =
    option_map reply_line (udp_text (Announce transaction call) answers)
datagram_output (Scrape transaction hashes) answers =
    option_map reply_line (udp_text (Scrape transaction hashes) answers)

-- the output line of a connection, by its plan, likewise
abbrev pub connection_output : ConnectionPlan → List Answer → Option (List ℕ)
connection_output More answers = Some cut_line
connection_output (Rejected code) answers =
    option_map reply_line (connection_reply (Rejected code) answers)
connection_output (Planned plan) answers =
    option_map reply_line (connection_reply (Planned plan) answers)

-- the output line of a cleaning that left so many peers in all buckets together
abbrev pub cleaned_line : ℕ → List ℕ
cleaned_line held = codes "C " ++ decimal held ++ line_end ∷ []

-- the output line of a record
abbrev pub output_line : RecordPlan → List Answer → Option (List ℕ)
output_line (datagram plan) answers = datagram_output plan answers
output_line (connection plan) answers = connection_output plan answers
output_line cleaning answers = option_map cleaned_line (held_sum answers)
