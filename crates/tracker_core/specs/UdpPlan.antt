-- What is to be done for a datagram, as a function of what it asks, who sent it and when, and of
-- the torrents that the tracker takes part in.
use Rattle.std.specs.Prelude.{ℕ, ℤ, pos, negsuc, ◌==◌, ◌≤◌, List, [], ◌∷◌, Some, None}
use Rattle.std.specs.Prelude.{Option, length, map, if◌then◌else◌}
use Rattle.ot_base.specs.declared.address.Endpoint.{Endpoint}
use Rattle.ot_base.specs.declared.hash.InfoHash.{InfoHash}
use Rattle.ot_base.specs.declared.hash.Secret.{Secret}
use Rattle.ot_base.specs.declared.minute.Minute.{Minute}
use Rattle.ot_base.specs.declared.refusal.Refusal.TheVariants as refusal
use Rattle.tracker_model.specs.declared.call.Call.{Call}
use Rattle.tracker_model.specs.declared.call.Call.TheVariants as call
use Rattle.access_list.specs.Access.{Listing, admits_hash}
use Rattle.conn_id.specs.ConnectionId.{mint_of, accepted_id}
use Rattle.udp_wire.specs.declared.request.UdpAnnounce.{UdpAnnounce}
use Rattle.udp_wire.specs.declared.request.Request.{Request}
use Rattle.udp_wire.specs.declared.request.Request.TheVariants as request
-- handed on to those that look for it here
pub use Rattle.tracker_model.specs.Calls.{IsReport}
use Rattle.tracker_core.specs.Reports.{peers_wanted, listener_of, report_call}
use Rattle.tracker_core.specs.declared.udp_plan.UdpPlan.{UdpPlan}
use Rattle.tracker_core.specs.declared.udp_plan.UdpPlan.TheVariants.{Silent, Connected, Refused, Announce, Scrape}

-- how many peers an announce wants to be told: where its number is negative it says none
abbrev pub wanted_peers : ℤ → ℕ
wanted_peers (pos n) = peers_wanted (Some n)
wanted_peers (negsuc n) = peers_wanted None

abbrev pub announce_call : Endpoint → UdpAnnounce → Call
announce_call from a =
    report_call a.event a.hash (listener_of from a.port) (a.left == 0) (wanted_peers a.want)

-- an announce or a stop needs a connection id of its address that isn't too old, then a port, then
-- a torrent that is admitted
abbrev pub announce_plan : Secret → Option Listing → Endpoint → Minute → UdpAnnounce → UdpPlan
announce_plan secret access from minute a =
    if accepted_id secret from.addr minute a.connection
    then (if a.port == 0 then Refused a.transaction refusal.BadPort
    else if admits_hash access a.hash then Announce a.transaction (announce_call from a)
    else Refused a.transaction refusal.Denied)
    else Refused a.transaction refusal.ConnectionId

-- a scrape needs such a connection id alone
abbrev pub scrape_plan : Secret → Endpoint → Minute → ℕ → ℕ → List InfoHash → UdpPlan
scrape_plan secret from minute connection transaction hashes =
    if accepted_id secret from.addr minute connection then Scrape transaction hashes
    else Refused transaction refusal.ConnectionId

-- the plan for what a datagram asks
abbrev pub udp_plan : Secret → Option Listing → Endpoint → Minute → Request → UdpPlan
udp_plan secret access from minute (request.Silent quiet) = Silent quiet
udp_plan secret access from minute (request.Connect transaction) =
    Connected transaction (mint_of secret from.addr minute)
udp_plan secret access from minute (request.Unknown transaction action) =
    Refused transaction refusal.Action
udp_plan secret access from minute (request.Announce a) = announce_plan secret access from minute a
udp_plan secret access from minute (request.Scrape connection transaction hashes) =
    scrape_plan secret from minute connection transaction hashes

-- the calls that a plan makes, in order: none, one, or a scrape for each hash, repeats too
abbrev pub calls_of : UdpPlan → List Call
calls_of (Silent quiet) = []
calls_of (Connected transaction connection) = []
calls_of (Refused transaction why) = []
calls_of (Announce transaction call) = call ∷ []
calls_of (Scrape transaction hashes) = map call.Scrape hashes

-- where it is a scrape, it names a torrent
abbrev pub Names : Request → Type 0
Names (request.Scrape connection transaction hashes) = 1 ≤ length hashes
Names (request.Connect transaction) = Unit {0}
Names (request.Announce announce) = Unit {0}
Names (request.Unknown transaction action) = Unit {0}
Names (request.Silent quiet) = Unit {0}

-- the one call of a plan is a report, and a scrape names a torrent
abbrev pub IsComplete : UdpPlan → Type 0
IsComplete (Silent quiet) = Unit {0}
IsComplete (Connected transaction connection) = Unit {0}
IsComplete (Refused transaction why) = Unit {0}
IsComplete (Announce transaction call) = IsReport call
IsComplete (Scrape transaction hashes) = 1 ≤ length hashes
