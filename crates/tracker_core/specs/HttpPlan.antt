-- What is to be done for the target of an HTTP request (BEP 3, BEP 23, BEP 48), as a function of
-- its bytes, of the torrents that the tracker takes part in, of who asks, and of whether all
-- torrents may be asked for at once. Of the pairs of a name the first one counts, but for the
-- hashes of a scrape.
use Rattle.std.specs.Prelude.{ℕ, ◌≤◌, nat_le, ◌==◌, ◌&&◌, Bool, false, List, [], ◌∷◌, codes}
use Rattle.std.specs.Prelude.{Option, Some, None, Result, Ok, Err}
use Rattle.std.specs.Prelude.{length, map, slice_get, option_and_then, if◌then◌else◌}
use Rattle.std.specs.List.{list_all}
use Rattle.std.specs.List.Sorted.{IsStrictlySortedBy}
use Rattle.std.specs.Option.{option_map_or}
use Rattle.std.specs.Str.{bytes_eq}
use Rattle.ot_base.specs.Order.{hash_cmp}
use Rattle.ot_base.specs.declared.address.Endpoint.{Endpoint}
use Rattle.ot_base.specs.declared.hash.InfoHash.{InfoHash}
use Rattle.ot_base.specs.declared.peer.Event.{Event}
use Rattle.ot_base.specs.declared.peer.Event.TheVariants as event
use Rattle.ot_base.specs.declared.refusal.Refusal.{Refusal}
use Rattle.ot_base.specs.declared.refusal.Refusal.TheVariants as refusal
use Rattle.tracker_model.specs.Counted.{ascending}
use Rattle.tracker_model.specs.declared.call.Call.{Call}
use Rattle.tracker_model.specs.declared.call.Call.TheVariants as call
use Rattle.access_list.specs.Access.{Listing, admits_hash}
use Rattle.query_read.specs.Query.{Pair, number_of, target_of, values_of}
use Rattle.query_read.specs.declared.target.Target.{Target}
use Rattle.query_read.specs.declared.target.Target.TheVariants as target
use Rattle.tracker_model.specs.Calls.{IsReport}
use Rattle.tracker_core.specs.Reports.{listener_of, peers_wanted, report_call}
use Rattle.tracker_core.specs.declared.http_plan.HttpPlan.{HttpPlan}
use Rattle.tracker_core.specs.declared.http_plan.HttpPlan.TheVariants.{NotFound, Refused, Announce, Scrape, Full}

-- the value of the first pair of a name
abbrev pub first_value : List Pair → List ℕ → Option (List ℕ)
first_value pairs name = slice_get (values_of pairs name) 0

-- the number that it writes, if it is there and writes one
abbrev pub first_number : List Pair → List ℕ → Option ℕ
first_number pairs name = option_and_then number_of (first_value pairs name)

-- an info hash has 20 bytes
abbrev pub is_hash : List ℕ → Bool
is_hash value = length value == 20

abbrev pub hash_of : List ℕ → InfoHash
hash_of value = record { 0 = value }

-- the info hash that an announce names, or why it is refused
abbrev pub hash_named : Option (List ℕ) → Result InfoHash Refusal
hash_named None = Err refusal.MissingHash
hash_named (Some value) = if is_hash value then Ok (hash_of value) else Err refusal.BadHash

-- a peer's port is a number from 1 to 65535
abbrev pub port_of : Option ℕ → Result ℕ Refusal
port_of None = Err refusal.BadPort
port_of (Some number) =
    if nat_le 1 number && nat_le number 65535 then Ok number else Err refusal.BadPort

-- the port that an announce names, or why it is refused
abbrev pub port_named : Option (List ℕ) → Result ℕ Refusal
port_named None = Err refusal.MissingPort
port_named (Some value) = port_of (number_of value)

-- what an announce says of its peer; another event than these two counts as none
abbrev pub event_named : Option (List ℕ) → Event
event_named None = event.Nothing
event_named (Some value) =
    if bytes_eq value (codes "stopped") then event.Stopped
    else if bytes_eq value (codes "completed") then event.Completed
    else event.Nothing

-- whether an announce says that nothing is left
abbrev pub is_done : List Pair → Bool
is_done pairs = option_map_or (λ left. left == 0) (first_number pairs (codes "left")) false

-- the call of an announce of this torrent and port
abbrev pub named_call : Endpoint → List Pair → InfoHash → ℕ → Call
named_call from pairs hash port =
    report_call (event_named (first_value pairs (codes "event"))) hash (listener_of from port)
    (is_done pairs) (peers_wanted (first_number pairs (codes "numwant")))

-- An announce or a stop is refused for its torrent's hash first, then for its port, then where the
-- torrent isn't admitted; else its call is made.
abbrev pub judged_plan : Option Listing → Endpoint → List Pair → Result InfoHash Refusal
    → Result ℕ Refusal → HttpPlan
judged_plan access from pairs (Err why) port = Refused why
judged_plan access from pairs (Ok hash) (Err why) = Refused why
judged_plan access from pairs (Ok hash) (Ok port) =
    if admits_hash access hash then Announce (named_call from pairs hash port)
    else Refused refusal.Denied

abbrev pub announce_plan : Option Listing → Endpoint → List Pair → HttpPlan
announce_plan access from pairs =
    judged_plan access from pairs (hash_named (first_value pairs (codes "info_hash")))
    (port_named (first_value pairs (codes "port")))

-- the torrents that a scrape names, each once in ascending order, where each value is an info hash
abbrev pub hashes_named : List (List ℕ) → Option (List InfoHash)
hashes_named values =
    if list_all is_hash values then Some (ascending hash_cmp (map hash_of values)) else None

abbrev pub named_plan : Option (List InfoHash) → HttpPlan
named_plan None = Refused refusal.BadHash
named_plan (Some hashes) = Scrape hashes

-- a scrape that names no torrent asks for all
abbrev pub scrape_plan : (full : Bool) → List (List ℕ) → HttpPlan
scrape_plan full [] = if full then Full else NotFound
scrape_plan full (value ∷ values) = named_plan (hashes_named (value ∷ values))

-- the plan for what a target asks
abbrev pub plan_of_target : Option Listing → Endpoint → (full : Bool) → Target → HttpPlan
plan_of_target access from full (target.Announce pairs) = announce_plan access from pairs
plan_of_target access from full (target.Scrape pairs) =
    scrape_plan full (values_of pairs (codes "info_hash"))
plan_of_target access from full target.Other = NotFound

-- the plan for the bytes of a target
abbrev pub http_plan : (bytes : List ℕ) → Option Listing → Endpoint → (full : Bool) → HttpPlan
http_plan bytes access from full = plan_of_target access from full (target_of bytes)

-- The calls that a plan makes, in order: none, one, or a scrape for each hash. A full scrape isn't
-- carried out call by call: who streams it scans each bucket.
abbrev pub http_calls : HttpPlan → List Call
http_calls NotFound = []
http_calls (Refused why) = []
http_calls (Announce call) = call ∷ []
http_calls (Scrape hashes) = map call.Scrape hashes
http_calls Full = []

-- the one call of a plan is a report, and a scrape names a torrent
abbrev pub IsCompleteHttp : HttpPlan → Type 0
IsCompleteHttp NotFound = Unit {0}
IsCompleteHttp (Refused why) = Unit {0}
IsCompleteHttp (Announce call) = IsReport call
IsCompleteHttp (Scrape hashes) = 1 ≤ length hashes
IsCompleteHttp Full = Unit {0}

-- the torrents of a scrape ascend by hash, and none stands twice
abbrev pub ScrapesInOrder : HttpPlan → Type 0
ScrapesInOrder NotFound = Unit {0}
ScrapesInOrder (Refused why) = Unit {0}
ScrapesInOrder (Announce call) = Unit {0}
ScrapesInOrder (Scrape hashes) = IsStrictlySortedBy hash_cmp hashes
ScrapesInOrder Full = Unit {0}

-- not all torrents are asked for at once
abbrev pub IsBounded : HttpPlan → Type 0
IsBounded NotFound = Unit {0}
IsBounded (Refused why) = Unit {0}
IsBounded (Announce call) = Unit {0}
IsBounded (Scrape hashes) = Unit {0}
IsBounded Full = ⊥
