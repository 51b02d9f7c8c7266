-- What calls are about.
use Rattle.std.specs.Prelude.{◌≡◌, ◌≢◌, ◌≤◌, Bool, true, false, ◌&&◌, Option, Some, None}
use Rattle.std.specs.Option.{option_map_or}
use Rattle.ot_base.specs.Address.{family_of}
use Rattle.ot_base.specs.Same.{same_hash, same_endpoint}
use Rattle.ot_base.specs.declared.hash.InfoHash.{InfoHash}
use Rattle.ot_base.specs.declared.address.Endpoint.{Endpoint}
use Rattle.ot_base.specs.declared.address.Family.TheVariants.{Four}
use Rattle.ot_base.specs.declared.peer.Mark.{Mark}
use Rattle.ot_base.specs.declared.peer.Mark.TheVariants.{Leecher, Seed, Stopped}
use Rattle.tracker_model.specs.declared.call.Call.{Call}
use Rattle.tracker_model.specs.declared.call.Call.TheVariants.{Announce, Stop, Scrape, Scan, Clean, Sync, Drain}
use Rattle.tracker_model.specs.declared.limits.TheConstants.{WANTED_PEERS}

-- an endpoint that a peer can have: its port isn't 0, and for now its address is of IPv4
abbrev pub IsPeer : Endpoint → Type 0
IsPeer who = (who.port ≢ 0) × (family_of who.addr ≡ Four)

-- a call as clients and nodes may make it: the endpoint that it names can be a peer's, only a seed
-- has completed its download, and at most 200 peers are wanted
abbrev pub IsWellFormed : Call → Type 0
IsWellFormed (Announce h who seed completed want) =
    (completed ≡ true → seed ≡ true) × (want ≤ WANTED_PEERS) × IsPeer who
IsWellFormed (Stop h who) = IsPeer who
IsWellFormed (Scrape h) = Unit {0}
IsWellFormed Scan = Unit {0}
IsWellFormed Clean = Unit {0}
IsWellFormed (Sync h who mark) = IsPeer who
IsWellFormed Drain = Unit {0}

-- whether a call names a torrent
abbrev pub names_torrent : Call → Bool
names_torrent (Announce h who seed completed want) = true
names_torrent (Stop h who) = true
names_torrent (Scrape h) = true
names_torrent Scan = false
names_torrent Clean = false
names_torrent (Sync h who mark) = true
names_torrent Drain = false

-- an announce or a stop
abbrev pub IsReport : Call → Type 0
IsReport (Announce hash who seed completed want) = Unit {0}
IsReport (Stop hash who) = Unit {0}
IsReport (Scrape hash) = ⊥
IsReport Scan = ⊥
IsReport Clean = ⊥
IsReport (Sync hash who mark) = ⊥
IsReport Drain = ⊥

-- the torrent and the endpoint that a call reports on
abbrev pub subject : Call → Option (InfoHash × Endpoint)
subject (Announce h who seed completed want) = Some (h, who)
subject (Stop h who) = Some (h, who)
subject (Scrape h) = None
subject Scan = None
subject Clean = None
subject (Sync h who mark) = Some (h, who)
subject Drain = None

-- the same of the calls that report that the endpoint takes part: an announce, and a sync that
-- isn't a stop
abbrev pub joins : Call → Option (InfoHash × Endpoint)
joins (Announce h who seed completed want) = Some (h, who)
joins (Stop h who) = None
joins (Scrape h) = None
joins Scan = None
joins Clean = None
joins (Sync h who Leecher) = Some (h, who)
joins (Sync h who Seed) = Some (h, who)
joins (Sync h who Stopped) = None
joins Drain = None

-- what a call says of the endpoint that it reports on: nothing, that it has stopped, or that it
-- takes part, as a seed or not
pub data Word : Type 0 where
  silent : Word
  gone : Word
  here : Bool → Word

-- the word of a mark
abbrev pub mark_word : Mark → Word
mark_word Leecher = here false
mark_word Seed = here true
mark_word Stopped = gone

-- the word of a call: an announce says its seed flag, a stop that the endpoint is gone, and a sync
-- its mark
abbrev pub call_word : Call → Word
call_word (Announce h who seed completed want) = here seed
call_word (Stop h who) = gone
call_word (Scrape h) = silent
call_word Scan = silent
call_word Clean = silent
call_word (Sync h who mark) = mark_word mark
call_word Drain = silent

-- whether a call reports on this endpoint of this torrent
abbrev pub is_about : Call → InfoHash → Endpoint → Bool
is_about call h e = option_map_or (λ s. same_hash s.0 h && same_endpoint s.1 e) (subject call) false

-- whether a call reports that an endpoint takes part in this torrent
abbrev pub is_joining : Call → InfoHash → Bool
is_joining call h = option_map_or (λ s. same_hash s.0 h) (joins call) false
