-- Live peers.
use Rattle.std.specs.Prelude.{ℕ, ◌-◌, Bool, List, Option, Some, None, nat_lt, is_some, if◌then◌else◌}
use Rattle.ot_base.specs.declared.hash.InfoHash.{InfoHash}
use Rattle.ot_base.specs.declared.address.Endpoint.{Endpoint}
use Rattle.ot_base.specs.declared.peer.Held.{Held}
use Rattle.tracker_model.specs.Entries.{last_word}
use Rattle.tracker_model.specs.declared.entry.Entry.{Entry}
use Rattle.tracker_model.specs.declared.limits.TheConstants.{PEER_MINUTES}

-- what stands of a peer at a minute, if its age is below 45 minutes then
abbrev pub if_live : ℕ → Option Held → Option Held
if_live minute None = None
if_live minute (Some held) = if nat_lt (minute - held.stamp.0) PEER_MINUTES then Some held else None

-- the live peer that an endpoint is in a torrent at a minute, if it is one
abbrev pub live : List Entry → InfoHash → Endpoint → ℕ → Option Held
live past h e minute = if_live minute (last_word past h e)

-- whether an endpoint is live in a torrent at a minute
abbrev pub is_live : List Entry → InfoHash → Endpoint → ℕ → Bool
is_live past h e minute = is_some (live past h e minute)
