-- Known torrents, and how often they were downloaded.
use Rattle.std.specs.Prelude.{ℕ, ◌+◌, ◌-◌, min, Bool, false, not, ◌&&◌, List, [], ◌∷◌, Option, Some, None, nat_lt, if◌then◌else◌}
use Rattle.std.specs.Option.{option_map}
use Rattle.ot_base.specs.Same.{same_hash}
use Rattle.ot_base.specs.declared.hash.InfoHash.{InfoHash}
use Rattle.ot_base.specs.declared.peer.Held.{Held}
use Rattle.tracker_model.specs.Calls.{is_joining}
use Rattle.tracker_model.specs.Entries.{time_of, is_effective}
use Rattle.tracker_model.specs.Live.{live}
use Rattle.tracker_model.specs.declared.entry.Entry.{Entry}
use Rattle.tracker_model.specs.declared.call.Call.{Call}
use Rattle.tracker_model.specs.declared.call.Call.TheVariants.{Announce, Stop, Scrape, Scan, Clean, Sync, Drain}
use Rattle.tracker_model.specs.declared.limits.TheConstants.{TORRENT_MINUTES}

-- what stands of a torrent: the minute of its last touch, and how often it was downloaded
pub record Standing : Type 0 where
  pub touch : ℕ
  pub downloaded : ℕ

-- whether an entry touches a torrent: an effective announce, or sync that isn't a stop
abbrev pub touches : Entry → InfoHash → Bool
touches x h = is_effective x && is_joining x.call h

-- the bucket's time when a torrent was last touched
abbrev pub touch_of : List Entry → InfoHash → Option ℕ
touch_of [] h = None
touch_of (x ∷ past) h = if touches x h then Some (time_of (x ∷ past)) else touch_of past h

-- whether a touch is less than 1,440 minutes old
abbrev pub is_recent : ℕ → Option ℕ → Bool
is_recent minute None = false
is_recent minute (Some touch) = nat_lt (minute - touch) TORRENT_MINUTES

-- a torrent is known for a day after its last touch
abbrev pub is_known : List Entry → InfoHash → ℕ → Bool
is_known past h minute = is_recent minute (touch_of past h)

-- a live peer that is a seed
abbrev pub is_seed : Option Held → Bool
is_seed None = false
is_seed (Some held) = held.seed

-- whether a call reports that a peer has finished its download of this torrent, which was no live
-- seed before
abbrev pub is_download : Call → InfoHash → List Entry → ℕ → Bool
is_download (Announce hash who seed completed want) h past minute =
    completed && same_hash hash h && not (is_seed (live past h who minute))
is_download (Stop hash who) h past minute = false
is_download (Scrape hash) h past minute = false
is_download Scan h past minute = false
is_download Clean h past minute = false
is_download (Sync hash who mark) h past minute = false
is_download Drain h past minute = false

-- whether an entry counts as a download of a torrent
abbrev pub counts_download : Entry → InfoHash → List Entry → Bool
counts_download x h past = is_effective x && is_download x.call h past (time_of (x ∷ past))

-- how many downloads of a torrent were reported since it is known without a break
abbrev pub downloads : List Entry → InfoHash → ℕ
downloads [] h = 0
downloads (x ∷ past) h =
    (if is_known past h (time_of (x ∷ past)) then downloads past h else 0)
    + (if counts_download x h past then 1 else 0)

-- the same as it is told: it stops at the greatest number of 32 bits
abbrev pub downloaded_of : List Entry → InfoHash → ℕ
downloaded_of past h = min 4294967295 (downloads past h)

-- what stands of a torrent at a minute, if it is known then
abbrev pub if_known : ℕ → Option Standing → Option Standing
if_known minute None = None
if_known minute (Some s) = if nat_lt (minute - s.touch) TORRENT_MINUTES then Some s else None

-- what stands of a torrent at a minute, by the entries
abbrev pub known : List Entry → InfoHash → ℕ → Option Standing
known past h minute =
    if_known minute
    (option_map (λ touch. record { touch = touch; downloaded = downloaded_of past h })
    (touch_of past h))
