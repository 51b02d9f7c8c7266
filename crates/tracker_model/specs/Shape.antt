-- What a bucket is seen as.
use Rattle.std.specs.Prelude.{ℕ, ◌-◌, Bool, ◌++◌, List, [], Option, Some, None, length, nat_lt, is_some}
use Rattle.std.specs.List.{find, filter}
use Rattle.std.specs.Option.{option_map, option_map_or}
use Rattle.ot_base.specs.Same.{same_hash, same_endpoint}
use Rattle.ot_base.specs.declared.hash.InfoHash.{InfoHash}
use Rattle.ot_base.specs.declared.address.Endpoint.{Endpoint}
use Rattle.ot_base.specs.declared.peer.Counts.{Counts}
use Rattle.ot_base.specs.declared.peer.Held.{Held}
use Rattle.ot_base.specs.declared.peer.Note.{Note}
use Rattle.tracker_model.specs.Counted.{is_leecher}
use Rattle.tracker_model.specs.Known.{Standing, if_known, is_seed}
use Rattle.tracker_model.specs.Live.{if_live}
use Rattle.tracker_model.specs.Settings.{Settings}
use Rattle.tracker_model.specs.declared.limits.TheConstants.{TORRENT_MINUTES}

-- a stored torrent: its hash, the minute of its last touch, its downloads, and its stored peers,
-- those with an IPv4 address and those with an IPv6 address, each in the bucket's order
pub record Torrent : Type 0 where
  pub hash : InfoHash
  pub touch : ℕ
  pub downloaded : ℕ
  pub fours : List Held
  pub sixes : List Held

-- a bucket: its settings, its time, its stored torrents, the notes in its outbox, and how many it
-- dropped
pub record Shape : Type 0 where
  pub settings : Settings
  pub time : ℕ
  pub torrents : List Torrent
  pub notes : List Note
  pub dropped : ℕ

-- all stored peers of a torrent
abbrev pub peers_of : Torrent → List Held
peers_of torrent = torrent.fours ++ torrent.sixes

-- the stored torrent of a hash
abbrev pub torrent_of : List Torrent → InfoHash → Option Torrent
torrent_of torrents h = find (λ torrent. same_hash h torrent.hash) torrents

-- the stored peer of an endpoint
abbrev pub held_of : List Held → Endpoint → Option Held
held_of peers e = find (λ held. same_endpoint e held.who) peers

-- all stored peers of the torrent of a hash
abbrev pub stored_peers : List Torrent → InfoHash → List Held
stored_peers torrents h = option_map_or peers_of (torrent_of torrents h) []

-- the stored peer of an endpoint in the torrent of a hash
abbrev pub peer_of : List Torrent → InfoHash → Endpoint → Option Held
peer_of torrents h e = held_of (stored_peers torrents h) e

-- touch and downloads of the stored torrent of a hash
abbrev pub standing_of : List Torrent → InfoHash → Option Standing
standing_of torrents h =
    option_map (λ torrent. record { touch = torrent.touch; downloaded = torrent.downloaded })
    (torrent_of torrents h)

-- what is live at a minute of the stored peer
abbrev pub live_in : ℕ → List Torrent → InfoHash → Endpoint → Option Held
live_in minute torrents h e = if_live minute (peer_of torrents h e)

-- what is known at a minute of the stored torrent
abbrev pub known_in : ℕ → List Torrent → InfoHash → Option Standing
known_in minute torrents h = if_known minute (standing_of torrents h)

-- how many stored peers of the torrent of a hash pass a test of what is live of them at a minute
abbrev pub count_in : (Option Held → Bool) → ℕ → List Torrent → InfoHash → ℕ
count_in test minute torrents h =
    length (filter (λ held. test (if_live minute (Some held))) (stored_peers torrents h))

-- whether a stored torrent is known at a minute
abbrev pub is_known_in : ℕ → Torrent → Bool
is_known_in minute torrent = nat_lt (minute - torrent.touch) TORRENT_MINUTES

-- the stored torrents that are known at a minute
abbrev pub known_torrents : ℕ → List Torrent → List Torrent
known_torrents minute torrents = filter (is_known_in minute) torrents

-- whether a stored peer is live at a minute
abbrev pub is_live_in : ℕ → Held → Bool
is_live_in minute held = is_some (if_live minute (Some held))

-- the stored peers of a torrent that are live at a minute
abbrev pub live_peers : ℕ → Torrent → List Held
live_peers minute torrent = filter (is_live_in minute) (peers_of torrent)

-- the downloads of what is known
abbrev pub downloads_in : Option Standing → ℕ
downloads_in None = 0
downloads_in (Some s) = s.downloaded

-- the counts of the stored torrent of a hash, by what is live and known of it at a minute
abbrev pub counts_in : ℕ → List Torrent → InfoHash → Counts
counts_in minute torrents h = record {
  complete = count_in is_seed minute torrents h;
  downloaded = downloads_in (known_in minute torrents h);
  incomplete = count_in is_leecher minute torrents h;
}
