-- Stored torrents, one by one.
use Rattle.std.specs.Prelude.{◌≡◌, ℕ, ◌≤◌, true, not, ◌&&◌, ◌==◌, Bool, List, [], Option, Some, None, All, if◌then◌else◌, is_none, length, position, slice_get, slice_set, sum_by}
use Rattle.ot_base.specs.Address.{family_of}
use Rattle.ot_base.specs.Same.{same_hash}
use Rattle.ot_base.specs.declared.address.Endpoint.{Endpoint}
use Rattle.ot_base.specs.declared.address.Family.{Family}
use Rattle.ot_base.specs.declared.address.Family.TheVariants.{Four, Six}
use Rattle.ot_base.specs.declared.hash.InfoHash.{InfoHash}
use Rattle.ot_base.specs.declared.peer.Counts.{Counts}
use Rattle.ot_base.specs.declared.peer.Held.{Held}
use Rattle.ot_base.specs.declared.peer.Limits.{Limits}
use Rattle.tracker_model.specs.Known.{is_seed}
use Rattle.tracker_model.specs.Shape.{Torrent, peers_of, held_of, is_known_in}
use Rattle.tracker_model.specs.Steps.{one_more}
use Rattle.swarm.specs.Members.{Expires}
use Rattle.swarm.specs.Peers.{is_young, other_one, put_peer, seed_one}
use Rattle.swarm.specs.Peers as peers
use Rattle.bucket.specs.declared.joining.Joining.{Joining}

-- where the torrent of a hash stands
abbrev pub place_of : InfoHash → List Torrent → Option ℕ
place_of hash torrents = position (λ torrent. same_hash hash torrent.hash) torrents

-- a torrent, if it is known at a minute
abbrev pub if_known : ℕ → Option Torrent → Option Torrent
if_known minute None = None
if_known minute (Some torrent) = if is_known_in minute torrent then Some torrent else None

-- a torrent of which nothing has been heard
abbrev pub new_torrent : InfoHash → Torrent
new_torrent hash = record { hash = hash; touch = 0; downloaded = 0; fours = []; sixes = [] }

-- its peers of one family
abbrev pub of_family : Family → Torrent → List Held
of_family Four torrent = torrent.fours
of_family Six torrent = torrent.sixes

-- with other peers of one family
abbrev pub with_family : Family → List Held → Torrent → Torrent
with_family Four peers torrent = record torrent { fours = peers }
with_family Six peers torrent = record torrent { sixes = peers }

-- a torrent once an endpoint takes part in it at a minute: the endpoint is put among the peers of
-- its family, and a completed download is counted, unless it was a seed
abbrev pub with_peer : ℕ → Joining → Torrent → Torrent
with_peer minute joining torrent =
    let family = family_of joining.who.addr in
    let peers = of_family family torrent in
    let held : Held =
    record { who = joining.who; seed = joining.seed; stamp = record { 0 = minute } } in
    with_family family (put_peer held peers)
    (record torrent {
      touch = minute;
      downloaded = one_more
          (joining.completed && not (is_seed (held_of peers joining.who)))
          torrent.downloaded;
    })

-- a torrent without the peer of an endpoint
abbrev pub without_peer : Endpoint → Torrent → Torrent
without_peer who torrent =
    let family = family_of who.addr in
    with_family family (peers.without_peer who (of_family family torrent)) torrent

-- a torrent's peers at a minute: those that aren't young then have gone, and no others, and where
-- none has gone the order stays
pub record Freshens (minute : ℕ) (old new : Torrent) : Type 0 where
  pub hash : new.hash ≡ old.hash
  pub touch : new.touch ≡ old.touch
  pub downloaded : new.downloaded ≡ old.downloaded
  pub fours : Expires minute old.fours new.fours
  pub sixes : Expires minute old.sixes new.sixes
  pub young_fours : All (λ peer. is_young minute peer ≡ true) new.fours
  pub young_sixes : All (λ peer. is_young minute peer ≡ true) new.sixes

-- the torrent at a place has become another one
pub record Turns (place : ℕ) (Into : (old new : Torrent) → Type 0) (old new : List Torrent)
    : Type 0 where
  pub before : Torrent
  pub after : Torrent
  pub stood : slice_get old place ≡ Some before
  pub turned : Into before after
  pub set : new ≡ slice_set old place after

-- a torrent's counts, over all of its peers
abbrev pub tally : Torrent → Counts
tally torrent = record {
  complete = sum_by seed_one (peers_of torrent);
  downloaded = torrent.downloaded;
  incomplete = sum_by other_one (peers_of torrent);
}

-- no more torrents, and no more peers in each, than a bucket holds
pub record AreWithin (limits : Limits) (torrents : List Torrent) : Type 0 where
  pub few : length torrents ≤ limits.torrents
  pub each : All (λ torrent. length (peers_of torrent) ≤ limits.peers) torrents

-- whether an endpoint isn't one of a torrent's peers, and these are as many as there may be
abbrev pub is_full_for : ℕ → Endpoint → Torrent → Bool
is_full_for limit who torrent =
    is_none (held_of (of_family (family_of who.addr) torrent) who)
    && (length (peers_of torrent) == limit)
