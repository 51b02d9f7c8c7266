-- What is stored of one torrent beside its hash and its touch.
use Rattle.std.specs.Prelude.{◌≡◌, ℕ, ◌≤◌, ◌==◌, true, false, not, ◌&&◌, Bool, [], All, Result, MatchResult, find, is_none, if◌then◌else◌}
use Rattle.std.specs.List.{IsDistinct}
use Rattle.ot_base.specs.Address.{family_of}
use Rattle.ot_base.specs.Same.{same_endpoint}
use Rattle.ot_base.specs.declared.address.Family.TheVariants.{Four, Six}
use Rattle.ot_base.specs.declared.hash.InfoHash.{InfoHash}
use Rattle.ot_base.specs.declared.peer.Held.{Held}
use Rattle.tracker_model.specs.Known.{is_seed}
use Rattle.tracker_model.specs.Shape.{Torrent}
use Rattle.tracker_model.specs.Steps.{one_more}
use Rattle.swarm.specs.Members.{Expires}
use Rattle.swarm.specs.Peers.{endpoints_of, is_of, is_young, put_peer}
use Rattle.swarm.specs.Shape.{AreOf, Shape, of_family, peer_count, with_family}
use Rattle.swarm.specs.declared.members.Put.{Put}
use Rattle.swarm.specs.declared.members.Put.TheVariants.{Fresh, Again}
use Rattle.bucket.specs.declared.joining.JoinError.{JoinError}
use Rattle.bucket.specs.declared.joining.JoinError.TheVariants.{SwarmFull, NoMemory}
use Rattle.bucket.specs.declared.joining.Joining.{Joining}
use Rattle.bucket.specs.declared.stored.Stored.{Stored}

-- a torrent by its hash and its touch, and what is stored of it beside them
abbrev pub torrent_by : InfoHash × ℕ → Stored → Torrent
torrent_by pair stored = record {
  hash = pair.0;
  touch = pair.1;
  downloaded = stored.downloaded;
  fours = stored.swarm.fours;
  sixes = stored.swarm.sixes;
}

-- whether the endpoint that was put was a seed before
abbrev pub stood_as_seed : Put → Bool
stood_as_seed Fresh = false
stood_as_seed (Again seed) = seed

-- the time moves on: the peers that aren't young then go, and no others
pub record PassesTo (minute : ℕ) (old new : Stored) : Type 0 where
  pub downloaded : new.downloaded ≡ old.downloaded
  pub time : new.swarm.time ≡ minute
  pub fours : Expires minute old.swarm.fours new.swarm.fours
  pub sixes : Expires minute old.swarm.sixes new.swarm.sixes
  pub young_fours : All (λ peer. is_young minute peer ≡ true) new.swarm.fours
  pub young_sixes : All (λ peer. is_young minute peer ≡ true) new.swarm.sixes

-- no peer and no download, at a minute
abbrev pub empty_stored : ℕ → Stored
empty_stored minute =
    record { downloaded = 0; swarm = record { fours = []; sixes = []; time = minute } }

-- an endpoint takes part at the swarm's time: it is put among the peers of its family, and a
-- completed download is counted, unless it was a seed
abbrev pub put_stored : Joining → Stored → Stored
put_stored joining stored =
    let family = family_of joining.who.addr in
    let peers = of_family family stored.swarm in
    let held : Held = record {
      who = joining.who;
      seed = joining.seed;
      stamp = record { 0 = stored.swarm.time };
    } in
    record {
      downloaded = one_more
          (joining.completed && not (is_seed (find (is_of joining.who) peers)))
          stored.downloaded;
      swarm = with_family family stored.swarm (put_peer held peers);
    }

-- an endpoint takes part at a minute, once the stale peers have gone, or nothing else changes: it
-- isn't one of the peers, and there are as many as there may be, or there was no memory
pub record JoinsStored {A : Type 0} (limit minute : ℕ) (joining : Joining) (old new : Stored)
    (result : Result A JoinError) : Type 0 where
  pub fresh : Stored
  pub passes : PassesTo minute old fresh
  pub joins :
      let peers = of_family (family_of joining.who.addr) fresh.swarm in
      let is_new = is_none (find (is_of joining.who) peers) in
      let is_full = peer_count fresh.swarm == limit in
      MatchResult result
      (λ done. ((is_new && is_full) ≡ false) × (new ≡ put_stored joining fresh))
      (λ error. (is_new ≡ true) × (new ≡ fresh) ×
      (error ≡ (if is_full then SwarmFull else NoMemory)))

-- what holds of the peers of every swarm: each is in the list of its family, and no endpoint stands
-- twice
pub record IsTidySwarm (swarm : Shape) : Type 0 where
  pub four : AreOf Four swarm.fours
  pub six : AreOf Six swarm.sixes
  pub fours : IsDistinct same_endpoint (endpoints_of swarm.fours)
  pub sixes : IsDistinct same_endpoint (endpoints_of swarm.sixes)

-- what holds of each torrent that a bucket stores
pub record IsFit (limit time : ℕ) (stored : Stored) : Type 0 where
  pub past : stored.swarm.time ≤ time
  pub few : peer_count stored.swarm ≤ limit
  pub tidy : IsTidySwarm stored.swarm
