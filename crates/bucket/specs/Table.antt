-- The torrents of a bucket, as contracts see them, and what keeps them.
use Rattle.std.specs.Prelude.{◌≡◌, ℕ, ◌≤◌, true, List, Option, All, length, map, zip}
use Rattle.ot_base.specs.declared.hash.InfoHash.{InfoHash}
use Rattle.ot_base.specs.declared.peer.Limits.{Limits}
use Rattle.tracker_model.specs.Settings.{AreLimits}
use Rattle.tracker_model.specs.Shape.{Torrent, is_known_in}
use Rattle.tracker_model.specs.Stands.{AreTidy}
use Rattle.tracker_model.specs.declared.limits.TheConstants.{TORRENT_MINUTES}
use Rattle.age_ring.specs.Ring.{IsYoung, Ring, items_of}
use Rattle.bucket.specs.Index.{IsIndexed}
use Rattle.bucket.specs.Stored.{IsFit, torrent_by}
use Rattle.bucket.specs.Torrents.{AreWithin}
use Rattle.bucket.specs.declared.stored.Stored.{Stored}

pub record Table : Type 0 where
  pub limits : Limits
  pub time : ℕ
  -- in their order
  pub torrents : List Torrent

-- each torrent by its pair in the ring, and what is stored beside it
abbrev pub torrents_by : List (InfoHash × ℕ) → List Stored → List Torrent
torrents_by pairs list = map (λ s. torrent_by s.0 s.1) (zip pairs list)

-- the hashes and touches of torrents
abbrev pub pairs_of : List Torrent → List (InfoHash × ℕ)
pairs_of torrents = map (λ torrent. (torrent.hash, torrent.touch)) torrents

-- what keeps a table: ring, list and index tell of the same torrents
pub record IsKept (limits : Limits) (ring : Ring InfoHash) (look : InfoHash → Option ℕ)
    (list : List Stored) : Type 0 where
  pub limited : AreLimits limits
  pub indexed : IsIndexed (items_of ring.pairs) look
  pub ages : ring.ages ≡ TORRENT_MINUTES
  pub young : All (IsYoung TORRENT_MINUTES ring.time) ring.pairs
  pub as_many : length list ≡ length ring.pairs
  pub few : length list ≤ limits.torrents
  pub each : All (IsFit limits.peers ring.time) list

-- what holds of every table
pub record IsSound (table : Table) : Type 0 where
  pub limited : AreLimits table.limits
  pub tidy : AreTidy table.torrents
  pub known : All (λ torrent. is_known_in table.time torrent ≡ true) table.torrents
  pub within : AreWithin table.limits table.torrents
