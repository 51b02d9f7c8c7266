-- The settings of a bucket.
use Rattle.std.specs.Prelude.{◌≤◌, Bool}
use Rattle.ot_base.specs.declared.peer.Limits.{Limits}

-- its limits, and whether it keeps notes for other nodes
pub record Settings : Type 0 where
  pub limits : Limits
  pub sync : Bool

-- limits that a bucket may have: from 1 to 1,000,000 each
pub record AreLimits (limits : Limits) : Type 0 where
  pub some_peers : 1 ≤ limits.peers
  pub peers : limits.peers ≤ 1000000
  pub some_torrents : 1 ≤ limits.torrents
  pub torrents : limits.torrents ≤ 1000000
