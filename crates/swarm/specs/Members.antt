-- The peers of one family, and what keeps them.
use Rattle.std.specs.Prelude.{◌≡◌, ℕ, ◌≤◌, Bool, true, false, List, ◌++◌, Option}
use Rattle.std.specs.Prelude.{All, length, map, sum_by}
use Rattle.std.specs.List.{IsDistinct}
use Rattle.std.specs.List.Sorted.{IsPermutation}
use Rattle.ot_base.specs.Same.{same_endpoint}
use Rattle.ot_base.specs.declared.address.Endpoint.{Endpoint}
use Rattle.ot_base.specs.declared.peer.Held.{Held}
use Rattle.age_ring.specs.Ring.{Ring, items_of}
use Rattle.swarm.specs.Index.{IsIndexed, seed_of}
use Rattle.swarm.specs.Peers.{endpoints_of, is_young, seed_one}
use Rattle.swarm.specs.declared.index.Place.{Place}
use Rattle.swarm.specs.declared.members.TheConstants.{PEER_AGES, MOST_PEERS}

-- the peers of one family in their order, and the time
pub record HeldAt : Type 0 where
  pub peers : List Held
  pub time : ℕ

-- a peer by its pair in the ring, with the index's word on whether it is a seed
abbrev pub held_by : (Endpoint → Option Place) → Endpoint × ℕ → Held
held_by look pair =
    record { who = pair.0; seed = seed_of (look pair.0); stamp = record { 0 = pair.1 } }

abbrev pub peers_by : (Endpoint → Option Place) → List (Endpoint × ℕ) → List Held
peers_by look pairs = map (held_by look) pairs

abbrev pub flags_of : List Held → List Bool
flags_of peers = map (λ peer. peer.seed) peers

-- what keeps the peers of one family
pub record AreKept (ring : Ring Endpoint) (look : Endpoint → Option Place) (flags : List Bool)
    (seeds : ℕ) : Type 0 where
  pub indexed : IsIndexed (items_of ring.pairs) look
  pub ages : ring.ages ≡ PEER_AGES
  pub few : length ring.pairs ≤ MOST_PEERS
  pub flagged : flags ≡ flags_of (peers_by look ring.pairs)
  pub seeds_counted : seeds ≡ sum_by seed_one (peers_by look ring.pairs)

-- the ring's time and ages are the same
pub record KeepsClock (old new : Ring Endpoint) : Type 0 where
  pub time : new.time ≡ old.time
  pub ages : new.ages ≡ old.ages

-- peers went that weren't young at a time, and no other: the order changes only where one went
pub record Expires (time : ℕ) (old new : List Held) : Type 0 where
  pub gone : List Held
  pub moves : IsPermutation old (gone ++ new)
  pub due : All (λ peer. is_young time peer ≡ false) gone
  pub still : length new ≡ length old → new ≡ old

-- no endpoint stands twice, and each was heard of by now, and not too long ago
pub record AreOrderly (time : ℕ) (peers : List Held) : Type 0 where
  pub distinct : IsDistinct same_endpoint (endpoints_of peers)
  pub past : All (λ peer. peer.stamp.0 ≤ time) peers
  pub young : All (λ peer. is_young time peer ≡ true) peers
