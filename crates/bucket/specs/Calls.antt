-- What the calls do to the torrents of a bucket.
use Rattle.std.specs.Prelude.{◌≡◌, ℕ, Bool, false, true, map, ◌&&◌, ◌==◌, List, ◌∷◌, [], ◌++◌, Option, None, Some, Result, MatchOption, MatchResult, length, is_none, slice_get, slice_set, if◌then◌else◌}
use Rattle.std.specs.List.{AllByRecursion, AllZip}
use Rattle.std.specs.List.Sorted.{IsStrictlySortedBy}
use Rattle.std.specs.Option.{is_some, option_map_or}
use Rattle.std.specs.Set.{is_member}
use Rattle.ot_base.specs.Address.{family_of}
use Rattle.ot_base.specs.Order.{hash_cmp}
use Rattle.ot_base.specs.Same.{same_hash}
use Rattle.ot_base.specs.declared.address.Endpoint.{Endpoint}
use Rattle.ot_base.specs.declared.hash.InfoHash.{InfoHash}
use Rattle.ot_base.specs.declared.peer.Counts.{Counts}
use Rattle.ot_base.specs.declared.peer.Mark.{Mark}
use Rattle.ot_base.specs.declared.peer.Mark.TheVariants.{Leecher, Seed, Stopped}
use Rattle.ot_base.specs.declared.peer.Row.{Row}
use Rattle.tracker_model.specs.Shape.{Torrent, peers_of, held_of, torrent_of}
use Rattle.tracker_model.specs.declared.call.Call.{Call}
use Rattle.tracker_model.specs.declared.call.Call.TheVariants.{Announce}
use Rattle.swarm.specs.Peers.{choice_of}
use Rattle.bucket.specs.Table.{Table, IsSound}
use Rattle.bucket.specs.Torrents.{Freshens, Turns, if_known, is_full_for, new_torrent, of_family, place_of, tally, with_peer, without_peer}
use Rattle.bucket.specs.declared.joining.Joining.{Joining}
use Rattle.bucket.specs.declared.joining.JoinError.{JoinError}
use Rattle.bucket.specs.declared.joining.JoinError.TheVariants.{SwarmFull, BucketFull, NoMemory}

-- the announce by which an endpoint takes part
abbrev pub announce_of : Joining → ℕ → Call
announce_of joining want =
    Announce joining.hash joining.who joining.seed joining.completed want

-- limits and time stay
pub record Stays (old new : Table) : Type 0 where
  pub limits : new.limits ≡ old.limits
  pub time : new.time ≡ old.time
  pub sound : IsSound new

-- the torrents that aren't known at a minute have gone, and no others
pub record Forgets (minute : ℕ) (old new : Table) : Type 0 where
  pub limits : new.limits ≡ old.limits
  pub time : new.time ≡ minute
  pub sound : IsSound new
  pub found : (h : InfoHash) →
      torrent_of new.torrents h ≡ if_known minute (torrent_of old.torrents h)

-- the torrent of a hash stands at a place, and its stale peers have gone, if it is known at all
pub record Opens (minute : ℕ) (hash : InfoHash) (old new : Table) (place : Option ℕ) : Type 0 where
  pub forgotten : Table
  pub forgets : Forgets minute old forgotten
  pub stays : Stays forgotten new
  pub stands : place ≡ place_of hash new.torrents
  pub freshens : MatchOption place (new ≡ forgotten)
      (λ i. Turns i (Freshens minute) forgotten.torrents new.torrents)

-- an endpoint takes part in the torrent at a place, once its stale peers have gone, or nothing else
-- changes: it isn't one of the peers, and the torrent has as many as it may have, or there was no
-- memory
pub record JoinsAt {A : Type 0} (place : ℕ) (joining : Joining) (old new : Table)
    (result : Result A JoinError) : Type 0 where
  pub before : Torrent
  pub torrent : Torrent
  pub stood : slice_get old.torrents place ≡ Some before
  pub freshens : Freshens old.time before torrent
  pub joins :
      let is_new = is_none (held_of (of_family (family_of joining.who.addr) torrent) joining.who) in
      let is_full = length (peers_of torrent) == old.limits.peers in
      MatchResult result
      (λ done. ((is_new && is_full) ≡ false) ×
      (new.torrents ≡ slice_set old.torrents place (with_peer old.time joining torrent)))
      (λ error. (is_new ≡ true) × (new.torrents ≡ slice_set old.torrents place torrent) ×
      (error ≡ (if is_full then SwarmFull else NoMemory)))

-- the torrent in which an endpoint takes part is added, or nothing changes: there are as many
-- torrents as there may be, or there was no memory
abbrev pub Adds : {A : Type 0} → Joining → (old new : Table) → Result A JoinError → Type 0
Adds joining old new result =
    let is_full = length old.torrents == old.limits.torrents in
    MatchResult result
    (λ done. (is_full ≡ false) ×
    (new.torrents ≡
    old.torrents ++ with_peer old.time joining (new_torrent joining.hash) ∷ []))
    (λ error. (new ≡ old) × (error ≡ (if is_full then BucketFull else NoMemory)))

-- an endpoint takes part in the torrent that stands at a place, or in a new one
abbrev pub Joins : {A : Type 0} → Option ℕ → Joining → (old new : Table) → Result A JoinError →
    Type 0
Joins None joining old new result = Adds joining old new result
Joins (Some place) joining old new result = JoinsAt place joining old new result

-- the torrent of a hash is one of which P holds
abbrev pub HasTorrent : Table → InfoHash → (Torrent → Type 0) → Type 0
HasTorrent table hash P = MatchOption (torrent_of table.torrents hash) ⊥ P

-- an announce: the endpoint takes part or is refused, and is told counts and peers as they are
-- afterwards
pub record Announces (minute : ℕ) (joining : Joining) (want : ℕ) (words : List ℕ)
    (old new : Table) (told : List Endpoint) (result : Result Counts JoinError) : Type 0 where
  pub forgotten : Table
  pub forgets : Forgets minute old forgotten
  pub stays : Stays forgotten new
  pub joins : Joins (place_of joining.hash forgotten.torrents) joining forgotten new result
  pub answers : MatchResult result
      (λ counts. HasTorrent new joining.hash (λ torrent. (counts ≡ tally torrent) ×
      (told ≡ choice_of words joining.who want
      (of_family (family_of joining.who.addr) torrent))))
      (λ error. Unit {0})

-- an endpoint takes part or is refused, and is told nothing
pub record TakesPart {A : Type 0} (minute : ℕ) (joining : Joining) (old new : Table)
    (result : Result A JoinError) : Type 0 where
  pub forgotten : Table
  pub forgets : Forgets minute old forgotten
  pub stays : Stays forgotten new
  pub joins : Joins (place_of joining.hash forgotten.torrents) joining forgotten new result

-- one that would take part in the torrent at a place is refused: the torrent has as many peers as
-- it may have, or memory is wanted. Its stale peers have gone, and nothing else changes
pub record RefusedAt (place : ℕ) (who : Endpoint) (old new : Table) (error : JoinError)
    : Type 0 where
  pub before : Torrent
  pub torrent : Torrent
  pub stood : slice_get old.torrents place ≡ Some before
  pub freshens : Freshens old.time before torrent
  pub set : new.torrents ≡ slice_set old.torrents place torrent
  pub meets : error ≡ (if is_full_for old.limits.peers who torrent then SwarmFull else NoMemory)

-- the same in the torrent that stands at a place, or in a new one, where nothing changes
abbrev pub Refused : Option ℕ → Endpoint → (old new : Table) → JoinError → Type 0
Refused None who old new error =
    (new ≡ old)
    × (error ≡ (if length old.torrents == old.limits.torrents then BucketFull else NoMemory))
Refused (Some place) who old new error = RefusedAt place who old new error

-- there is no memory for an announce's note: it is answered what is full, or want of memory
pub record Refuses (minute : ℕ) (hash : InfoHash) (who : Endpoint) (old new : Table)
    (error : JoinError) : Type 0 where
  pub forgotten : Table
  pub forgets : Forgets minute old forgotten
  pub stays : Stays forgotten new
  pub refused : Refused (place_of hash forgotten.torrents) who forgotten new error

-- the counts of a torrent that isn't known
abbrev pub no_counts : Counts
no_counts = record { complete = 0; downloaded = 0; incomplete = 0 }

-- the counts of the torrent of a hash, if it is stored
abbrev pub found_counts : Table → InfoHash → Counts
found_counts table hash = option_map_or tally (torrent_of table.torrents hash) no_counts

-- a stop: the endpoint leaves its torrent, if it takes part in it, and is told the counts
pub record Stops (minute : ℕ) (hash : InfoHash) (who : Endpoint) (old new : Table)
    (counts : Counts) : Type 0 where
  pub opened : Table
  pub place : Option ℕ
  pub opens : Opens minute hash old opened place
  pub stays : Stays opened new
  pub leaves : MatchOption place (new ≡ opened)
      (λ i. Turns i (λ before after. after ≡ without_peer who before)
      opened.torrents new.torrents)
  pub counted : counts ≡ found_counts new hash

-- an endpoint that takes part, as another node says
abbrev pub joining_by : InfoHash → Endpoint → Bool → Joining
joining_by hash who seed = record { hash = hash; who = who; seed = seed; completed = false }

-- another node's note: the endpoint takes part, as by an announce that completes no download, or it
-- leaves its torrent, as by a stop
abbrev pub Applies : {A : Type 0} → ℕ → InfoHash → Endpoint → Mark → (old new : Table) →
    Result A JoinError → Type 0
Applies minute hash who Leecher old new result =
    TakesPart minute (joining_by hash who false) old new result
Applies minute hash who Seed old new result =
    TakesPart minute (joining_by hash who true) old new result
Applies minute hash who Stopped old new result =
    (counts : Counts) × Stops minute hash who old new counts
    × MatchResult result (λ done. Unit {0}) (λ error. ⊥)

-- a scrape: the counts of a torrent, and whether it is known
pub record Scrapes (minute : ℕ) (hash : InfoHash) (old new : Table) (counts : Counts)
    (known : Bool) : Type 0 where
  pub place : Option ℕ
  pub opens : Opens minute hash old new place
  pub counted : counts ≡ found_counts new hash
  pub stored : known ≡ is_some (torrent_of new.torrents hash)

-- each torrent's stale peers have gone, and the torrents that aren't known
pub record Cleans (minute : ℕ) (old new : Table) : Type 0 where
  pub forgotten : Table
  pub forgets : Forgets minute old forgotten
  pub stays : Stays forgotten new
  pub freshens : AllZip (Freshens minute) forgotten.torrents new.torrents

-- the rows of all torrents, which ascend strictly by hash
pub record AreRowsOf (table : Table) (rows : List Row) : Type 0 where
  pub sorted : IsStrictlySortedBy hash_cmp (map (λ row. row.hash) rows)
  pub stored : (h : InfoHash) → is_member same_hash (map (λ row. row.hash) rows) h ≡
      is_some (torrent_of table.torrents h)
  pub counted : AllByRecursion
      (λ row. HasTorrent table row.hash (λ torrent. row.counts ≡ tally torrent)) rows
