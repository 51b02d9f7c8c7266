-- What a right answer is, by what a bucket has stored before and after the call, with no history.
use Rattle.std.specs.Prelude.{◌≡◌, ℕ, min, Bool, true, false, not, ◌&&◌, ◌||◌, ◌==◌, IsTrue, List, [], map, length, is_some}
use Rattle.std.specs.Bool.{MatchBool}
use Rattle.std.specs.List.{list_all, sum_by, AllByRecursion}
use Rattle.std.specs.List.Sorted.{IsStrictlySortedBy}
use Rattle.std.specs.Option.{option_map_or}
use Rattle.std.specs.Set.{is_member, distinct_count}
use Rattle.ot_base.specs.Order.{hash_cmp}
use Rattle.ot_base.specs.Same.{same_hash, same_endpoint}
use Rattle.ot_base.specs.declared.hash.InfoHash.{InfoHash}
use Rattle.ot_base.specs.declared.address.Endpoint.{Endpoint}
use Rattle.ot_base.specs.declared.peer.Mark.TheVariants.{Leecher, Seed, Stopped}
use Rattle.ot_base.specs.declared.peer.Row.{Row}
use Rattle.tracker_model.specs.Calls.{joins}
use Rattle.tracker_model.specs.Counted.{may_be_told}
use Rattle.tracker_model.specs.Right.{IsToldAnd, is_no_memory}
use Rattle.tracker_model.specs.Settings.{Settings}
use Rattle.tracker_model.specs.Shape.{Shape, Torrent, live_in, known_in, count_in, counts_in, known_torrents, live_peers}
use Rattle.tracker_model.specs.declared.answer.Answer.{Answer}
use Rattle.tracker_model.specs.declared.answer.Answer.TheVariants.{Told, Stats, Rows, Cleaned, Applied, Drained, SwarmFull, BucketFull, NoMemory}
use Rattle.tracker_model.specs.declared.call.Call.{Call}
use Rattle.tracker_model.specs.declared.call.Call.TheVariants.{Announce, Stop, Scrape, Scan, Clean, Sync, Drain}

-- whether an endpoint is stored and live
abbrev pub has_live : ℕ → List Torrent → InfoHash → Endpoint → Bool
has_live minute stored h e = is_some (live_in minute stored h e)

-- whether a torrent is stored and known
abbrev pub has_known : ℕ → List Torrent → InfoHash → Bool
has_known minute stored h = is_some (known_in minute stored h)

-- whether a call meets a full swarm, by what is stored before it
abbrev pub meets_full_swarm : Settings → ℕ → List Torrent → Call → Bool
meets_full_swarm g minute stored call =
    option_map_or
    (λ s. not (has_live minute stored s.0 s.1) && has_known minute stored s.0 &&
    (count_in is_some minute stored s.0 == g.limits.peers))
    (joins call) false

-- whether a call meets a full bucket, by what is stored before it
abbrev pub meets_full_bucket : Settings → ℕ → List Torrent → Call → Bool
meets_full_bucket g minute stored call =
    option_map_or
    (λ s. not (has_known minute stored s.0) &&
    (length (known_torrents minute stored) == g.limits.torrents))
    (joins call) false

-- whether a call may want memory, by what is stored before it
abbrev pub could_want : Settings → ℕ → List Torrent → Call → Bool
could_want g minute stored (Announce h who seed completed want) =
    g.sync || not (has_live minute stored h who)
could_want g minute stored (Stop h who) = g.sync
could_want g minute stored (Scrape h) = false
could_want g minute stored Scan = true
could_want g minute stored Clean = false
could_want g minute stored (Sync h who Leecher) = not (has_live minute stored h who)
could_want g minute stored (Sync h who Seed) = not (has_live minute stored h who)
could_want g minute stored (Sync h who Stopped) = false
could_want g minute stored Drain = false

-- peers are fair by what is stored after the call
pub record IsDrawn (minute : ℕ) (stored : List Torrent) (h : InfoHash) (asker : Endpoint)
    (want : ℕ) (peers : List Endpoint) : Type 0 where
  pub distinct : distinct_count same_endpoint peers ≡ length peers
  pub drawn : IsTrue (list_all (λ e. may_be_told asker (live_in minute stored h e)) peers)
  pub as_many : length peers ≡ min want (count_in (may_be_told asker) minute stored h)

-- rows that ascend strictly by hash, of the stored torrents that are known, each with its counts
pub record AreRows (minute : ℕ) (stored : List Torrent) (rows : List Row) : Type 0 where
  pub sorted : IsStrictlySortedBy hash_cmp (map (λ row. row.hash) rows)
  pub known : (h : InfoHash) → is_member same_hash (map (λ row. row.hash) rows) h ≡
      has_known minute stored h
  pub counted : AllByRecursion (λ row. row.counts ≡ counts_in minute stored row.hash) rows

-- the answer has rows of which P holds
abbrev pub IsRowsAnd : Answer → (List Row → Type 0) → Type 0
IsRowsAnd (Told counts peers) P = ⊥
IsRowsAnd (Stats counts known) P = ⊥
IsRowsAnd (Rows rows) P = P rows
IsRowsAnd (Cleaned held) P = ⊥
IsRowsAnd Applied P = ⊥
IsRowsAnd (Drained notes dropped) P = ⊥
IsRowsAnd (SwarmFull count) P = ⊥
IsRowsAnd (BucketFull count) P = ⊥
IsRowsAnd NoMemory P = ⊥

-- the answer to a call that takes effect, by the bucket before and after it
abbrev pub AnswersFor : (old new : Shape) → Call → Answer → Type 0
AnswersFor old new (Announce h who seed completed want) a =
    IsToldAnd a
    (λ counts peers. (counts ≡ counts_in new.time new.torrents h) ×
    IsDrawn new.time new.torrents h who want peers)
AnswersFor old new (Stop h who) a = a ≡ Told (counts_in new.time new.torrents h) []
AnswersFor old new (Scrape h) a =
    a ≡ Stats (counts_in new.time new.torrents h) (has_known new.time new.torrents h)
AnswersFor old new Scan a = IsRowsAnd a (λ rows. AreRows new.time new.torrents rows)
AnswersFor old new Clean a =
    a ≡ Cleaned (sum_by (λ torrent. length (live_peers new.time torrent)) new.torrents)
AnswersFor old new (Sync h who mark) a = a ≡ Applied
AnswersFor old new Drain a = a ≡ Drained old.notes old.dropped

-- an answer is right by the bucket before and after the call: full exactly where it has to be; else
-- want of memory where that may come, and any other answer as the call asks
abbrev pub IsRightFor : (old new : Shape) → Call → Answer → Type 0
IsRightFor old new call a =
    MatchBool (meets_full_swarm old.settings new.time old.torrents call)
    (a ≡ SwarmFull old.settings.limits.peers)
    (MatchBool (meets_full_bucket old.settings new.time old.torrents call)
    (a ≡ BucketFull old.settings.limits.torrents)
    (MatchBool (is_no_memory a) (IsTrue (could_want old.settings new.time old.torrents call))
    (AnswersFor old new call a)))
