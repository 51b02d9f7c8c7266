-- What a right answer is.
use Rattle.std.specs.Prelude.{◌≡◌, ℕ, min, Bool, true, false, not, ◌&&◌, ◌||◌, ◌==◌, IsTrue, List, [], ◌∷◌, length}
use Rattle.std.specs.Bool.{MatchBool}
use Rattle.std.specs.List.{list_all}
use Rattle.std.specs.Set.{distinct_count}
use Rattle.std.specs.Option.{option_map_or}
use Rattle.ot_base.specs.Same.{same_endpoint}
use Rattle.ot_base.specs.declared.hash.InfoHash.{InfoHash}
use Rattle.ot_base.specs.declared.address.Endpoint.{Endpoint}
use Rattle.ot_base.specs.declared.peer.Counts.{Counts}
use Rattle.tracker_model.specs.Calls.{joins}
use Rattle.tracker_model.specs.Counted.{counts_of, how_many, may_be_told, swarm_size, known_count, rows_of, live_count}
use Rattle.tracker_model.specs.Entries.{time_of}
use Rattle.tracker_model.specs.Known.{is_known}
use Rattle.tracker_model.specs.Live.{live, is_live}
use Rattle.tracker_model.specs.Outbox.{outbox_notes, outbox_dropped}
use Rattle.tracker_model.specs.Settings.{Settings}
use Rattle.tracker_model.specs.declared.entry.Entry.{Entry}
use Rattle.tracker_model.specs.declared.answer.Answer.{Answer}
use Rattle.tracker_model.specs.declared.answer.Answer.TheVariants.{Told, Stats, Rows, Cleaned, Applied, Drained, SwarmFull, BucketFull, NoMemory}
use Rattle.tracker_model.specs.declared.call.Call.{Call}
use Rattle.tracker_model.specs.declared.call.Call.TheVariants.{Announce, Stop, Scrape, Scan, Clean, Sync, Drain}
use Rattle.ot_base.specs.declared.peer.Mark.TheVariants.{Leecher, Seed, Stopped}

-- a call meets a full swarm where it brings an endpoint that isn't live to a known torrent that has
-- as many live peers as it may have
abbrev pub is_swarm_full : Settings → List Entry → ℕ → Call → Bool
is_swarm_full g past minute call =
    option_map_or
    (λ s. not (is_live past s.0 s.1 minute) && is_known past s.0 minute &&
    (swarm_size past s.0 minute == g.limits.peers))
    (joins call) false

-- a call meets a full bucket where it brings an endpoint to a torrent that isn't known, and as many
-- are known as may be
abbrev pub is_bucket_full : Settings → List Entry → ℕ → Call → Bool
is_bucket_full g past minute call =
    option_map_or
    (λ s. not (is_known past s.0 minute) && (known_count past minute == g.limits.torrents))
    (joins call) false

-- the calls that may want memory: a scan, one that brings an endpoint that isn't live, and where
-- sync is on those that make a note
abbrev pub may_want : Settings → List Entry → ℕ → Call → Bool
may_want g past minute (Announce h who seed completed want) =
    g.sync || not (is_live past h who minute)
may_want g past minute (Stop h who) = g.sync
may_want g past minute (Scrape h) = false
may_want g past minute Scan = true
may_want g past minute Clean = false
may_want g past minute (Sync h who Leecher) = not (is_live past h who minute)
may_want g past minute (Sync h who Seed) = not (is_live past h who minute)
may_want g past minute (Sync h who Stopped) = false
may_want g past minute Drain = false

-- peers told to an asker: no endpoint twice, each one that may be told, and as many as are wanted,
-- or all
pub record IsFair (now : List Entry) (h : InfoHash) (asker : Endpoint) (want : ℕ)
    (peers : List Endpoint) : Type 0 where
  pub distinct : distinct_count same_endpoint peers ≡ length peers
  pub drawn : IsTrue (list_all (λ e. may_be_told asker (live now h e (time_of now))) peers)
  pub as_many : length peers ≡ min want (how_many (may_be_told asker) now h (time_of now))

-- the answer tells counts and peers of which P holds
abbrev pub IsToldAnd : Answer → (Counts → List Endpoint → Type 0) → Type 0
IsToldAnd (Told counts peers) P = P counts peers
IsToldAnd (Stats counts known) P = ⊥
IsToldAnd (Rows rows) P = ⊥
IsToldAnd (Cleaned held) P = ⊥
IsToldAnd Applied P = ⊥
IsToldAnd (Drained notes dropped) P = ⊥
IsToldAnd (SwarmFull count) P = ⊥
IsToldAnd (BucketFull count) P = ⊥
IsToldAnd NoMemory P = ⊥

-- the answer to a call that takes effect: past are the entries before it, now those with it
abbrev pub Answers : Settings → (past now : List Entry) → Call → Answer → Type 0
Answers g past now (Announce h who seed completed want) a =
    IsToldAnd a (λ counts peers. (counts ≡ counts_of now h) × IsFair now h who want peers)
Answers g past now (Stop h who) a = a ≡ Told (counts_of now h) []
Answers g past now (Scrape h) a = a ≡ Stats (counts_of now h) (is_known now h (time_of now))
Answers g past now Scan a = a ≡ Rows (rows_of now)
Answers g past now Clean a = a ≡ Cleaned (live_count now)
Answers g past now (Sync h who mark) a = a ≡ Applied
Answers g past now Drain a = a ≡ Drained (outbox_notes g past) (outbox_dropped g past)

-- whether an answer is want of memory
abbrev pub is_no_memory : Answer → Bool
is_no_memory (Told counts peers) = false
is_no_memory (Stats counts known) = false
is_no_memory (Rows rows) = false
is_no_memory (Cleaned held) = false
is_no_memory Applied = false
is_no_memory (Drained notes dropped) = false
is_no_memory (SwarmFull count) = false
is_no_memory (BucketFull count) = false
is_no_memory NoMemory = true

-- an entry's answer is right after the entries before it, of which the newest stands first: it is
-- full exactly where it has to be; else it may be want of memory, where that may come, and any
-- other answer is as the call asks
abbrev pub IsRightAfterPast : Settings → List Entry → Entry → Type 0
IsRightAfterPast g past x =
    let minute = time_of (x ∷ past) in
    MatchBool (is_swarm_full g past minute x.call) (x.answer ≡ SwarmFull g.limits.peers)
    (MatchBool (is_bucket_full g past minute x.call) (x.answer ≡ BucketFull g.limits.torrents)
    (MatchBool (is_no_memory x.answer) (IsTrue (may_want g past minute x.call))
    (Answers g past (x ∷ past) x.call x.answer)))
