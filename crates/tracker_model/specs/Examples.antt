-- Words for the worked examples: torrents, peers, entries, calls on buckets, settings and buckets.
use Rattle.std.specs.Prelude.{ℕ, Bool, true, false, List, [], ◌∷◌, ◌++◌, replicate}
use Rattle.ot_base.specs.declared.hash.InfoHash.{InfoHash}
use Rattle.ot_base.specs.declared.address.Addr.TheVariants.{V4, V6}
use Rattle.ot_base.specs.declared.address.Endpoint.{Endpoint}
use Rattle.ot_base.specs.declared.peer.Counts.{Counts}
use Rattle.ot_base.specs.declared.peer.Mark.{Mark}
use Rattle.ot_base.specs.declared.peer.Note.{Note}
use Rattle.ot_base.specs.declared.peer.Row.{Row}
use Rattle.tracker_model.specs.Grows.{Move}
use Rattle.tracker_model.specs.Settings.{Settings}
use Rattle.tracker_model.specs.Shape.{Shape, Torrent}
use Rattle.tracker_model.specs.declared.answer.Answer.{Answer}
use Rattle.tracker_model.specs.declared.answer.Answer.TheVariants.{Told, Stats, Rows, Cleaned, Applied, Drained, SwarmFull, BucketFull, NoMemory}
use Rattle.tracker_model.specs.declared.call.Call.{Call}
use Rattle.tracker_model.specs.declared.call.Call.TheVariants.{Announce, Stop, Scrape, Scan, Clean, Sync, Drain}
use Rattle.tracker_model.specs.declared.entry.Entry.{Entry}

-- the torrent A, of bytes 0x11, and the torrent B, of bytes 0xff, which comes after it
abbrev pub hash_a : InfoHash
hash_a = record { 0 = replicate 20 17 }

abbrev pub hash_b : InfoHash
hash_b = record { 0 = replicate 20 255 }

-- 192.0.2.1, 192.0.2.2 and 192.0.2.3 at port 6881
abbrev pub numbered : ℕ → Endpoint
numbered n = record { addr = V4 (192 ∷ 0 ∷ 2 ∷ n ∷ []); port = 6881 }

-- P, Q and R
abbrev pub peer_p : Endpoint
peer_p = numbered 1

abbrev pub peer_q : Endpoint
peer_q = numbered 2

abbrev pub peer_r : Endpoint
peer_r = numbered 3

-- 2001:db8::1 at port 6881
abbrev pub peer_six : Endpoint
peer_six = record { addr = V6 (32 ∷ 1 ∷ 13 ∷ 184 ∷ replicate 11 0 ++ 1 ∷ []); port = 6881 }

-- live seeds, downloads, and other live peers
abbrev pub counts : ℕ → ℕ → ℕ → Counts
counts complete downloaded incomplete =
    record { complete = complete; downloaded = downloaded; incomplete = incomplete }

-- an entry of caller 0, at a minute
abbrev pub entry : ℕ → Call → Answer → Entry
entry minute call answer =
    record { caller = 0; minute = record { 0 = minute }; call = call; answer = answer }

-- an announce that was answered, as a leecher, as a seed, and as one that has just completed
abbrev pub leech : ℕ → InfoHash → Endpoint → Counts → List Endpoint → Entry
leech minute h who told peers = entry minute (Announce h who false false 50) (Told told peers)

abbrev pub seed : ℕ → InfoHash → Endpoint → Counts → List Endpoint → Entry
seed minute h who told peers = entry minute (Announce h who true false 50) (Told told peers)

abbrev pub complete : ℕ → InfoHash → Endpoint → Counts → List Endpoint → Entry
complete minute h who told peers = entry minute (Announce h who true true 50) (Told told peers)

-- a stop, a scrape and a sync that were answered
abbrev pub stop : ℕ → InfoHash → Endpoint → Counts → Entry
stop minute h who told = entry minute (Stop h who) (Told told [])

abbrev pub scrape : ℕ → InfoHash → Counts → Bool → Entry
scrape minute h told known = entry minute (Scrape h) (Stats told known)

abbrev pub sync : ℕ → InfoHash → Endpoint → Mark → Entry
sync minute h who mark = entry minute (Sync h who mark) Applied

-- a leecher's announce that is refused: the torrent has so many live peers
abbrev pub swarm_full : ℕ → InfoHash → Endpoint → ℕ → Entry
swarm_full minute h who count = entry minute (Announce h who false false 50) (SwarmFull count)

-- the same where the bucket knows so many torrents
abbrev pub bucket_full : ℕ → InfoHash → Endpoint → ℕ → Entry
bucket_full minute h who count = entry minute (Announce h who false false 50) (BucketFull count)

-- a leecher's announce that found no memory
abbrev pub no_memory : ℕ → InfoHash → Endpoint → Entry
no_memory minute h who = entry minute (Announce h who false false 50) NoMemory

-- a cleaning that leaves so many live peers, a scan with these rows, and a drain of these notes
abbrev pub clean : ℕ → ℕ → Entry
clean minute held = entry minute Clean (Cleaned held)

abbrev pub scan : ℕ → List Row → Entry
scan minute rows = entry minute Scan (Rows rows)

abbrev pub row : InfoHash → Counts → Row
row h told = record { hash = h; counts = told }

abbrev pub drain : ℕ → List Note → ℕ → Entry
drain minute notes dropped = entry minute Drain (Drained notes dropped)

abbrev pub note : InfoHash → Endpoint → Mark → Note
note h who mark = record { hash = h; who = who; mark = mark }

-- limits of so many peers and torrents, and sync
abbrev pub synced : ℕ → ℕ → Settings
synced peers torrents =
    record { limits = record { peers = peers; torrents = torrents }; sync = true }

-- limits of so many peers and torrents, without sync
abbrev pub limited : ℕ → ℕ → Settings
limited peers torrents =
    record { limits = record { peers = peers; torrents = torrents }; sync = false }

-- a bucket with no peers, and one that has P in A as a seed since minute 3
abbrev pub empty_bucket : Shape
empty_bucket = record { settings = limited 9 9; time = 0; torrents = []; notes = []; dropped = 0 }

abbrev pub seeded_bucket : Shape
seeded_bucket = record {
  settings = limited 9 9;
  time = 3;
  torrents = record {
    hash = hash_a;
    touch = 3;
    downloaded = 0;
    fours = record { who = peer_p; seed = true; stamp = record { 0 = 3 } } ∷ [];
    sixes = [];
  } ∷ [];
  notes = [];
  dropped = 0;
}

-- A with a peer of each family, as it was at minute 0, and a bucket that still stores it at minute
-- 1440
abbrev pub stale_torrent : Torrent
stale_torrent = record {
  hash = hash_a;
  touch = 0;
  downloaded = 0;
  fours = record { who = peer_p; seed = true; stamp = record { 0 = 0 } } ∷ [];
  sixes = record { who = peer_six; seed = false; stamp = record { 0 = 0 } } ∷ [];
}

abbrev pub stale_bucket : Shape
stale_bucket = record empty_bucket { time = 1440; torrents = stale_torrent ∷ [] }

-- a call with its answer on a bucket
abbrev pub on : ℕ → Entry → Move
on bucket x = record { bucket = bucket; entry = x }
