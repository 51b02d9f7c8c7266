-- The steps of a bucket, by what is live and known before and after them.
use Rattle.std.specs.Prelude.{◌≡◌, ℕ, ◌+◌, min, max, Bool, true, false, not, ◌&&◌, List, [], ◌∷◌, ◌++◌, Option, Some, None, length, nat_lt, if◌then◌else◌}
use Rattle.ot_base.specs.Same.{same_hash}
use Rattle.ot_base.specs.declared.hash.InfoHash.{InfoHash}
use Rattle.ot_base.specs.declared.address.Endpoint.{Endpoint}
use Rattle.ot_base.specs.declared.peer.Note.{Note}
use Rattle.tracker_model.specs.Counted.{same_subject}
use Rattle.tracker_model.specs.Known.{is_seed}
use Rattle.tracker_model.specs.Settings.{Settings}
use Rattle.tracker_model.specs.Entries.{is_effective}
use Rattle.tracker_model.specs.Outbox.{is_drain, note_made}
use Rattle.tracker_model.specs.Shape.{Shape, Torrent, live_in, known_in, downloads_in}
use Rattle.tracker_model.specs.declared.call.Call.{Call}
use Rattle.tracker_model.specs.declared.call.Call.TheVariants.{Announce, Stop, Scrape, Scan, Clean, Sync, Drain}
use Rattle.tracker_model.specs.declared.entry.Entry.{Entry}
use Rattle.ot_base.specs.declared.peer.Mark.TheVariants.{Leecher, Seed, Stopped}
use Rattle.tracker_model.specs.Stands.{AreTidy}
use Rattle.tracker_model.specs.declared.limits.TheConstants.{OUTBOX_NOTES}

-- nothing that is live or known at a minute changes: a cleaning, or no step at all
pub record SameAt (minute : ℕ) (old new : List Torrent) : Type 0 where
  pub tidy : AreTidy new
  pub peers : (h : InfoHash) (e : Endpoint) → live_in minute new h e ≡ live_in minute old h e
  pub torrents : (h : InfoHash) → known_in minute new h ≡ known_in minute old h

-- how many downloads are told after one more, or none
abbrev pub one_more : Bool → ℕ → ℕ
one_more is_one count = if is_one then min 4294967295 (count + 1) else count

-- an endpoint takes part in a torrent: it is live with this flag and stamped with the minute, and
-- the torrent is touched and counts a download, if the endpoint has completed it and wasn't a live
-- seed
pub record Puts (minute : ℕ) (h : InfoHash) (e : Endpoint) (seed completed : Bool)
    (old new : List Torrent) : Type 0 where
  pub tidy : AreTidy new
  pub peer : live_in minute new h e ≡
      Some (record { who = e; seed = seed; stamp = record { 0 = minute } })
  pub other_peers : (k : InfoHash) (d : Endpoint) → same_subject (h, e) (k, d) ≡ false →
      live_in minute new k d ≡ live_in minute old k d
  pub torrent : known_in minute new h ≡ Some (record {
    touch = minute;
    downloaded = one_more (completed && not (is_seed (live_in minute old h e)))
        (downloads_in (known_in minute old h));
  })
  pub other_torrents : (k : InfoHash) → same_hash h k ≡ false →
      known_in minute new k ≡ known_in minute old k

-- an endpoint leaves a torrent: it isn't live in it, and nothing else changes
pub record Takes (minute : ℕ) (h : InfoHash) (e : Endpoint) (old new : List Torrent) : Type 0 where
  pub tidy : AreTidy new
  pub peer : live_in minute new h e ≡ None
  pub other_peers : (k : InfoHash) (d : Endpoint) → same_subject (h, e) (k, d) ≡ false →
      live_in minute new k d ≡ live_in minute old k d
  pub torrents : (k : InfoHash) → known_in minute new k ≡ known_in minute old k

-- the peers and torrents after a call that took effect or didn't
abbrev pub TorrentStep : Bool → Call → ℕ → (old new : List Torrent) → Type 0
TorrentStep false call minute old new = SameAt minute old new
TorrentStep true (Announce h who seed completed want) minute old new =
    Puts minute h who seed completed old new
TorrentStep true (Stop h who) minute old new = Takes minute h who old new
TorrentStep true (Scrape h) minute old new = SameAt minute old new
TorrentStep true Scan minute old new = SameAt minute old new
TorrentStep true Clean minute old new = SameAt minute old new
TorrentStep true (Sync h who Leecher) minute old new = Puts minute h who false false old new
TorrentStep true (Sync h who Seed) minute old new = Puts minute h who true false old new
TorrentStep true (Sync h who Stopped) minute old new = Takes minute h who old new
TorrentStep true Drain minute old new = SameAt minute old new

-- the notes of the outbox after one more, for which there may be no room
abbrev pub notes_with : Settings → Option Note → List Note → List Note
notes_with g None notes = notes
notes_with g (Some note) notes =
    if g.sync && nat_lt (length notes) OUTBOX_NOTES then notes ++ note ∷ [] else notes

-- the number of dropped notes after one more note
abbrev pub dropped_with : Settings → Option Note → List Note → ℕ → ℕ
dropped_with g None notes dropped = dropped
dropped_with g (Some note) notes dropped =
    if g.sync && not (nat_lt (length notes) OUTBOX_NOTES)
    then min 4294967295 (dropped + 1)
    else dropped

-- a bucket before and after an entry: time doesn't fall, peers and torrents make the entry's step
-- at the time after it, and the outbox gets the entry's note, or is emptied by a drain
pub record StepsTo (x : Entry) (old new : Shape) : Type 0 where
  pub settings : new.settings ≡ old.settings
  pub time : new.time ≡ max x.minute.0 old.time
  pub torrents : TorrentStep (is_effective x) x.call new.time old.torrents new.torrents
  pub notes : new.notes ≡
      (if is_drain x.call then [] else notes_with old.settings (note_made x) old.notes)
  pub dropped : new.dropped ≡
      (if is_drain x.call then 0 else dropped_with old.settings (note_made x) old.notes old.dropped)
