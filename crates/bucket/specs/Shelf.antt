-- A shelf: the buckets of a tracker, as one thread has them alone.
use Rattle.std.specs.Prelude.{◌≡◌, ℕ, ◌<◌, ◌≤◌, ◌^◌, List, [], ◌∷◌, ◌++◌, Some, All, length, map, slice_get, slice_index_or, slice_set}
use Rattle.std.specs.List.{AllZip}
use Rattle.ot_base.specs.declared.hash.InfoHash.{InfoHash}
use Rattle.ot_base.specs.declared.minute.Minute.{Minute}
use Rattle.ot_base.specs.declared.peer.Row.{Row}
use Rattle.tracker_model.specs.Grows.{GrowsAlone}
use Rattle.tracker_model.specs.Making.{Makes}
use Rattle.tracker_model.specs.Placed.{moves_of}
use Rattle.tracker_model.specs.Settings.{Settings}
use Rattle.tracker_model.specs.Shape.{Shape}
use Rattle.tracker_model.specs.Stands.{StandsFor}
use Rattle.tracker_model.specs.declared.answer.Answer.{Answer}
use Rattle.tracker_model.specs.declared.answer.Answer.TheVariants.{Rows}
use Rattle.tracker_model.specs.declared.call.Call.{Call}
use Rattle.tracker_model.specs.declared.call.Call.TheVariants.{Announce, Stop, Scrape, Scan, Clean, Sync, Drain}
use Rattle.tracker_model.specs.declared.entry.Entry.{Entry}

-- how many bits of a hash tell its bucket, the settings of each bucket, and the buckets
pub record ShelfShape : Type 0 where
  pub bits : ℕ
  pub settings : Settings
  pub buckets : List Shape

-- there is a bucket for each number that the bits can make, and each has the settings
pub record IsShelf (shelf : ShelfShape) : Type 0 where
  pub few : shelf.bits ≤ 10
  pub full : length shelf.buckets ≡ 2 ^ shelf.bits
  pub same : All (λ bucket. bucket.settings ≡ shelf.settings) shelf.buckets

-- buckets of one settings
pub record AreAlike (buckets : List Shape) : Type 0 where
  pub settings : Settings
  pub same : All (λ bucket. bucket.settings ≡ settings) buckets

-- a bucket of which nothing has been asked
abbrev pub empty_bucket : Settings → Shape
empty_bucket g = record { settings = g; time = 0; torrents = []; notes = []; dropped = 0 }

-- the bucket of a number
abbrev pub bucket_at : ShelfShape → ℕ → Shape
bucket_at shelf i = slice_index_or shelf.buckets i (empty_bucket shelf.settings)

-- the bucket of a number has changed, and nothing else has
abbrev pub with_bucket : ShelfShape → ℕ → Shape → ShelfShape
with_bucket shelf i bucket = record shelf { buckets = slice_set shelf.buckets i bucket }

-- a torrent that a call names belongs to this bucket, where each hash has its bucket
abbrev pub IsPlacedIn : (InfoHash → ℕ) → ℕ → Call → Type 0
IsPlacedIn bucket i (Announce hash who seed completed want) = bucket hash ≡ i
IsPlacedIn bucket i (Stop hash who) = bucket hash ≡ i
IsPlacedIn bucket i (Scrape hash) = bucket hash ≡ i
IsPlacedIn bucket i Scan = Unit {0}
IsPlacedIn bucket i Clean = Unit {0}
IsPlacedIn bucket i (Sync hash who mark) = bucket hash ≡ i
IsPlacedIn bucket i Drain = Unit {0}

-- for every history that a bucket stood for, it stands for that history with one more entry
pub record StandsOnWith (x : Entry) (old new : Shape) : Type 0 where
  pub settings : new.settings ≡ old.settings
  pub stands : (history : List Entry) → StandsFor history old → StandsFor (history ++ x ∷ []) new

-- a call was made on a bucket of a shelf, by caller 0: the bucket stands for what it stood for,
-- with the call and its answer. Every other bucket stays
pub record MadeOnShelf (old : ShelfShape) (i : ℕ) (minute : Minute) (call : Call) (answer : Answer)
    (new : ShelfShape) : Type 0 where
  pub bucket : Shape
  pub within : i < 2 ^ old.bits
  pub changed : new ≡ with_bucket old i bucket
  pub follows : (before : Shape) → slice_get old.buckets i ≡ Some before →
      StandsOnWith (record { caller = 0; minute = minute; call = call; answer = answer })
      before bucket

-- each bucket of a shelf stands for its own history, of which there are as many as buckets
pub record AllStand (histories : List (List Entry)) (shelf : ShelfShape) : Type 0 where
  pub whole : IsShelf shelf
  pub each : AllZip StandsFor histories shelf.buckets

-- calls were made and answered, and so the histories of the buckets grew
pub record Follows (minute : Minute) (old : ShelfShape) (placed : List (ℕ × Call))
    (answers : List Answer) (new : ShelfShape) (histories : List (List Entry)) : Type 0 where
  pub next : List (List Entry)
  pub answered : length answers ≡ length placed
  pub grows : GrowsAlone old.settings 0 histories (moves_of 0 minute placed answers) next
  pub stands : AllStand next new

-- scans of these buckets can be made, each with rows as its answer
pub record CanScan (minute : Minute) (old : ShelfShape) (buckets : List ℕ) : Type 0 where
  pub lists : List (List Row)
  pub new : ShelfShape
  pub made : Makes MadeOnShelf minute old (map (λ bucket. (bucket, Scan)) buckets) (map Rows lists)
      new
