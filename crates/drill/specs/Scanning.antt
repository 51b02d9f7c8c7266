-- Scans of buckets.
use Rattle.std.specs.Prelude.{◌≡◌, ℕ, ◌<◌, ◌≤◌, List, [], ◌∷◌, ◌++◌, length, reverse, slice_set, take}
use Rattle.ot_base.specs.declared.minute.Minute.{Minute}
use Rattle.ot_base.specs.declared.peer.Row.{Row}
use Rattle.tracker_model.specs.Counted.{rows_of}
use Rattle.tracker_model.specs.Grows.{history_at}
use Rattle.tracker_model.specs.declared.call.Call.TheVariants.{Scan}
use Rattle.tracker_model.specs.declared.entry.Entry.{Entry}
use Rattle.turn_lock.specs.Histories.{NoneBy}
use Rattle.shards.specs.Shape.{PassShape}
use Rattle.load_model.specs.Alike.{IsMade}
use Rattle.load_model.specs.Sums.{totals_in}
use Rattle.load_model.specs.declared.totals.Totals.{Totals}

-- a bucket's history goes on with entries of none of these callers, and then with a scan at a
-- minute
pub record IsScanned (minute : ℕ) (callers : List ℕ) (old new : List Entry) : Type 0 where
  pub others : List Entry
  pub scan : Entry
  pub grown : new ≡ old ++ (others ++ scan ∷ [])
  pub apart : NoneBy callers others
  pub made : IsMade minute Scan scan

-- the first buckets were scanned at a minute, so many, and these are the totals of their torrents
pub record AreScanned (minute : Minute) (count : ℕ) (totals : Totals) (old new : PassShape)
    : Type 0 where
  pub pass : new ≡ record old { seen = new.seen }
  pub buckets : length new.seen ≡ length old.seen
  pub each : (bucket : ℕ) → bucket < count → IsScanned minute.0 (old.caller ∷ old.joined)
      (history_at old.seen bucket) (history_at new.seen bucket)
  pub others : (bucket : ℕ) → count ≤ bucket →
      history_at new.seen bucket ≡ history_at old.seen bucket
  pub counted : totals ≡ totals_in (take count new.seen)

-- one bucket was scanned at a minute, and these are its rows
pub record IsScanOf (minute : Minute) (bucket : ℕ) (rows : List Row) (old new : PassShape)
    : Type 0 where
  pub pass : new ≡ record old { seen = new.seen }
  pub within : bucket < length old.seen
  pub seen : new.seen ≡ slice_set old.seen bucket (history_at new.seen bucket)
  pub scanned : IsScanned minute.0 (old.caller ∷ old.joined)
      (history_at old.seen bucket) (history_at new.seen bucket)
  pub told : rows ≡ rows_of (reverse (history_at new.seen bucket))
