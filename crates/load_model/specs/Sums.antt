-- Sums over the torrents of all buckets.
use Rattle.std.specs.Prelude.{◌≡◌, ℕ, ◌+◌, ◌≤◌, List, [], ◌∷◌, length, reverse}
use Rattle.std.specs.List.{sum_by}
use Rattle.tracker_model.specs.Counted.{rows_of}
use Rattle.tracker_model.specs.declared.entry.Entry.{Entry}
use Rattle.ot_base.specs.declared.peer.Counts.{Counts}
use Rattle.ot_base.specs.declared.peer.Row.{Row}
use Rattle.load_model.specs.declared.totals.Totals.{Totals}

-- no number is above a bound
pub record IsWithin (bound : ℕ) (t : Totals) : Type 0 where
  pub torrents : t.torrents ≤ bound
  pub complete : t.complete ≤ bound
  pub downloaded : t.downloaded ≤ bound
  pub incomplete : t.incomplete ≤ bound

-- the totals of one torrent with these counts
abbrev pub totals_of_one : Counts → Totals
totals_of_one counts = record {
  torrents = 1;
  complete = counts.complete;
  downloaded = counts.downloaded;
  incomplete = counts.incomplete;
}

-- totals with others added to them
abbrev pub added : Totals → Totals → Totals
added t u = record {
  torrents = t.torrents + u.torrents;
  complete = t.complete + u.complete;
  downloaded = t.downloaded + u.downloaded;
  incomplete = t.incomplete + u.incomplete;
}

-- the sum of a number of each known torrent, over all buckets, as their histories stand. A history
-- has its oldest entry first
abbrev pub sum_in : (Row → ℕ) → List (List Entry) → ℕ
sum_in number histories = sum_by (λ h. sum_by number (rows_of (reverse h))) histories

-- the totals of all buckets' torrents
abbrev pub totals_in : List (List Entry) → Totals
totals_in histories = record {
  torrents = sum_by (λ h. length (rows_of (reverse h))) histories;
  complete = sum_in (λ row. row.counts.complete) histories;
  downloaded = sum_in (λ row. row.counts.downloaded) histories;
  incomplete = sum_in (λ row. row.counts.incomplete) histories;
}
