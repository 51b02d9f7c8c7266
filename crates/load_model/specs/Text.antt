-- What is written of a load.
use Rattle.std.specs.Prelude.{◌≡◌, ℕ, suc, ◌+◌, ◌*◌, ◌^◌, List, [], ◌∷◌, ◌++◌, codes, decimal, length, map}
use Rattle.std.specs.List.{flat_map, range_with_len, sum_by}
use Rattle.ot_base.specs.declared.peer.Row.{Row}
use Rattle.tracker_model.specs.Counted.{rows_of}
use Rattle.load_model.specs.Load.{past_after}
use Rattle.load_model.specs.declared.settings.DrillSettings.{DrillSettings}
use Rattle.load_model.specs.declared.totals.Totals.{Totals}

-- the number of rows, and the sums over them
abbrev pub totals_of : List Row → Totals
totals_of rows = record {
  torrents = length rows;
  complete = sum_by (λ row. row.counts.complete) rows;
  downloaded = sum_by (λ row. row.counts.downloaded) rows;
  incomplete = sum_by (λ row. row.counts.incomplete) rows;
}

-- the line of a phase
abbrev pub phase_line : ℕ → Totals → List ℕ
phase_line phase t =
    codes "phase " ++ decimal phase ++ codes " torrents " ++ decimal t.torrents
    ++ codes " complete " ++ decimal t.complete ++ codes " downloaded " ++ decimal t.downloaded
    ++ codes " incomplete " ++ decimal t.incomplete ++ 10 ∷ []

-- the line of all calls
abbrev pub calls_line : ℕ → List ℕ
calls_line calls = codes "calls " ++ decimal calls ++ 10 ∷ []

-- the torrents that are known after a phase, counted from scratch over all calls so far
abbrev pub totals_after : DrillSettings → ℕ → Totals
totals_after s phase = totals_of (rows_of (past_after s (suc phase)))

-- the lines of so many phases
abbrev pub phase_lines : DrillSettings → ℕ → List ℕ
phase_lines s phases =
    flat_map (λ phase. phase_line phase (totals_after s phase)) (range_with_len 0 phases)

-- all that is written of a load: a line for each of the eight phases, and then how many calls were
-- made: the requests, and a scan of each bucket in each phase
abbrev pub load_text : DrillSettings → List ℕ
load_text s = phase_lines s 8 ++ calls_line (s.count + 8 * 2 ^ s.bits)
