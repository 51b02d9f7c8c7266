use Rattle.std.proofs.Common.{◌≡◌, ◌*◌, ◌^◌, take}
use Rattle.load_model.specs.Sums.{IsWithin}
use Rattle.load_model.specs.Text.{totals_of}
use Rattle.load_model.proofs.totals.Totals.of_rows.Given as goal

abbrev pub invariant-loop-row : goal.invariant-loop-row
invariant-loop-row l = record {
  totals : l.totals ≡ totals_of (take l.row-index l.rows);
  within : IsWithin (l.row-index * 2 ^ 32) l.totals;
}
