use Rattle.std.proofs.Common.{◌≡◌, ◌++◌, All, take}
use Rattle.std.specs.Prelude.{flat_map}
use Rattle.tracker_core.specs.HttpText.{IsRow, row_text}
use Rattle.tracker_core.proofs.http_text.rows_between.Given as goal

abbrev pub invariant-rows : goal.invariant-rows
invariant-rows l = record {
  text : l.text.items ≡ l.front ++ flat_map row_text (take l.row-index l.rows);
  typed : All IsRow (take l.row-index l.rows);
}
