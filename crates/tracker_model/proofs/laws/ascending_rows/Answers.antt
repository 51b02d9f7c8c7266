use Rattle.tracker_model.proofs.RowLemmas.{rows_are}
use Rattle.tracker_model.proofs.laws.ascending_rows.Goals as goal

pub returns : goal.returns
returns c = rows_are
