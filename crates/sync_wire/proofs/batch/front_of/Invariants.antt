use Rattle.std.proofs.Common.{◌≡◌, ◌<◌, ◌≤◌, ℕ, true, get_or}
use Rattle.sync_wire.specs.Batches.{is_of_family}
use Rattle.sync_wire.proofs.Fronts.{no_note}
use Rattle.sync_wire.proofs.batch.front_of.Given as goal

abbrev pub invariant-loop-i : goal.invariant-loop-i
invariant-loop-i l = record {
  of_family : (k : ℕ) → k < l.i → is_of_family l.family (get_or l.notes k no_note) ≡ true;
  few : l.i ≤ 50;
}
