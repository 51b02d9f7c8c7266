use Rattle.std.proofs.Common.{◌≡◌, ◌<◌, ℕ, [], false, is_none, length, get_or}
use Rattle.std.specs.List.{filter_map}
use Rattle.sync_wire.specs.Notes.{note_of}
use Rattle.sync_wire.specs.Reading.{records_of}
use Rattle.sync_wire.proofs.reading.read_notes.Given as goal

abbrev pub invariant-loop-i : goal.invariant-loop-i
invariant-loop-i l = record {
  read : l.notes ≡ filter_map note_of (records_of l.i l.bytes);
  so_many : length l.notes ≡ l.i;
  none_wrong : (k : ℕ) → k < l.i → is_none (note_of (get_or (records_of l.count l.bytes) k [])) ≡ false;
}
