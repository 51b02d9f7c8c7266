use Rattle.std.proofs.Common.{◌≡◌, ◌+◌, ◌*◌, ◌++◌, take}
use Rattle.std.specs.List.{flat_map}
use Rattle.sync_wire.specs.Batches.{head_bytes}
use Rattle.sync_wire.specs.Notes.{note_bytes}
use Rattle.sync_wire.proofs.writing.write_batch.Given as goal

abbrev pub invariant-loop-note : goal.invariant-loop-note
invariant-loop-note l = record {
  text : take l.place l.out ≡ head_bytes l.node ++ flat_map note_bytes (take l.note-index l.notes);
  place : l.place ≡ 8 + 28 * l.note-index;
}
