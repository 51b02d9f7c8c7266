-- The calls of the notes so far.
use Rattle.std.proofs.Common.{◌≡◌, ◌≤◌}
use Rattle.upkeep.proofs.Syncing.{AppliedSoFar}
use Rattle.upkeep.proofs.sync_in.apply.Given as goal

abbrev pub invariant-loop-note : goal.invariant-loop-note
invariant-loop-note g l = record {
  applied : AppliedSoFar l.minute l.fn.pass l.pass l.batch.notes l.calls l.full;
  calls : l.calls ≡ l.note-index;
  full : l.full ≤ l.calls;
  shards : l.pass.shards ≡ l.shards;
}
