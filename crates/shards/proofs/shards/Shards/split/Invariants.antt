use Rattle.std.proofs.Common.{◌≡◌, ◌+◌, ◌<◌, ◌≤◌, ℕ, [], All, length, vec_capacity, vec_len}
use Rattle.shards.specs.Shape.{new_passes}
use Rattle.shards.proofs.SplitLemmas.{HasNone, kept_pass}
use Rattle.shards.proofs.shards.Shards.split.Given as goal

abbrev pub invariant-loop-room : goal.invariant-loop-room
invariant-loop-room l = record {
  pass : l.pass ≡ kept_pass (length l.passes.items) l.fn.pass;
  passes : l.passes.items ≡ new_passes l.fn.pass (length l.passes.items);
  left : length l.rooms.items + length l.passes.items ≡ l.n;
  rooms : All (λ room. (room.items ≡ []) × (length l.self.locks ≤ vec_capacity room)) l.rooms.items;
  capacity : l.n ≤ vec_capacity l.passes;
  no_entry_yet : (number : ℕ) → l.fn.pass.free ≤ number → number < l.fn.pass.free + length l.passes.items → HasNone l.fn.pass number;
}

abbrev pub decreases-loop-room : goal.decreases-loop-room
decreases-loop-room l = vec_len l.rooms
