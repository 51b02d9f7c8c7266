use Rattle.std.proofs.Common.{◌≡◌, ◌≤◌, [], All, length, vec_capacity}
use Rattle.shards.proofs.split.take_rooms.Given as goal

abbrev pub invariant-loop : goal.invariant-loop
invariant-loop l = record {
  count : length l.rooms.items ≡ l.counter;
  rooms : All (λ room. (room.items ≡ []) × (l.turns ≤ vec_capacity room)) l.rooms.items;
}
