use Rattle.std.proofs.Common.{◌≡◌, All, length, map}
use Rattle.shards.specs.Shape.{IsLockFor}
use Rattle.turn_lock.specs.Shape.{first_turn}
use Rattle.shards.proofs.shards.open_all.Given as goal

abbrev pub invariant-loop : goal.invariant-loop
invariant-loop l = record {
  count : length l.locks.items ≡ l.counter;
  locks : All (IsLockFor (record { limits = l.limits; sync = l.sync }) l.callers) l.locks.items;
  turns : l.turns.items ≡ map first_turn l.locks.items;
}
