use Rattle.std.proofs.Common.{◌≡◌, ◌+◌, ◌++◌, ◌≤◌, All, drop, length, map, take, vec_capacity}
use Rattle.tracker_model.specs.Grows.{OthersBetween}
use Rattle.turn_lock.specs.Shape.{TurnShape, new_turn}
use Rattle.shards.proofs.split.split_turns.Given as goal

abbrev pub invariant-loop-i : goal.invariant-loop-i
invariant-loop-i l = record {
  turns : l.turns.items ≡ map (λ (turn : TurnShape). record turn { free = l.number + 1; out = turn.out + 1 }) (take l.i l.fn.turns.items) ++ drop l.i l.fn.turns.items;
  new : l.room.items ≡ map (λ (turn : TurnShape). new_turn turn.lock l.number turn.seen) (take l.i l.fn.turns.items);
  no_entry_yet : All (λ turn. OthersBetween l.number turn.seen) (take l.i l.fn.turns.items);
  room : length l.locks ≤ vec_capacity l.room;
}
