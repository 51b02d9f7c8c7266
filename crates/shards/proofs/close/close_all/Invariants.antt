use Rattle.std.proofs.Common.{◌≡◌, ◌≤◌, ◌*◌, ◌^◌, All, length, map, sum_by, take, vec_capacity}
use Rattle.std.specs.List.{AllZip}
use Rattle.shards.specs.Shape.{numbers_of}
use Rattle.tracker_model.specs.Settings.{Settings}
use Rattle.tracker_model.specs.Stands.{StandsFor}
use Rattle.shards.proofs.close.close_all.Given as goal

abbrev pub invariant-loop-lock : goal.invariant-loop-lock
invariant-loop-lock g l = record {
  next : (goal.iterator-loop-lock g).can_next l.lock-iterator;
  finite : (goal.iterator-loop-lock g).is_finite l.lock-iterator;
  count : length l.room.items ≡ length l.yielded;
  settings : (of : Settings) → All (λ lock. lock.settings ≡ numbers_of of) l.fn.locks.items → All (λ bucket. bucket.settings ≡ of) l.room.items;
  stands : AllZip StandsFor (map (λ turn. turn.seen) (take (length l.yielded) l.fn.turns.items)) l.room.items;
  calls : l.calls ≡ sum_by length (map (λ turn. turn.seen) (take (length l.yielded) l.fn.turns.items));
  few_calls : l.calls ≤ length l.yielded * 2 ^ 64;
  room : length l.fn.locks.items ≤ vec_capacity l.room;
}
