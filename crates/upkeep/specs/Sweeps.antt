-- What a job does that goes over all buckets again and again.
use Rattle.std.specs.Prelude.{◌≡◌, ℕ, ◌<◌, ◌≤◌, ◌^◌, List, length}
use Rattle.std.specs.List.{AllByRecursion}
use Rattle.tracker_model.specs.Grows.{GrowsAmong, Move, entries_in}
use Rattle.tracker_model.specs.declared.call.Call.{Call}
use Rattle.shards.specs.Shape.{PassShape}

-- Through a pass this call was made on every bucket, on each at least once, and no other call.
pub record Sweeps (call : Call) (old new : PassShape) : Type 0 where
  pub moves : List Move
  pub calls : AllByRecursion (λ move. move.entry.call ≡ call) moves
  pub grown : GrowsAmong old.shards.settings old.caller old.seen moves new.seen
  pub pass : new ≡ record old { seen = new.seen }
  pub each : (bucket : ℕ) → bucket < 2 ^ old.shards.bits →
      1 ≤ length (entries_in bucket moves)
