-- What a pass has seen once it made requests.
use Rattle.std.specs.Prelude.{◌≡◌, ℕ, ◌==◌, List, ◌++◌, map}
use Rattle.std.specs.List.{AllByRecursion, filter}
use Rattle.ot_base.specs.declared.minute.Minute.{Minute}
use Rattle.tracker_model.specs.Grows.{entries_by, history_at}
use Rattle.tracker_model.specs.Placed.{bucket_for, bucket_in}
use Rattle.tracker_model.specs.declared.entry.Entry.{Entry}
use Rattle.shards.specs.Shape.{PassShape}
use Rattle.load_model.specs.Alike.{IsOfPhase}
use Rattle.load_model.specs.Load.{call_of}
use Rattle.load_model.specs.declared.request.Request.{Request}

-- The entries of a caller that stand in one bucket's history after requests were made at a minute,
-- besides those from before: each took effect, and they are the requests of this bucket, in order.
pub record IsAsked (minute : Minute) (bits bucket caller : ℕ) (requests : List Request)
    (old new : List Entry) : Type 0 where
  pub entries : List Entry
  pub own : entries_by caller new ≡ entries_by caller old ++ entries
  pub of_phase : AllByRecursion (IsOfPhase minute) entries
  pub calls : map (λ x. x.call) entries ≡
      filter (λ call. bucket_for (bucket_in bits) call == bucket) (map call_of requests)

-- the pass made these requests at a minute, in order, and each took effect
pub record Asks (minute : Minute) (requests : List Request) (old new : PassShape) : Type 0 where
  pub pass : new ≡ record old { seen = new.seen }
  pub each : (bucket : ℕ) → IsAsked minute old.shards.bits bucket old.caller requests
      (history_at old.seen bucket) (history_at new.seen bucket)
