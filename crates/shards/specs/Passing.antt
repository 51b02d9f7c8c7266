-- Calls that are made through a pass.
use Rattle.std.specs.Prelude.{◌≡◌, ℕ, List, ◌∷◌, length}
use Rattle.ot_base.specs.declared.minute.Minute.{Minute}
use Rattle.tracker_model.specs.Grows.{GrowsAmong, Step}
use Rattle.tracker_model.specs.Placed.{moves_of}
use Rattle.tracker_model.specs.declared.answer.Answer.{Answer}
use Rattle.tracker_model.specs.declared.call.Call.{Call}
use Rattle.turn_lock.specs.Histories.{NoneBy}
use Rattle.shards.specs.Shape.{PassShape}

-- a call was made on a bucket, by the pass's own number: the bucket's history, as the pass has seen
-- it, goes on with calls of others, of which none is joined to the pass, and then with this one,
-- which is answered right just there. All else of the pass stays
pub record MadeByPass (old : PassShape) (bucket : ℕ) (minute : Minute) (call : Call)
    (answer : Answer) (new : PassShape) : Type 0 where
  pub step : Step (NoneBy (old.caller ∷ old.joined)) old.shards.settings old.caller old.seen
      (record {
        bucket = bucket;
        entry = record {
          caller = old.caller;
          minute = minute;
          call = call;
          answer = answer;
        };
      }) new.seen
  pub pass : new ≡ record old { seen = new.seen }

-- calls were made and answered, and so the histories that the pass has seen grew
pub record PassFollows (minute : Minute) (old : PassShape) (placed : List (ℕ × Call))
    (answers : List Answer) (new : PassShape) : Type 0 where
  pub answered : length answers ≡ length placed
  pub grows : GrowsAmong old.shards.settings old.caller old.seen
      (moves_of old.caller minute placed answers) new.seen
  pub pass : new ≡ record old { seen = new.seen }
