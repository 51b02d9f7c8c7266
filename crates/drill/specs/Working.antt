-- What a worker does.
use Rattle.std.specs.Prelude.{◌≡◌, ℕ, ◌<◌, true, List, length, slice_index_or}
use Rattle.ot_base.specs.declared.minute.Minute.{Minute}
use Rattle.drill.specs.Asking.{Asks}
use Rattle.drill.specs.declared.worker.Worker.{Worker}

-- the worker has made its requests with its pass, or some of them, and then one of them took no
-- effect
pub record Works (minute : Minute) (old new : Worker) : Type 0 where
  pub pass : new.pass ≡ record old.pass { seen = new.pass.seen }
  pub asked : new.took ≡ true → Asks minute old.requests.items old.pass new.pass

-- each of them has
pub record AllWork (minute : Minute) (old new : List Worker) : Type 0 where
  pub count : length new ≡ length old
  pub each : (i : ℕ) (d : Worker) → i < length old →
      Works minute (slice_index_or old i d) (slice_index_or new i d)
