-- Which worker makes which request.
use Rattle.std.specs.Prelude.{◌≡◌, ℕ, ◌<◌, ◌%◌, ◌==◌, List, ◌++◌, length, slice_index_or}
use Rattle.std.specs.List.{filter}
use Rattle.load_model.specs.Drawing.{IsNotNext, of_phase}
use Rattle.load_model.specs.Load.{peer_number}
use Rattle.load_model.specs.declared.request.Request.{Request}
use Rattle.drill.specs.declared.worker.Worker.{Worker}

-- the requests of one of so many workers: all requests of a peer have the same one
abbrev pub share_of : (workers worker : ℕ) → List Request → List Request
share_of workers worker requests = filter (λ r. peer_number r % workers == worker) requests

-- each worker has got its share of these requests, behind those that it had
pub record AreHanded (requests : List Request) (old new : List Worker) : Type 0 where
  pub count : length new ≡ length old
  pub passes : (i : ℕ) (d : Worker) → i < length old →
      (slice_index_or new i d).pass ≡ (slice_index_or old i d).pass
  pub shares : (i : ℕ) (d : Worker) → i < length old →
      (slice_index_or new i d).requests.items ≡
      (slice_index_or old i d).requests.items ++ share_of (length old) i requests

-- the next requests of a load were dealt to the workers, and all of them are of one phase
pub record AreDealt (phase : ℕ) (load left : List (ℕ × Request)) (old new : List Worker)
    : Type 0 where
  pub dealt : List Request
  pub drawn : load ≡ of_phase phase dealt ++ left
  pub handed : AreHanded dealt old new

-- the same of all requests of a phase
pub record Deals (phase : ℕ) (load left : List (ℕ × Request)) (old new : List Worker)
    : Type 0 where
  pub requests : AreDealt phase load left old new
  pub ended : IsNotNext phase left
