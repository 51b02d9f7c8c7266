-- Workers whose passes were joined to one.
use Rattle.std.specs.Prelude.{◌≡◌, Bool, true, List, All, map}
use Rattle.ot_base.specs.declared.minute.Minute.{Minute}
use Rattle.shards.specs.Joining.{AreJoined}
use Rattle.shards.specs.Shape.{PassShape}
use Rattle.drill.specs.Working.{AllWork}
use Rattle.drill.specs.declared.worker.Worker.{Worker}

-- workers made their requests, and their passes were joined to one. Where it is said that all of
-- the requests took effect they did.
pub record HaveWorked (minute : Minute) (team : List Worker) (took : Bool) (old new : PassShape)
    : Type 0 where
  pub worked : List Worker
  pub work : AllWork minute team worked
  pub joins : AreJoined (map (λ (worker : Worker). worker.pass) worked) old new
  pub effective : took ≡ true → All (λ worker. worker.took ≡ true) worked
