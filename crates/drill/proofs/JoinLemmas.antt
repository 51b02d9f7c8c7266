-- Workers whose passes are joined, one after another.
use Rattle.std.specs.Prelude.{◌≡◌, List, ◌++◌, map}
use Rattle.shards.specs.Joining.{AreJoined}
use Rattle.shards.specs.Shape.{PassShape}
use Rattle.drill.specs.declared.worker.Worker.{Worker}

-- workers of whom those from some place on were joined
pub record AreJoining (team left : List Worker) (old new : PassShape) : Type 0 where
  pub done : List Worker
  pub cut : team ≡ left ++ done
  pub joined : AreJoined (map (λ (worker : Worker). worker.pass) done) old new
