use Rattle.std.proofs.Common.{rules}
use Rattle.turn_lock.proofs.StepLemmas.{watches}
use Rattle.turn_lock.proofs.steps.watch.Goals as goal

pub load-requires : goal.load-requires
load-requires g c = (
  search rules,
  search rules,
  watches g.T.Stands.settings g.T.Stands.stands _ _ _ _ _ _ c.requires.waits,
)
