use Rattle.std.proofs.Common.{rules, sym, ap}
use Rattle.turn_lock.proofs.StepLemmas.{advances}
use Rattle.turn_lock.proofs.steps.advance.Goals as goal

pub fetch_add-requires : goal.fetch_add-requires
fetch_add-requires g c = (
  search rules,
  search rules,
  advances g.T.Stands.settings g.T.Stands.stands _ _ _ _ _ _ c.requires.serves
      (ap (λ x. x.caller) (sym c.requires.told))
      c.requires.filled,
)
