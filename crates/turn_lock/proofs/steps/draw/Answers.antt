use Rattle.std.proofs.Common.{rules, refl, ap, ◌∙◌}
use Rattle.turn_lock.proofs.StepLemmas.{draws}
use Rattle.turn_lock.proofs.steps.draw.Goals as goal

pub compare_exchange-requires : goal.compare_exchange-requires
compare_exchange-requires g c =
    let same = c.loop.invariant in (
      same.0.0 ∙ c.requires.table.0,
      search rules,
      draws g.T.Stands.settings g.T.Stands.stands _ _ _ _ _ _ _ refl (search rules) (ap (λ m. m.0.stage) same.1 ∙ c.requires.free),
    )
