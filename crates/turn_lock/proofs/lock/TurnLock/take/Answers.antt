use Rattle.std.proofs.Common.{◌∷◌, Some, rules, sym, ap, ◌∙◌}
use Rattle.atomic_table.specs.Table.{rest}
use Rattle.turn_lock.proofs.lock.TurnLock.take.Goals as goal

pub exchange-requires : goal.exchange-requires
exchange-requires g c =
    let served = c.wait.ensures.served in (
      search rules,
      (Some served.value, served.slot_is ∙ ap (λ slots. (0, Some served.value) ∷ rest slots) (sym served.slot_is)),
    )
