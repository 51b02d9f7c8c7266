use Rattle.std.proofs.Common.{[], ◌∷◌, ◌++◌, Some, sym, ap, ◌∙◌, subst}
use Rattle.atomic_table.specs.Table.{opening}
use Rattle.turn_lock.specs.Rule.{IsKept, first_know}
use Rattle.turn_lock.proofs.EndLemmas.{begins}
use Rattle.turn_lock.proofs.lock.TurnLock.new.Goals as goal

pub new-requires : goal.new-requires
new-requires g c =
    let value = c.args.value in
    let of_lock = c.of.ensures in
    let settings = g.T.Stands.settings c.of.result.value in
    let items = c.in_ok-push.ensures.items ∙ ap (λ slots. slots ++ Some value ∷ []) c.new-slots.ensures.items in
    subst (λ slots. IsKept g.T.Stands.settings g.T.Stands.stands settings c.args.callers (opening (0 ∷ 0 ∷ []) slots (first_know settings c.args.callers))) (sym items)
    (begins g.T.Stands.settings g.T.Stands.stands settings c.args.callers value c.requires.some_callers (ap g.T.Stands.settings (sym of_lock)) c.requires.stands)
