use Rattle.std.proofs.Common.{sym, subst}
use Rattle.turn_lock.specs.Seats.{IsTurn}
use Rattle.turn_lock.specs.Shape.{IsSpare}
use Rattle.tracker_model.specs.Grows.{OthersBetween}
use Rattle.turn_lock.proofs.HistoryLemmas.{below_none}
use Rattle.turn_lock.proofs.TurnLemmas.{first_of_spare, kept_turn, cut_turn}
use Rattle.turn_lock.proofs.lock.TurnLock.split.Goals as goal

pub invariant_of-turn : goal.invariant_of-turn
invariant_of-turn g c =
    let spare = subst (λ t. IsSpare t c.args.number) (sym c.turn.view_is) c.requires.number in
    subst IsTurn (sym c.cut-place.ensures.kept) (kept_turn c.turn.inside.place.me c.turn.invariant c.args.number spare.from spare.below)

pub invariant_of-result : goal.invariant_of-result
invariant_of-result g c =
    let spare = subst (λ t. IsSpare t c.args.number) (sym c.turn.view_is) c.requires.number in
    subst IsTurn (sym c.cut-place.ensures.new) (cut_turn c.turn.inside.place.me c.turn.invariant c.args.number spare.from spare.below)

pub returns-clause-no_entry_yet : goal.returns-clause-no_entry_yet
returns-clause-no_entry_yet g c =
    let spare = subst (λ t. IsSpare t c.args.number) (sym c.turn.view_is) c.requires.number in
    let turn = c.turn.invariant in
    subst (λ t. OthersBetween c.args.number t.seen) c.turn.view_is
    (below_none _ c.args.number _ spare.from (turn.known (first_of_spare c.turn.inside.place.me turn c.args.number spare.from spare.below)))

pub returns-clause-known : goal.returns-clause-known
returns-clause-known g c =
    let spare = subst (λ t. IsSpare t c.args.number) (sym c.turn.view_is) c.requires.number in
    let turn = subst IsTurn (sym c.cut-place.ensures.kept) (kept_turn c.turn.inside.place.me c.turn.invariant c.args.number spare.from spare.below) in
    record { own = turn.not_free; first_free = turn.first_free; not_free = turn.known }
