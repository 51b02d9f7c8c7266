use Rattle.std.proofs.Common.{[], ◌∷◌, ◌++◌, refl, sym, ap, ◌∙◌, subst}
use Rattle.tracker_model.specs.declared.entry.Entry.{Entry}
use Rattle.turn_lock.specs.declared.know.Stage.TheVariants.{Free}
use Rattle.turn_lock.specs.Seats.{IsTurn}
use Rattle.turn_lock.specs.Shape.{entry_of}
use Rattle.turn_lock.proofs.TurnLemmas.{given_turn}
use Rattle.turn_lock.proofs.lock.TurnLock.give.Goals as goal

module _ (g : _) (c : goal.After-advance g) where
  -- the entry of the call, by the number that the turn's place knows
  abbrev entry : Entry
  entry = entry_of c.turn.inside.place.me.0.caller c.args.minute c.args.call.now (g.A.AsAnswer.answer c.args.answer.now)

  is_turn : IsTurn c.advance.new.place.me
  is_turn =
      let over = c.advance.ensures.over ∙ ap (λ m. (record m.0 { seen = m.0.seen ++ entry_of m.0.caller c.args.minute c.args.call.now (g.A.AsAnswer.answer c.args.answer.now) ∷ []; stage = Free }, [])) c.exchange-emptied.ensures.3 in
      subst IsTurn (sym over) (given_turn c.turn.inside.place.me c.turn.invariant entry refl)

pub invariant_of-turn : goal.invariant_of-turn
invariant_of-turn g c = is_turn g c

pub returns-clause-known : goal.returns-clause-known
returns-clause-known g c =
    let turn = is_turn g c in
    record { own = turn.not_free; first_free = turn.first_free; not_free = turn.known }
