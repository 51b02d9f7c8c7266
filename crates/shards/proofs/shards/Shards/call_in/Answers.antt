use Rattle.std.proofs.Common.{◌≡◌, [], ◌∷◌, ◌++◌, List, ◌<◌, ◌^◌, set, sym, ap, subst, ◌∙◌}
use Rattle.tracker_model.specs.Legal.{IsLegalHistory}
use Rattle.tracker_model.specs.declared.entry.Entry.{Entry}
use Rattle.turn_lock.specs.Shape.{entry_of}
use Rattle.shards.specs.Passing.{MadeByPass}
use Rattle.shards.specs.Shape.{PassShape, ShardsShape}
use Rattle.shards.proofs.CallLemmas.{IsOver, knows_now, legal_there, made_now, pass_now, pass_of, place_now}
use Rattle.shards.proofs.shards.Shards.call_in.Goals.{After-give}
use Rattle.shards.proofs.shards.Shards.call_in.Goals as goal

module _ (g : _) (c : After-give g) where
  shards_are : c.args.self.now ≡ c.pass.inside.place.value
  shards_are = sym (ap (λ (p : PassShape). p.shards) c.pass.view_is ∙ c.requires.pass)

  below : c.args.bucket < 2 ^ c.pass.inside.place.value.bits
  below = subst (λ (s : ShardsShape). c.args.bucket < 2 ^ s.bits) shards_are c.requires.within

  over : IsOver c.index_mut-turn.result.now c.take-kept.new.turn c.give.new.turn c.args.minute c.args.call c.call.result
  over = record { taken = c.take-kept.ensures.turn; goes_on = c.take-kept.ensures.seen; given = c.give.ensures.turn; known = c.give.ensures.known }

  abbrev history : List Entry
  history = c.take-kept.new.turn.seen ++ entry_of c.pass.inside.caller c.args.minute c.args.call c.call.result ∷ []

  legal : IsLegalHistory c.pass.inside.place.value.settings history
  legal =
      subst (λ (s : ShardsShape). IsLegalHistory s.settings history) (c.self.view_is ∙ shards_are)
      (legal_there _ c.self.invariant.0 c.args.bucket (subst (λ (s : ShardsShape). c.args.bucket < 2 ^ s.bits) (sym c.self.view_is) c.requires.within) c.index-lock.result.now c.index-lock.ensures c.take-kept.result c.call.new.self c.take-kept.ensures.settings c.call.ensures.settings history (c.call.ensures.stands c.take-kept.new.turn.seen c.take-kept.ensures.stands))

pub invariant_of-pass : goal.invariant_of-pass
invariant_of-pass g c =
    let given = (goal.at.invariant_of-pass g c).After-give in
    let p = c.pass.inside in
    (pass_now p.place.value p.caller p.free p.out p.turns.items c.pass.invariant.0 c.args.bucket (below g given) _ _ _ c.index_mut-turn.ensures.value _ _ _ (over g given), c.pass.invariant.1)

pub returns-clause-known : goal.returns-clause-known
returns-clause-known g c =
    let given = (goal.at.returns-clause-known g c).After-give in
    let p = c.pass.inside in
    knows_now p.place.value p.caller p.free p.out p.turns.items c.pass.invariant.0 c.args.bucket (below g given) _ _ _ c.index_mut-turn.ensures.value _ _ _ (over g given)

pub returns-clause-made : goal.returns-clause-made
returns-clause-made g c =
    let given = (goal.at.returns-clause-made g c).After-give in
    let p = c.pass.inside in
    let made = made_now p.place.value p.caller p.free p.out p.turns.items c.pass.invariant.0 c.args.bucket (below g given) _ _ _ c.index_mut-turn.ensures.value _ _ _ (over g given) (legal g given) in
    subst (λ (q : PassShape). MadeByPass q c.args.bucket c.args.minute c.args.call c.call.result (pass_of p.place.value p.caller p.free p.out (set p.turns.items c.args.bucket c.give.new.turn))) c.pass.view_is made

pub returns-clause-place : goal.returns-clause-place
returns-clause-place g c =
    let given = (goal.at.returns-clause-place g c).After-give in
    let p = c.pass.inside in
    place_now p.place.value p.caller p.free p.out p.turns.items c.pass.invariant.0 c.args.bucket (below g given) _ _ _ c.index_mut-turn.ensures.value _ _ _ (over g given) _ c.give.ensures.place
