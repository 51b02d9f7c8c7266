use Rattle.std.proofs.Common.{◌≡◌, [], ◌∷◌, ◌++◌, List, ℕ, ◌<◌, ◌^◌, set, sym, ap, subst, ◌∙◌}
use Rattle.tracker_model.specs.Legal.{IsLegalHistory}
use Rattle.tracker_model.specs.Placed.{bucket_in}
use Rattle.tracker_model.specs.declared.answer.Answer.TheVariants.{Stats}
use Rattle.tracker_model.specs.declared.call.Call.TheVariants.{Scrape}
use Rattle.tracker_model.specs.declared.entry.Entry.{Entry}
use Rattle.turn_lock.specs.Shape.{entry_of}
use Rattle.shards.specs.Passing.{MadeByPass}
use Rattle.shards.specs.Shape.{PassShape, ShardsShape}
use Rattle.shards.proofs.CallLemmas.{IsOver, knows_now, legal_there, made_now, pass_now, pass_of}
use Rattle.shards.proofs.shards.Shards.scrape.Goals.{After-give}
use Rattle.shards.proofs.shards.Shards.scrape.Goals as goal

module _ (g : _) (c : After-give g) where
  shards_are : c.args.self.now ≡ c.pass.inside.place.value
  shards_are = sym (ap (λ (p : PassShape). p.shards) c.pass.view_is ∙ c.requires.pass)

  below : c.place_in-bucket.result < 2 ^ c.pass.inside.place.value.bits
  below = subst (λ (s : ShardsShape). c.place_in-bucket.result < 2 ^ s.bits) (c.self.view_is ∙ shards_are) c.place_in-bucket.ensures.within

  over : IsOver c.index_mut-turn.result.now c.take-kept.new.turn c.give.new.turn c.args.minute (Scrape c.args.hash.now) (Stats c.scrape-known.result.0 c.scrape-known.result.1)
  over = record { taken = c.take-kept.ensures.turn; goes_on = c.take-kept.ensures.seen; given = c.give.ensures.turn; known = c.give.ensures.known }

  abbrev history : List Entry
  history = c.take-kept.new.turn.seen ++ entry_of c.pass.inside.caller c.args.minute (Scrape c.args.hash.now) (Stats c.scrape-known.result.0 c.scrape-known.result.1) ∷ []

  legal : IsLegalHistory c.pass.inside.place.value.settings history
  legal =
      subst (λ (s : ShardsShape). IsLegalHistory s.settings history) (c.self.view_is ∙ shards_are)
      (legal_there _ c.self.invariant.0 c.place_in-bucket.result c.place_in-bucket.ensures.within c.index-lock.result.now c.index-lock.ensures c.take-kept.result c.scrape-known.new.self c.take-kept.ensures.settings c.scrape-known.ensures.settings history (c.scrape-known.ensures.stands c.take-kept.new.turn.seen c.take-kept.ensures.stands))

pub invariant_of-pass : goal.invariant_of-pass
invariant_of-pass g c =
    let given = (goal.at.invariant_of-pass g c).After-give in
    let p = c.pass.inside in
    (pass_now p.place.value p.caller p.free p.out p.turns.items c.pass.invariant.0 c.place_in-bucket.result (below g given) _ _ _ c.index_mut-turn.ensures.value _ _ _ (over g given), c.pass.invariant.1)

pub returns-clause-known : goal.returns-clause-known
returns-clause-known g c =
    let given = (goal.at.returns-clause-known g c).After-give in
    let p = c.pass.inside in
    knows_now p.place.value p.caller p.free p.out p.turns.items c.pass.invariant.0 c.place_in-bucket.result (below g given) _ _ _ c.index_mut-turn.ensures.value _ _ _ (over g given)

pub returns-clause-made : goal.returns-clause-made
returns-clause-made g c =
    let given = (goal.at.returns-clause-made g c).After-give in
    let p = c.pass.inside in
    let made = made_now p.place.value p.caller p.free p.out p.turns.items c.pass.invariant.0 c.place_in-bucket.result (below g given) _ _ _ c.index_mut-turn.ensures.value _ _ _ (over g given) (legal g given) in
    let new = pass_of p.place.value p.caller p.free p.out (set p.turns.items c.place_in-bucket.result c.give.new.turn) in
    let there = c.place_in-bucket.ensures.place ∙ ap (λ (s : ShardsShape). bucket_in s.bits c.args.hash.now) c.self.view_is in
    subst (λ (q : PassShape × ℕ). MadeByPass q.0 q.1 c.args.minute (Scrape c.args.hash.now) (Stats c.scrape-known.result.0 c.scrape-known.result.1) new) (λ k. (c.pass.view_is k, there k)) made
