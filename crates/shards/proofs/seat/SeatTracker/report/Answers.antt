use Rattle.std.proofs.Common.{◌≡◌, ℕ, [], ◌∷◌, ◌++◌, List, ◌<◌, ◌^◌, set, refl, sym, ap, subst, ◌∙◌}
use Rattle.tracker_model.specs.Answers.{with_peers}
use Rattle.tracker_model.specs.Legal.{IsLegalHistory}
use Rattle.tracker_model.specs.Placed.{bucket_for, bucket_in}
use Rattle.tracker_model.specs.declared.answer.Answer.{Answer}
use Rattle.tracker_model.specs.declared.entry.Entry.{Entry}
use Rattle.turn_lock.specs.Shape.{entry_of}
use Rattle.shards.specs.Passing.{MadeByPass}
use Rattle.shards.specs.Shape.{PassShape, ShardsShape}
use Rattle.shards.proofs.CallLemmas.{IsOver, legal_there, made_now, pass_now, pass_of}
use Rattle.shards.proofs.seat.SeatTracker.report.Goals.{After-give}
use Rattle.shards.proofs.seat.SeatTracker.report.Goals as goal

module _ (g : _) (c : After-give g) where
  abbrev answer : Answer
  answer = with_peers c.report-answer.new.told c.report-answer.result

  shards_are : c.args.self.now.shards.now ≡ c.pass.inside.place.value
  shards_are = sym (ap (λ (p : PassShape). p.shards) c.pass.view_is ∙ c.args.self.now.of_shards)

  below : c.place_of-bucket.result < 2 ^ c.pass.inside.place.value.bits
  below = subst (λ (s : ShardsShape). c.place_of-bucket.result < 2 ^ s.bits) (c.shards.view_is ∙ shards_are) c.place_of-bucket.ensures.within

  over : IsOver c.index_mut-turn.result.now c.take-kept.new.turn c.give.new.turn c.args.minute c.args.call answer
  over = record { taken = c.take-kept.ensures.turn; goes_on = c.take-kept.ensures.seen; given = c.give.ensures.turn; known = c.give.ensures.known }

  abbrev history : List Entry
  history = c.take-kept.new.turn.seen ++ entry_of c.pass.inside.caller c.args.minute c.args.call answer ∷ []

  legal : IsLegalHistory c.pass.inside.place.value.settings history
  legal =
      subst (λ (s : ShardsShape). IsLegalHistory s.settings history) (c.shards.view_is ∙ shards_are)
      (legal_there _ c.shards.invariant.0 c.place_of-bucket.result c.place_of-bucket.ensures.within c.index-lock.result.now c.index-lock.ensures c.take-kept.result c.report-answer.new.self c.take-kept.ensures.settings c.report-answer.ensures.settings history (c.report-answer.ensures.stands c.take-kept.new.turn.seen c.take-kept.ensures.stands))

  made : MadeByPass c.args.self.now.pass.now (bucket_for (bucket_in c.args.self.now.shards.now.bits) c.args.call) c.args.minute c.args.call answer
      (pass_of c.pass.inside.place.value c.pass.inside.caller c.pass.inside.free c.pass.inside.out (set c.pass.inside.turns.items c.place_of-bucket.result c.give.new.turn))
  made =
      let p = c.pass.inside in
      let new = pass_of p.place.value p.caller p.free p.out (set p.turns.items c.place_of-bucket.result c.give.new.turn) in
      let there = c.place_of-bucket.ensures.place ∙ ap (λ (s : ShardsShape). bucket_for (bucket_in s.bits) c.args.call) c.shards.view_is in
      subst (λ (q : PassShape × ℕ). MadeByPass q.0 q.1 c.args.minute c.args.call answer new) (λ k. (c.pass.view_is k, there k))
      (made_now p.place.value p.caller p.free p.out p.turns.items c.pass.invariant.0 c.place_of-bucket.result below _ _ _ c.index_mut-turn.ensures.value _ _ _ over legal)

pub invariant_of-pass : goal.invariant_of-pass
invariant_of-pass g c =
    let given = (goal.at.invariant_of-pass g c).After-give in
    let p = c.pass.inside in
    (pass_now p.place.value p.caller p.free p.out p.turns.items c.pass.invariant.0 c.place_of-bucket.result (below g given) _ _ _ c.index_mut-turn.ensures.value _ _ _ (over g given), c.pass.invariant.1)

pub returns-clause-made : goal.returns-clause-made
returns-clause-made g c = (refl, made g (goal.at.returns-clause-made g c).After-give)
