use Rattle.std.proofs.Common.{◌≡◌, ◌+◌, ◌<◌, All, List, map, refl, sym, ap, subst, ◌∙◌}
use Rattle.std.proofs.lemmas.List.Elements.{All-map}
use Rattle.tracker_model.specs.Grows.{OthersBetween}
use Rattle.turn_lock.specs.Shape.{TurnShape}
use Rattle.shards.specs.Shape.{IsPass, PassShape, ShardsShape, joined_of}
use Rattle.shards.proofs.PassLemmas.{kept_is_pass, kept_turn, numbers_spare, split_is_pass, split_turn}
use Rattle.shards.proofs.TurnLemmas.{joined_stay, none_joined, seen_of, seen_stays}
use Rattle.shards.proofs.shards.Shards.split_one.Goals as goal

-- a number that the pass has free, as its fields have it
is_spare : (p pass : PassShape) (shards : ShardsShape) → p ≡ pass → pass.shards ≡ shards → pass.free < shards.callers → p.free < p.shards.callers
is_spare p pass shards same of spare =
    subst (λ (q : PassShape). q.free < q.shards.callers) (sym same) (rw of spare)

pub split_turns-turns-requires-clause-number : goal.split_turns-turns-requires-clause-number
split_turns-turns-requires-clause-number c =
    let p = c.pass.inside in
    numbers_spare p.place.value p.caller p.free p.out p.turns.items c.pass.invariant.0 (is_spare _ _ _ c.pass.view_is c.requires.pass c.requires.spare)

pub invariant_of-pass : goal.invariant_of-pass
invariant_of-pass c =
    let p = c.pass.inside in (
      rw c.split_turns-turns.ensures.turns (kept_is_pass p.place.value p.caller p.free p.out p.turns.items c.pass.invariant.0 (is_spare _ _ _ c.pass.view_is c.requires.pass c.requires.spare)),
      c.pass.invariant.1,
    )

pub invariant_of-result : goal.invariant_of-result
invariant_of-result c =
    let p = c.pass.inside in
    let new : List TurnShape = map (split_turn p.free) p.turns.items in
    let shards : p.place.value ≡ c.of.result.value = ap (λ (q : PassShape). q.shards) c.pass.view_is ∙ c.requires.pass ∙ sym c.of.ensures in
    let callers : c.self.inside.callers ≡ c.of.result.value.callers = ap (λ (s : ShardsShape). s.callers) (c.self.view_is ∙ sym c.of.ensures) in
    let pass = split_is_pass p.place.value p.caller p.free p.out p.turns.items c.pass.invariant.0 (is_spare _ _ _ c.pass.view_is c.requires.pass c.requires.spare) in (
      rw (c.split_turns-turns.ensures.new, callers) (subst (λ (s : ShardsShape). IsPass s p.free s.callers 0 new) shards pass),
      callers,
    )

pub returns-clause-new : goal.returns-clause-new
returns-clause-new c =
    let p = c.pass.inside in
    let turns : List TurnShape = p.turns.items in
    let view = c.pass.view_is in
    let new = c.split_turns-turns.ensures.new in
    let joined = ap joined_of new ∙ none_joined (split_turn p.free) (λ _. refl) turns in
    let seen = ap (map seen_of) new ∙ seen_stays (split_turn p.free) (λ _. refl) turns ∙ ap (λ (q : PassShape). q.seen) view in
    λ k. record { shards = c.of.ensures k; caller = (view k).free; free = (c.self.view_is k).callers; joined = joined k; out = 0; seen = seen k }

pub returns-clause-pass : goal.returns-clause-pass
returns-clause-pass c =
    let p = c.pass.inside in
    let turns : List TurnShape = p.turns.items in
    let view = c.pass.view_is in
    let kept = c.split_turns-turns.ensures.turns in
    let joined = ap joined_of kept ∙ joined_stay (kept_turn p.free) (λ _. refl) turns ∙ ap (λ (q : PassShape). q.joined) view in
    let seen = ap (map seen_of) kept ∙ seen_stays (kept_turn p.free) (λ _. refl) turns ∙ ap (λ (q : PassShape). q.seen) view in
    λ k. record { shards = (view k).shards; caller = (view k).caller; free = (view k).free + 1; joined = joined k; out = (view k).out + 1; seen = seen k }

pub returns-clause-no_entry_yet : goal.returns-clause-no_entry_yet
returns-clause-no_entry_yet c =
    let p = c.pass.inside in
    subst (λ (q : PassShape). All (OthersBetween q.free) q.seen) c.pass.view_is (All-map (OthersBetween p.free) seen_of p.turns.items c.split_turns-turns.ensures.no_entry_yet)
