use Rattle.std.proofs.Common.{◌≡◌, ◌-◌, ◌^◌, ◌∷◌, length, map, sym, ap, subst, ◌∙◌}
use Rattle.tracker_model.specs.Grows.{history_at}
use Rattle.shards.specs.Histories.{IsJoined}
use Rattle.shards.specs.Shape.{PassShape, ShardsShape}
use Rattle.shards.proofs.JoinLemmas.{histories_joined, joined_is_pass, joined_now}
use Rattle.shards.proofs.PassLemmas.{count_is, seen_below}
use Rattle.shards.proofs.TurnLemmas.{seen_of}
use Rattle.shards.proofs.shards.Shards.join.Goals as goal

module _ (c : goal.After-drop-other-inside) where
  shards_are : c.other.inside.place.value ≡ c.pass.inside.place.value
  shards_are = ap (λ (q : PassShape). q.shards) c.other.view_is ∙ c.requires.other ∙ sym c.requires.pass ∙ sym (ap (λ (q : PassShape). q.shards) c.pass.view_is)

  as_many : length c.other.inside.turns.items ≡ length c.pass.inside.turns.items
  as_many = count_is _ _ _ _ _ c.other.invariant.0 ∙ ap (λ (s : ShardsShape). 2 ^ s.bits) shards_are ∙ sym (count_is _ _ _ _ _ c.pass.invariant.0)

pub invariant_of-pass : goal.invariant_of-pass
invariant_of-pass c =
    (joined_is_pass _ _ _ _ _ _ _ _ _ _ _ c.pass.invariant.0 c.other.invariant.0 (as_many c) c.join_turns.ensures.count c.join_turns.ensures.joined, c.pass.invariant.1)

pub returns-clause-known : goal.returns-clause-known
returns-clause-known c =
    let pass = joined_is_pass _ _ _ _ _ _ _ _ _ _ _ c.pass.invariant.0 c.other.invariant.0 (as_many c) c.join_turns.ensures.count c.join_turns.ensures.joined in
    record { free_fits = pass.free_fits; not_free = seen_below _ _ _ _ _ pass }

pub returns-clause-pass : goal.returns-clause-pass
returns-clause-pass c =
    let view = c.pass.view_is in
    let joined = joined_now _ _ _ _ _ _ _ _ _ _ _ c.pass.invariant.0 c.other.invariant.0 (as_many c) c.join_turns.ensures.count c.join_turns.ensures.joined in
    let numbers = joined ∙ (λ k. (c.other.view_is k).caller ∷ (view k).joined) in
    λ k. record { shards = (view k).shards; caller = (view k).caller; free = (view k).free; joined = numbers k; out = c.pass.inside.out - 1; seen = map seen_of c.join_turns.new.turns.items }

pub returns-clause-seen : goal.returns-clause-seen
returns-clause-seen c = λ bucket.
    let new = history_at (map seen_of c.join_turns.new.turns.items) bucket in
    let all = histories_joined _ _ _ _ _ _ _ _ _ _ _ c.pass.invariant.0 c.other.invariant.0 (as_many c) c.join_turns.ensures.count c.join_turns.ensures.joined bucket in
    let P : PassShape → PassShape → Type 0 = λ pass other. IsJoined (pass.caller ∷ pass.joined) other.caller (history_at pass.seen bucket) (history_at other.seen bucket) new in
    subst (λ (q : PassShape × PassShape). P q.0 q.1) (λ k. (c.pass.view_is k, c.other.view_is k)) all
