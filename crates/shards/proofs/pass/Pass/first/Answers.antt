use Rattle.std.proofs.Common.{◌≡◌, [], map, refl, sym, ap, subst, ◌∙◌}
use Rattle.turn_lock.specs.Shape.{first_turn}
use Rattle.shards.specs.Shape.{IsPass, joined_of}
use Rattle.shards.proofs.PassLemmas.{first_is_pass, first_seen}
use Rattle.shards.proofs.TurnLemmas.{none_joined, seen_of}
use Rattle.shards.proofs.pass.Pass.first.Goals as goal

pub invariant_of-result : goal.invariant_of-result
invariant_of-result c =
    let pass : IsPass c.args.shards.now 0 1 0 (map first_turn c.args.shards.now.locks) =
    subst (λ s. IsPass s 0 1 0 (map first_turn s.locks)) c.shards.view_is (first_is_pass _ c.shards.invariant.0) in
    (rw (c.of.ensures, c.requires) pass, ap (λ s. s.callers) (c.shards.view_is ∙ sym c.of.ensures))

pub returns : goal.returns
returns c =
    let joined : joined_of c.args.turns.items ≡ [] = ap joined_of c.requires ∙ none_joined first_turn (λ _. refl) c.args.shards.now.locks in
    let seen = ap (map seen_of) c.requires ∙ first_seen c.args.shards.now.locks in
    λ k. record { shards = c.of.ensures k; caller = 0; free = 1; joined = joined k; out = 0; seen = seen k }
