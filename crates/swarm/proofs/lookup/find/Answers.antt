-- The order and the flags tell what the index has.
use Rattle.std.proofs.Common.{ℕ, ◌∙◌, sym, arith}
use Rattle.std.proofs.lemmas.List.{length-map}
use Rattle.std.proofs.lemmas.Option.{slice_get_within}
use Rattle.age_ring.specs.Ring.{items_of}
use Rattle.ot_base.specs.declared.address.Endpoint.{Endpoint}
use Rattle.swarm.specs.Index.{place_in}
use Rattle.swarm.proofs.FlagLemmas.{flag_within, told_at, told_nowhere}
use Rattle.swarm.proofs.lookup.find.Goals as goal

pub returns-in_err-at : goal.returns-in_err-at
returns-in_err-at c =
    c.from_residual.ensures ∙ sym (told_nowhere c.args.order.now.pairs (place_in c.args.index.now) c.args.who.now c.requires.indexed c.in_err-at.ensures.nowhere)

pub is_seed-seed-requires-clause-within : goal.is_seed-seed-requires-clause-within
is_seed-seed-requires-clause-within c =
    let pairs = c.args.order.now.pairs in
    omega (arith, slice_get_within (items_of pairs) c.in_ok-at.at c.args.who.now c.in_ok-at.ensures.found, length-map pairs (λ (p : Endpoint × ℕ). p.0), flag_within (place_in c.args.index.now) pairs c.args.flags.now c.requires.flagged)

pub returns-then-len-le-FEW : goal.returns-then-len-le-FEW
returns-then-len-le-FEW c =
    sym (told_at (place_in c.args.index.now) c.args.order.now.pairs c.args.flags.now c.in_ok-at.at c.args.who.now c.is_seed-seed.result c.requires.indexed c.requires.flagged c.in_ok-at.ensures.found c.is_seed-seed.ensures)

pub is_seed-seed-requires-in-Some-clause-within : goal.is_seed-seed-requires-in-Some-clause-within
is_seed-seed-requires-in-Some-clause-within c =
    let pairs = c.args.order.now.pairs in
    omega (arith, slice_get_within (items_of pairs) c.in-Some.at c.args.who.now c.in-Some.ensures, length-map pairs (λ (p : Endpoint × ℕ). p.0), flag_within (place_in c.args.index.now) pairs c.args.flags.now c.requires.flagged)

pub returns-in-Some : goal.returns-in-Some
returns-in-Some c =
    sym (told_at (place_in c.args.index.now) c.args.order.now.pairs c.args.flags.now c.in-Some.at c.args.who.now c.is_seed-seed-in-Some.result c.requires.indexed c.requires.flagged c.in-Some.ensures c.is_seed-seed-in-Some.ensures)
