-- One more is told at each turn, from within the list.
use Rattle.std.proofs.Common.{◌≡◌, ◌<◌, ◌∷◌, [], ◌++◌, ℕ, List, sym, ◌∙◌, ap, subst, arith, length, map, take, get_or}
use Rattle.std.proofs.lemmas.List.{length-map, map_more}
use Rattle.std.proofs.lemmas.Option.{get_or_from_slice_get}
use Rattle.ot_base.specs.Address.{no_endpoint}
use Rattle.ot_base.specs.declared.address.Endpoint.{Endpoint}
use Rattle.age_ring.specs.Ring.{items_of}
use Rattle.swarm.specs.Peers.{without}
use Rattle.swarm.proofs.ChoiceLemmas.{passed_over, some_within}
use Rattle.swarm.proofs.choice.choose_others.Goals as goal

pub passing_over-i-requires : goal.passing_over-i-requires
passing_over-i-requires c =
    let items = c.as_slice-position-items.result.now in
    let i = c.loop-position.position-index in
    let P : List ℕ → Type 0 = λ l. get_or l i 0 < c.others_count-others.result in
    let below : get_or items i 0 < c.others_count-others.result = subst P (sym c.as_slice-position-items.ensures.value) (c.pick-picks.ensures.below i 0 (omega (arith, ap length c.as_slice-position-items.ensures.value, c.loop-position-test.true))) in
    omega (arith, below, c.others_count-others.ensures.most)

pub item-requires : goal.item-requires
item-requires c =
    let items = c.as_slice-position-items.result.now in
    let i = c.loop-position.position-index in
    let names = items_of c.args.order.now.pairs in
    let P : List ℕ → Type 0 = λ l. get_or l i 0 < c.others_count-others.result in
    let below : get_or items i 0 < c.others_count-others.result = subst P (sym c.as_slice-position-items.ensures.value) (c.pick-picks.ensures.below i 0 (omega (arith, ap length c.as_slice-position-items.ensures.value, c.loop-position-test.true))) in
    let past = passed_over names c.args.place (get_or items i 0) no_endpoint (some_within c.args.order.now.pairs c.args.place c.requires.within) (omega (arith, below, c.others_count-others.ensures.count)) in
    omega (arith, past.0, c.passing_over-i.ensures, length-map c.args.order.now.pairs (λ (p : Endpoint × ℕ). p.0))

pub loop-position-preserved : goal.loop-position-preserved
loop-position-preserved c =
    let items = c.as_slice-position-items.result.now in
    let i = c.loop-position.position-index in
    let names = items_of c.args.order.now.pairs in
    let rest = without c.args.place names in
    let f = λ (p : ℕ). get_or rest p no_endpoint in
    let P : List ℕ → Type 0 = λ l. get_or l i 0 < c.others_count-others.result in
    let below : get_or items i 0 < c.others_count-others.result = subst P (sym c.as_slice-position-items.ensures.value) (c.pick-picks.ensures.below i 0 (omega (arith, ap length c.as_slice-position-items.ensures.value, c.loop-position-test.true))) in
    let past = passed_over names c.args.place (get_or items i 0) no_endpoint (some_within c.args.order.now.pairs c.args.place c.requires.within) (omega (arith, below, c.others_count-others.ensures.count)) in
    let is : c.item.result ≡ f (get_or items i 0) = sym (get_or_from_slice_get names c.passing_over-i.result c.item.result no_endpoint c.item.ensures) ∙ ap (λ k. get_or names k no_endpoint) c.passing_over-i.ensures ∙ past.1 in
    let before : c.loop-position.peers ≡ map f (take i items) = c.loop-position.invariant in
    c.push.ensures ∙ ap (λ l. l ++ c.item.result ∷ []) before ∙ ap (λ e. map f (take i items) ++ e ∷ []) is ∙ sym (map_more f items i 0 c.loop-position-test.true)
