use Rattle.std.proofs.Common.{◌≡◌, IsSome, Some, refl, sym, ap, ◌∙◌, subst}
use Rattle.std.specs.Slots.{slots_items}
use mathlib.Core.Option.{some-injective}
use Rattle.turn_lock.proofs.EndLemmas.{IsClosed, closes}
use Rattle.turn_lock.proofs.steps.finish.Given.{Over}
use Rattle.turn_lock.proofs.steps.finish.Goals.{After-take-value}
use Rattle.turn_lock.proofs.steps.finish.Goals as goal

closed : (g : Over) (c : After-take-value g) →
    IsClosed g.T.Stands.settings g.T.Stands.stands (g.T.Stands.settings c.args.board.shared.key.first.value)
    c.args.board.shared.key.callers c.args.place.me.0 (slots_items c.close_with-closed.result.words) (slots_items c.close_with-closed.result.slots)
closed g c = closes _ _ _ _ _ _ _ _ c.requires.free c.requires.first c.requires.alone c.close_with-closed.ensures.values.2

taken : (g : Over) (c : After-take-value g) → c.take-value.result ≡ Some (closed g c).value
taken g c = some-injective _ _ (sym c.take-value.ensures.value ∙ (closed g c).slot_is)

pub unwrap-requires : goal.unwrap-requires
unwrap-requires g c = subst IsSome (sym (taken g (goal.at.unwrap-requires g c).After-take-value)) refl

pub returns-clause-settings : goal.returns-clause-settings
returns-clause-settings g c =
    let before = (goal.at.returns-clause-settings g c).After-take-value in
    let is : c.unwrap.result ≡ (closed g before).value = let both = sym c.unwrap.ensures ∙ taken g before in cc in
    ap g.T.Stands.settings is ∙ (closed g before).settings_are

pub returns-clause-stands : goal.returns-clause-stands
returns-clause-stands g c =
    let before = (goal.at.returns-clause-stands g c).After-take-value in
    let is : c.unwrap.result ≡ (closed g before).value = let both = sym c.unwrap.ensures ∙ taken g before in cc in
    subst (λ x. g.T.Stands.stands x c.args.place.me.0.seen) (sym is) (closed g before).stands_for

pub returns-clause-count : goal.returns-clause-count
returns-clause-count g c = some-injective _ _ (sym c.word-count.ensures ∙ (closed g (goal.at.returns-clause-count g c).After-take-value).count_is)
