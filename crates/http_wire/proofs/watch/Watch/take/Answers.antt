use Rattle.std.specs.Prelude.{◌||◌}
use Rattle.std.specs.List.{list_any}
use Rattle.std.proofs.Common.{◌≡◌, ◌==◌, true, ◌++◌, refl, fold, ap, ◌∙◌, subst}
use Rattle.std.proofs.lemmas.Bool.{OnFalse_from, OnTrue_from}
use Rattle.std.proofs.lemmas.List.{take_all}
use Rattle.http_wire.specs.Head.{IsAnswer}
use Rattle.http_wire.specs.Watch.{watch_after}
use Rattle.http_wire.specs.declared.head.Head.TheVariants.{More}
use Rattle.http_wire.proofs.WatchLemmas.{watch-piece, watch_step, ended_step}
use Rattle.http_wire.proofs.watch.Watch.take.Goals as goal

pub loop-byte-preserved : goal.loop-byte-preserved
loop-byte-preserved c =
    let inside = c.loop-byte-test.true in
    let was = c.loop-byte.invariant in
    let step =
    watch_step c.args.self.now c.loop-byte.watch c.after-watch.result c.args.piece.now c.loop-byte.byte-index c.loop-byte.may_change
    c.ends_line-may_change.result (c.loop-byte.may_change || c.ends_line-may_change.result) inside was.0 c.after-watch.ensures
    c.ends_line-may_change.ensures refl was.1 in (
      step.0,
      step.1,
      ended_step c.loop-byte.watch c.after-watch.result c.args.piece.now c.loop-byte.byte-index c.loop-byte.may_change
          c.ends_line-may_change.result inside c.after-watch.ensures c.ends_line-may_change.ensures was.2,
    )

pub returns-clause-after : goal.returns-clause-after
returns-clause-after c = λ before e.
    c.loop-byte.invariant.0
    ∙ ap (fold watch_after c.args.self.now) (take_all c.loop-byte.byte-index c.args.piece.now c.loop-byte-test.false)
    ∙ watch-piece before c.args.piece.now c.args.self.now e

pub returns-clause-otherwise : goal.returns-clause-otherwise
returns-clause-otherwise c =
    OnFalse_from c.loop-byte.may_change _ (λ none before e h.
    subst (λ t. IsAnswer (before ++ t) More) (take_all c.loop-byte.byte-index c.args.piece.now c.loop-byte-test.false)
    (c.loop-byte.invariant.1 none before e h))

pub returns-clause-told : goal.returns-clause-told
returns-clause-told c =
    OnTrue_from c.loop-byte.may_change _ (λ told.
    let ended = c.loop-byte.invariant.2 told in
    (ended.begun, subst (λ t. list_any (λ b. b == 10) t ≡ true) (take_all c.loop-byte.byte-index c.args.piece.now c.loop-byte-test.false) ended.line_end))
