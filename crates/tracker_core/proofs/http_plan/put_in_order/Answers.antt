use Rattle.std.proofs.Common.{◌<◌, ◌++◌, length, take, sym, ◌∙◌, ap, arith}
use Rattle.std.proofs.lemmas.List.{take-append-drop}
use Rattle.std.specs.declared.cmp.Ordering.TheVariants.{Less, Equal}
use Rattle.tracker_core.proofs.OrderLemmas.{put_after, put_at, put_last}
use Rattle.tracker_core.proofs.http_plan.put_in_order.Goals as goal

pub returns-in-Less : goal.returns-in-Less
returns-in-Less c =
    let inside : c.places.place < length c.places.hashes.items = omega arith in
    c.in_ok-insert-in-Less.ensures.items
    ∙ sym (c.places.invariant ∙ ap (λ t. take c.places.place c.places.hashes.items ++ t)
    (put_at c.args.hash c.index.result.now c.places.hashes.items c.places.place Less inside c.index.ensures (sym c.in-Less.ensures)))

pub returns-in-Equal : goal.returns-in-Equal
returns-in-Equal c =
    let inside : c.places.place < length c.places.hashes.items = omega arith in
    sym (c.places.invariant ∙ ap (λ t. take c.places.place c.places.hashes.items ++ t)
    (put_at c.args.hash c.index.result.now c.places.hashes.items c.places.place Equal inside c.index.ensures (sym c.in-Equal.ensures))
    ∙ take-append-drop c.places.place c.places.hashes.items)

pub places-preserved : goal.places-preserved
places-preserved c =
    let inside : c.places.place < length c.places.hashes.items = omega arith in
    c.places.invariant ∙ put_after c.args.hash c.index.result.now c.places.hashes.items c.places.place inside c.index.ensures (sym c.in-Greater.ensures)

pub returns : goal.returns
returns c = c.in_ok-push.ensures.items ∙ sym (c.places.invariant ∙ put_last c.args.hash c.places.hashes.items c.places.place (omega arith))
