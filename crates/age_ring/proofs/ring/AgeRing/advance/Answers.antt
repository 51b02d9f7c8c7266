-- List after list, what is due is dropped.
use Rattle.std.proofs.Common.{◌+◌, ◌≤◌, ◌∙◌, ap, arith}
use Rattle.age_ring.proofs.Pairs.{drops_still, drops_length}
use Rattle.age_ring.proofs.Loops.{one_passed}
use Rattle.age_ring.proofs.ring.AgeRing.advance.Goals as goal

pub overflow_add-dropped : goal.overflow_add-dropped
overflow_add-dropped g c =
    omega (arith, c.loop-k.invariant.so_far.few, drops_length c.loop-k.self.ages (c.self.inside.time + c.loop-k.k + 1) c.drop_due-dropped.result c.loop-k.self.pairs c.drop_due-dropped.new.self.pairs c.drop_due-dropped.ensures.drops)

pub loop-k-preserved : goal.loop-k-preserved
loop-k-preserved g c =
    let soon : c.self.inside.time + c.loop-k.k + 1 ≤ c.args.time = omega arith in
    one_passed c.args.time c.self.inside.time c.loop-k.k c.loop-k.dropped c.drop_due-dropped.result c.args.steps.now c.loop-k.steps c.drop_due-dropped.new.steps c.args.self.now c.loop-k.self c.drop_due-dropped.new.self c.loop-k.invariant soon
    c.drop_due-dropped.ensures.drops c.drop_due-dropped.ensures.left c.drop_due-dropped.ensures.spare c.drop_due-dropped.ensures.time c.drop_due-dropped.ensures.ages c.drop_due-dropped.ensures.steps

pub returns-clause-still : goal.returns-clause-still
returns-clause-still g c = λ young.
    ap (λ r. r.pairs) c.self-2.view_is
    ∙ drops_still c.args.self.now.ages c.args.time c.loop-k.dropped c.args.self.now.pairs c.loop-k.self.pairs c.loop-k.invariant.so_far.drops young
