-- One more item is gone.
use Rattle.age_ring.proofs.Loops.{one_dropped}
use Rattle.age_ring.proofs.ring.AgeRing.drop_due.Goals as goal

pub loop-i-preserved : goal.loop-i-preserved
loop-i-preserved g c =
    one_dropped c.args.due c.loop-i.dropped c.in-Some.i c.args.steps.now c.loop-i.steps c.remove.new.steps c.args.self.now c.loop-i.self c.remove.new.self c.remove.result c.loop-i.invariant
    c.in-Some.ensures.within c.in-Some.ensures.due c.remove.ensures.pairs c.remove.ensures.spare c.remove.ensures.time c.remove.ensures.ages c.remove.ensures.steps
