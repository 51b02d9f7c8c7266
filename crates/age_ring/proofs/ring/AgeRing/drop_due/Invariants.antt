-- What was dropped so far was due.
use Rattle.std.proofs.Common.{length}
use Rattle.age_ring.proofs.Loops.{HasDropped}
use Rattle.age_ring.proofs.ring.AgeRing.drop_due.Given as goal

abbrev pub invariant-loop-i : goal.invariant-loop-i
invariant-loop-i g l = HasDropped l.due l.initial.self l.self l.dropped l.initial.steps l.steps

abbrev pub decreases-loop-i : goal.decreases-loop-i
decreases-loop-i g l = length l.self.pairs
