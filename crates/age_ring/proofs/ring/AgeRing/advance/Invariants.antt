-- The lists that it has passed have no item that is due.
use Rattle.age_ring.proofs.Loops.{HasPassed}
use Rattle.age_ring.proofs.ring.AgeRing.advance.Given as goal

abbrev pub invariant-loop-k : goal.invariant-loop-k
invariant-loop-k g l = HasPassed l.time l.start l.k l.initial.self l.self l.dropped l.initial.steps l.steps
