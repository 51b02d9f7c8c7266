-- The minutes so far have been passed.
use Rattle.swarm.proofs.ExpireLemmas.{IsPassing}
use Rattle.swarm.proofs.members.Members.advance.Given as goal

abbrev pub invariant-loop-minute : goal.invariant-loop-minute
invariant-loop-minute g l = IsPassing l.start l.minute l.fn.self l.self l.fn.steps l.steps
