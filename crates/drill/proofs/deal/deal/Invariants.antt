use Rattle.std.proofs.Common.{length}
use Rattle.drill.specs.Dealing.{AreDealt}
use Rattle.drill.proofs.deal.deal.Given as goal

-- the requests so far were dealt
abbrev pub invariant-loop-request : goal.invariant-loop-request
invariant-loop-request l = AreDealt l.phase l.initial.load l.load l.initial.team.items l.team.items

abbrev pub decreases-loop-request : goal.decreases-loop-request
decreases-loop-request l = length l.load
