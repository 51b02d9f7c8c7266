use Rattle.std.proofs.Common.{◌+◌, ◌<◌, All}
use Rattle.age_ring.proofs.ring.AgeRing.next_due.Given as goal

-- the lists that it has passed are empty
abbrev pub invariant-loop-k : goal.invariant-loop-k
invariant-loop-k g l = All (λ pair. l.start + l.k < pair.1 + l.self.ages) l.self.pairs
