-- No peer comes, and the swarm tells that its peers are tidy.
use Rattle.std.proofs.Common.{arith}
use Rattle.swarm.proofs.TogetherLemmas.{fewer}
use Rattle.bucket.proofs.stored.Stored.move_on.Goals as goal

pub returns-clause-fit : goal.returns-clause-fit
returns-clause-fit g c = λ limit few. record {
  past = omega arith;
  few = omega (arith, few, fewer c.args.now.0 c.args.self.now.swarm.fours c.advance.new.self.fours c.advance.ensures.fours, fewer c.args.now.0 c.args.self.now.swarm.sixes c.advance.new.self.sixes c.advance.ensures.sixes);
  tidy = c.peers_are_tidy.ensures;
}
