-- Both families are moved on to one time.
use Rattle.std.proofs.Common.{sym, ◌∙◌, arith}
use Rattle.ot_base.specs.declared.address.Family.TheVariants.{Four, Six}
use Rattle.swarm.proofs.TogetherLemmas.{of_it-expires, fewer}
use Rattle.swarm.proofs.swarm.Swarm.advance.Goals as goal

pub invariant_of-self : goal.invariant_of-self
invariant_of-self g c =
    let k = c.self.inside in
    record {
      same_time = c.advance-2.ensures.time ∙ sym c.advance.ensures.time;
      four = of_it-expires Four c.args.time.0 k.fours.peers c.advance.new.self.peers c.advance.ensures.expires c.self.invariant.four;
      six = of_it-expires Six c.args.time.0 k.sixes.peers c.advance-2.new.self.peers c.advance-2.ensures.expires c.self.invariant.six;
      few = omega (arith, fewer c.args.time.0 k.fours.peers c.advance.new.self.peers c.advance.ensures.expires, fewer c.args.time.0 k.sixes.peers c.advance-2.new.self.peers c.advance-2.ensures.expires, c.self.invariant.few);
    }
