-- The map's change, in the words of the index.
use Rattle.std.proofs.Common.{None, sym}
use Rattle.swarm.proofs.IndexLemmas.{puts_four, puts_six}
use Rattle.swarm.proofs.index.Index.remove.Goals as goal

pub returns-in-Some-clause-gone : goal.returns-in-Some-clause-gone
returns-in-Some-clause-gone c =
    puts_four _ c.shorts_in_order.ensures c.args.self.now c.args.who.now c.in-Some.short (sym c.in-Some.ensures) c.remove.new.self None c.remove.ensures.updates.0

pub returns-in-None-clause-gone : goal.returns-in-None-clause-gone
returns-in-None-clause-gone c =
    puts_six _ c.endpoints_in_order.ensures c.args.self.now c.args.who.now (sym c.in-None.ensures) c.remove-in-None.new.self None c.remove-in-None.ensures.updates.0
