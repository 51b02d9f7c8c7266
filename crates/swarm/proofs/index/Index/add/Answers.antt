-- The map's change, in the words of the index.
use Rattle.std.proofs.Common.{Some, sym}
use Rattle.swarm.proofs.IndexLemmas.{puts_four, puts_six}
use Rattle.swarm.proofs.index.Index.add.Goals as goal

pub returns-in_ok-insert-in-Some-clause-ok : goal.returns-in_ok-insert-in-Some-clause-ok
returns-in_ok-insert-in-Some-clause-ok c =
    puts_four _ c.shorts_in_order.ensures c.args.self.now c.args.who c.in-Some.short (sym c.in-Some.ensures) c.insert.new.self (Some c.args.place) c.in_ok-insert-in-Some.ensures.updates.0

pub returns-in_ok-insert-in-None-clause-ok : goal.returns-in_ok-insert-in-None-clause-ok
returns-in_ok-insert-in-None-clause-ok c =
    puts_six _ c.endpoints_in_order.ensures c.args.self.now c.args.who (sym c.in-None.ensures) c.insert-in-None.new.self (Some c.args.place) c.in_ok-insert-in-None.ensures.updates.0
