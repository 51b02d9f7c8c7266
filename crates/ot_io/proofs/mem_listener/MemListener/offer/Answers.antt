-- The new connection is as fresh as those before it.
use Rattle.std.proofs.Common.{rules}
use Rattle.ot_io.proofs.Lists.{All-pushed}
use Rattle.ot_io.specs.Fresh.{IsFreshConn}
use Rattle.ot_io.proofs.mem_listener.MemListener.offer.Goals as goal

pub invariant_of-self-2-clause-fresh : goal.invariant_of-self-2-clause-fresh
invariant_of-self-2-clause-fresh c =
    let one : IsFreshConn c.in_ok-conn.conn = search rules in
    rw c.push_back.ensures.items (All-pushed IsFreshConn _ _ _ c.args.self.now.fresh one)
