-- Who is left is young.
use Rattle.swarm.specs.Index.{place_in}
use Rattle.swarm.proofs.ExpireLemmas.{young_peers}
use Rattle.swarm.proofs.members.Members.pass_to.Goals as goal

pub returns-clause-young : goal.returns-clause-young
returns-clause-young g c =
    rw c.pass.ensures (young_peers (place_in c.drop_due-gone.new.index) c.drop_due-gone.new.order.pairs c.args.time c.drop_due-gone.ensures.young)
