-- Lists without a node are linked.
use Rattle.age_ring.proofs.Nodes.{no_nodes}
use Rattle.age_ring.proofs.lists.Lists.new.Goals as goal

pub returns-clause-linked : goal.returns-clause-linked
returns-clause-linked g c =
    no_nodes c.new.result.nodes c.in_ok-heads.heads.items c.args.ages c.new.ensures.nodes (c.in_ok-heads.ensures.items_if_clones_equal (λ y e. e)) c.requires
