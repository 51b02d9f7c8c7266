-- The item is what it was.
use Rattle.std.proofs.Common.{◌∙◌, ap, set}
use Rattle.age_ring.specs.Ring.{items_of}
use Rattle.age_ring.specs.Links.{pairs_of}
use Rattle.age_ring.proofs.Pairs.{items_of-set}
use Rattle.age_ring.proofs.ring.AgeRing.relink.Goals as goal

pub returns-clause-items : goal.returns-clause-items
returns-clause-items g c =
    let old = pairs_of c.self.inside.lists.nodes.nodes in
    items_of-set old (pairs_of c.link_first.new.self.nodes.nodes) c.args.i c.self.inside.time c.unlink-item.result c.unlink-item.ensures.item (c.link_first.ensures.pairs ∙ ap (λ l. set l c.args.i (c.unlink-item.result, c.self.inside.time)) c.unlink-item.ensures.pairs)
    ∙ ap (λ r. items_of r.pairs) c.self.view_is
