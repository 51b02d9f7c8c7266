-- The new last place is put into its list.
use Rattle.age_ring.proofs.Nodes.{pushed_nodes_at, pairs_of-push}
use Rattle.age_ring.proofs.lists.Lists.push.Goals as goal

pub link_first-requires-clause-linked : goal.link_first-requires-clause-linked
link_first-requires-clause-linked g c =
    pushed_nodes_at c.args.self.now.nodes.nodes c.push-place.new.self.nodes c.args.self.now.heads.items (record { item = c.args.item; stamp = c.args.stamp; prev = 4294967295; next = 4294967295 }) c.push-place.result
    c.requires.linked c.requires.few c.push-place.ensures.nodes c.push-place.ensures.place

pub returns-clause-pairs : goal.returns-clause-pairs
returns-clause-pairs g c =
    pairs_of-push c.args.self.now.nodes.nodes c.push-place.new.self.nodes c.link_first.new.self.nodes.nodes (record { item = c.args.item; stamp = c.args.stamp; prev = 4294967295; next = 4294967295 }) c.push-place.result
    c.push-place.ensures.nodes c.push-place.ensures.place c.link_first.ensures.pairs
