-- An item that has the time as its stamp is what it would be.
use Rattle.std.proofs.Common.{◌∙◌, ap}
use Rattle.std.proofs.lemmas.Option.{get_or_from_slice_get}
use Rattle.age_ring.specs.Ring.{stamps_of}
use Rattle.age_ring.proofs.Pairs.{stamped_again}
use Rattle.age_ring.proofs.ring.AgeRing.renew.Goals as goal

pub returns-else-stamp-self-clause-pairs : goal.returns-else-stamp-self-clause-pairs
returns-else-stamp-self-clause-pairs g c =
    let pairs = c.args.self.now.pairs in
    let stamp = get_or_from_slice_get (stamps_of pairs) c.args.i c.stamp.result 0 c.stamp.ensures in
    stamped_again pairs c.args.i c.args.self.now.time c.requires (stamp ∙ c.if-stamp-self.false ∙ ap (λ r. r.time) c.self.view_is)
