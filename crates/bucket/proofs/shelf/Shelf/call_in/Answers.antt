-- What the bucket promises is what the shelf promises.
use Rattle.bucket.proofs.ShelfLemmas.{made_in}
use Rattle.bucket.proofs.shelf.Shelf.call_in.Goals as goal

pub returns-clause-made : goal.returns-clause-made
returns-clause-made c =
    let k = c.self.inside in
    made_in k.bits (record { limits = k.limits; sync = k.sync }) k.buckets.items c.args.self.now c.self.view_is c.self.invariant c.args.bucket c.requires.within
    c.index_mut.result.now c.index_mut.ensures.value c.args.minute c.args.call c.call.result c.call.new.self c.call.ensures.settings c.call.ensures.stands
