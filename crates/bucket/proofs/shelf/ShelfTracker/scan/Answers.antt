-- What the bucket promises is what the shelf promises.
use Rattle.tracker_model.specs.Making.{scanned}
use Rattle.tracker_model.specs.declared.call.Call.TheVariants.{Scan}
use Rattle.bucket.proofs.ShelfLemmas.{made_in}
use Rattle.bucket.proofs.shelf.ShelfTracker.scan.Goals as goal

pub returns-clause-made : goal.returns-clause-made
returns-clause-made c =
    let k = c.self.inside in
    made_in k.bits (record { limits = k.limits; sync = k.sync }) k.buckets.items c.args.self.now c.self.view_is c.self.invariant c.args.bucket c.requires.within
    c.index_mut.result.now c.index_mut.ensures.value c.args.minute Scan (scanned c.scan.result) c.scan.new.self c.scan.ensures.settings c.scan.ensures.stands
