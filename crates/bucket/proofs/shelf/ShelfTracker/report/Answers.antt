-- What the bucket promises is what the shelf promises.
use Rattle.tracker_model.specs.Answers.{with_peers}
use Rattle.bucket.proofs.ShelfLemmas.{made_in}
use Rattle.bucket.proofs.shelf.ShelfTracker.report.Goals as goal

pub returns-clause-made : goal.returns-clause-made
returns-clause-made c =
    let k = c.self.inside in
    let place = c.bucket_for-bucket in
    rw (← place.ensures.bucket)
    (made_in k.bits (record { limits = k.limits; sync = k.sync }) k.buckets.items c.args.self.now c.self.view_is c.self.invariant place.result place.ensures.within
    c.index_mut.result.now c.index_mut.ensures.value c.args.minute c.args.call (with_peers c.report.new.told c.report.result) c.report.new.self c.report.ensures.settings c.report.ensures.stands)
