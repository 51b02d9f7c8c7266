-- What the bucket promises is what the shelf promises.
use Rattle.tracker_model.specs.declared.answer.Answer.TheVariants.{Cleaned}
use Rattle.tracker_model.specs.declared.call.Call.TheVariants.{Clean}
use Rattle.bucket.proofs.ShelfLemmas.{made_in}
use Rattle.bucket.proofs.shelf.ShelfTracker.clean.Goals as goal

pub returns-clause-made : goal.returns-clause-made
returns-clause-made c =
    let k = c.self.inside in
    made_in k.bits (record { limits = k.limits; sync = k.sync }) k.buckets.items c.args.self.now c.self.view_is c.self.invariant c.args.bucket c.requires.within
    c.index_mut.result.now c.index_mut.ensures.value c.args.minute Clean (Cleaned c.clean.result) c.clean.new.self c.clean.ensures.settings c.clean.ensures.stands
