-- What the bucket promises is what the shelf promises.
use Rattle.std.proofs.Common.{◌≡◌, ◌^◌, ◌<◌, ◌∙◌, ap}
use Rattle.tracker_model.specs.Placed.{bucket_in}
use Rattle.tracker_model.specs.declared.answer.Answer.TheVariants.{Stats}
use Rattle.tracker_model.specs.declared.call.Call.TheVariants.{Scrape}
use Rattle.bucket.proofs.ShelfLemmas.{made_in}
use Rattle.bucket.proofs.shelf.ShelfTracker.scrape.Goals as goal

pub returns-clause-made : goal.returns-clause-made
returns-clause-made c =
    let k = c.self.inside in
    let hash = c.args.hash.now in
    let place = c.place_of-bucket in
    let same : k.bits ≡ c.args.self.now.bits = ap (λ s. s.bits) c.self.view_is in
    let within : place.result < 2 ^ c.args.self.now.bits = rw (← same) place.ensures.within in
    let at : place.result ≡ bucket_in c.args.self.now.bits hash = place.ensures.bucket ∙ ap (λ b. bucket_in b hash) same in
    rw (← at)
    (made_in k.bits (record { limits = k.limits; sync = k.sync }) k.buckets.items c.args.self.now c.self.view_is c.self.invariant place.result within
    c.index_mut.result.now c.index_mut.ensures.value c.args.minute (Scrape hash) (Stats c.scrape.result.0 c.scrape.result.1) c.scrape.new.self c.scrape.ensures.settings c.scrape.ensures.stands)
