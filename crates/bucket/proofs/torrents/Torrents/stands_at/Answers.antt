-- What stands at a place has that place.
use Rattle.std.proofs.Common.{◌≡◌, true, Some, sym, ◌∙◌, ap}
use Rattle.ot_base.specs.Same.{same_hash}
use Rattle.bucket.specs.Index.{place_in}
use Rattle.bucket.proofs.FoundLemmas.{place_by}
use Rattle.bucket.proofs.torrents.Torrents.stands_at.Goals as goal

pub returns-then-place-len : goal.returns-then-place-len
returns-then-place-len c equal =
    let k = c.self.inside in
    let item = c.item.result in
    let hash = c.args.hash.now in
    let same : same_hash item hash ≡ true = sym (c.equal_hashes.ensures.compared item hash) ∙ sym c.eq.ensures ∙ equal in
    let is : item ≡ hash = (c.equal_hashes.ensures.same item hash).0 same in
    let here = c.self.invariant.indexed.found hash c.args.place (c.item.ensures ∙ ap Some is) in
    rw (← c.self.view_is) (place_by k.ring.pairs k.list.items (place_in k.index) hash c.self.invariant.as_many c.self.invariant.indexed ∙ here)
