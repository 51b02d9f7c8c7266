-- The counts are those of what is stored at the place.
use Rattle.std.proofs.Common.{◌≡◌, ◌<◌, length, arith}
use Rattle.bucket.specs.Torrents.{tally}
use Rattle.bucket.proofs.PlaceLemmas.{at_place, stands_at, tally_by, within_list}
use Rattle.bucket.proofs.torrents.Torrents.counts.Goals as goal

pub index-requires : goal.index-requires
index-requires c =
    let k = c.self.inside in
    omega (arith, within_list c.args.self.now k.limits k.ring.time k.ring.pairs k.list.items c.args.place c.self.view_is c.self.invariant.as_many c.requires, k.list.ok.0)

pub returns : goal.returns
returns c =
    let k = c.self.inside in
    let within : c.args.place < length k.list.items = within_list c.args.self.now k.limits k.ring.time k.ring.pairs k.list.items c.args.place c.self.view_is c.self.invariant.as_many c.requires in
    let it = stands_at k.ring.pairs k.list.items c.args.place c.index.result.now c.self.invariant.as_many within c.index.ensures in
    rw (← c.self.view_is) (at_place k.ring.pairs k.list.items c.args.place c.index.result.now (λ t. c.counts.result ≡ tally t) it (tally_by it.pair c.index.result.now c.counts.result c.counts.ensures))
