-- The peers are those of what is stored at the place.
use Rattle.std.proofs.Common.{◌≡◌, ◌<◌, ◌∙◌, ap, length, arith}
use Rattle.ot_base.specs.Address.{family_of}
use Rattle.swarm.specs.Peers.{choice_of}
use Rattle.bucket.specs.Torrents.{of_family}
use Rattle.bucket.proofs.PlaceLemmas.{at_place, family_by, stands_at, within_list}
use Rattle.bucket.proofs.torrents.Torrents.choose.Goals as goal

pub index-requires : goal.index-requires
index-requires c =
    let k = c.self.inside in
    omega (arith, within_list c.args.self.now k.limits k.ring.time k.ring.pairs k.list.items c.args.place c.self.view_is c.self.invariant.as_many c.requires.within, k.list.ok.0)

pub returns : goal.returns
returns c =
    let k = c.self.inside in
    let asker = c.args.asker.now in
    let stored = c.index.result.now in
    let within : c.args.place < length k.list.items = within_list c.args.self.now k.limits k.ring.time k.ring.pairs k.list.items c.args.place c.self.view_is c.self.invariant.as_many c.requires.within in
    let it = stands_at k.ring.pairs k.list.items c.args.place stored c.self.invariant.as_many within c.index.ensures in
    rw (← c.self.view_is) (at_place k.ring.pairs k.list.items c.args.place stored (λ t. c.choose.new.told ≡ choice_of c.args.words.now asker c.args.want (of_family (family_of asker.addr) t)) it
    (c.choose.ensures ∙ ap (λ l. choice_of c.args.words.now asker c.args.want l) (family_by (family_of asker.addr) it.pair stored)))
