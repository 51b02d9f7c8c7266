-- The peers are those of what is stored at the place.
use Rattle.std.proofs.Common.{◌≡◌, ◌<◌, ◌&&◌, ◌∙◌, sym, length, length-append, arith}
use Rattle.std.specs.Bool.{◌==◌}
use Rattle.std.specs.Option.{is_none}
use Rattle.ot_base.specs.Address.{family_of}
use Rattle.tracker_model.specs.Shape.{held_of}
use Rattle.bucket.specs.Torrents.{is_full_for}
use Rattle.bucket.proofs.PlaceLemmas.{at_place, family_by, stands_at, within_list}
use Rattle.bucket.proofs.torrents.Torrents.is_full_for.Goals as goal

pub index-requires : goal.index-requires
index-requires c =
    let k = c.self.inside in
    omega (arith, within_list c.args.self.now k.limits k.ring.time k.ring.pairs k.list.items c.args.place c.self.view_is c.self.invariant.as_many c.requires, k.list.ok.0)

pub returns : goal.returns
returns c =
    let k = c.self.inside in
    let who = c.args.who.now in
    let stored = c.index.result.now in
    let within : c.args.place < length k.list.items = within_list c.args.self.now k.limits k.ring.time k.ring.pairs k.list.items c.args.place c.self.view_is c.self.invariant.as_many c.requires in
    let it = stands_at k.ring.pairs k.list.items c.args.place stored c.self.invariant.as_many within c.index.ensures in
    rw (← c.self.view_is) (at_place k.ring.pairs k.list.items c.args.place stored (λ t. c.is_full_for.result ≡ is_full_for k.limits.peers who t) it
    (c.is_full_for.ensures
    ∙ (λ i. is_none (held_of (family_by (family_of who.addr) it.pair stored i) who) && (sym (length-append stored.swarm.fours stored.swarm.sixes) i == k.limits.peers))))
