-- The endpoint goes from what is stored at the place.
use Rattle.std.proofs.Common.{◌≡◌, refl, subst, sym, ap, ◌∙◌, arith}
use Rattle.bucket.specs.Index.{place_in}
use Rattle.bucket.specs.Stored.{IsFit, torrent_by}
use Rattle.bucket.specs.Torrents.{without_peer}
use Rattle.bucket.specs.declared.stored.Stored.{Stored}
use Rattle.bucket.proofs.PlaceLemmas.{kept_set, stands_at, stays_by, turns_set, within_list, without_by}
use Rattle.bucket.proofs.torrents.Torrents.take.Goals as goal

pub index_mut-requires : goal.index_mut-requires
index_mut-requires g c =
    let k = c.self.inside in
    omega (arith, within_list c.args.self.now k.limits k.ring.time k.ring.pairs k.list.items c.args.place c.self.view_is c.self.invariant.as_many c.requires, k.list.ok.0)

pub invariant_of-self : goal.invariant_of-self
invariant_of-self g c =
    let k = c.self.inside in
    let stored = c.index_mut.result.now in
    let within = within_list c.args.self.now k.limits k.ring.time k.ring.pairs k.list.items c.args.place c.self.view_is c.self.invariant.as_many c.requires in
    let P : Stored → Type 0 = λ s. IsFit k.limits.peers k.ring.time s in
    let fit = subst P (sym c.index_mut.ensures.value) (c.self.invariant.each c.args.place stored within) in
    kept_set k.limits k.ring (place_in k.index) k.list.items c.args.place c.take.new.self c.self.invariant (c.take.ensures.fit k.limits.peers k.ring.time fit)

pub returns-clause-stays : goal.returns-clause-stays
returns-clause-stays g c =
    let k = c.self.inside in
    stays_by c.args.self.now k.limits k.ring k.ring (place_in k.index) k.list.items _ c.self.view_is refl (invariant_of-self g c)

pub returns-clause-turns : goal.returns-clause-turns
returns-clause-turns g c =
    let k = c.self.inside in
    let stored = c.index_mut.result.now in
    let within = within_list c.args.self.now k.limits k.ring.time k.ring.pairs k.list.items c.args.place c.self.view_is c.self.invariant.as_many c.requires in
    let it = stands_at k.ring.pairs k.list.items c.args.place stored c.self.invariant.as_many within c.index_mut.ensures.value in
    rw (← c.self.view_is) (turns_set k.ring.pairs k.list.items c.args.place stored c.take.new.self (λ before after. after ≡ without_peer c.args.who.now before) it
    (ap (λ s. torrent_by it.pair s) c.take.ensures.value ∙ without_by c.args.who.now it.pair stored))
