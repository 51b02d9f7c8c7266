-- Place by place, to the end of the list.
use Rattle.std.proofs.Common.{◌≡◌, sym, ap, ◌∙◌, length, arith}
use Rattle.bucket.specs.Index.{place_in}
use Rattle.bucket.specs.Table.{Table}
use Rattle.bucket.proofs.FreshLemmas.{freshened_all, freshening_none, freshening_one}
use Rattle.bucket.proofs.PutLemmas.{stays_itself}
use Rattle.bucket.proofs.TableLemmas.{length_by}
use Rattle.bucket.proofs.torrents.Torrents.refresh_all.Goals as goal

pub loop-place-init : goal.loop-place-init
loop-place-init g c =
    let k = c.self.inside in
    freshening_none c.args.self.now (stays_itself k.limits k.ring (place_in k.index) k.list.items c.args.self.now c.self.invariant c.self.view_is)

pub refresh-requires : goal.refresh-requires
refresh-requires g c =
    let k = c.self.inside in
    let all : length c.args.self.now.torrents ≡ c.len-place-end.result = sym (ap (λ (v : Table). length v.torrents) c.self.view_is) ∙ length_by k.ring.pairs k.list.items c.self.invariant.as_many ∙ sym c.len-place-end.ensures.len in
    omega (arith, all, c.loop-place.invariant.as_many, c.loop-place-test.true)

pub loop-place-preserved : goal.loop-place-preserved
loop-place-preserved g c =
    let l = c.loop-place in
    freshening_one l.place c.args.self.now l.self c.refresh.new.self l.invariant c.refresh.ensures.stays c.refresh.ensures.turns

pub returns-clause-stays : goal.returns-clause-stays
returns-clause-stays g c = c.loop-place.invariant.stays

pub returns-clause-freshens : goal.returns-clause-freshens
returns-clause-freshens g c =
    let k = c.self.inside in
    let l = c.loop-place in
    let all : length c.args.self.now.torrents ≡ c.len-place-end.result = sym (ap (λ (v : Table). length v.torrents) c.self.view_is) ∙ length_by k.ring.pairs k.list.items c.self.invariant.as_many ∙ sym c.len-place-end.ensures.len in
    freshened_all l.place c.args.self.now l.self l.invariant (omega (arith, all, c.loop-place-test.false, l.auto.place-end))
