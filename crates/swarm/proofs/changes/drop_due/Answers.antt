-- Each turn drops one that is due.
use Rattle.std.proofs.Common.{◌≡◌, ◌+◌, ◌≤◌, ◌∙◌, arith}
use Rattle.std.specs.List.{slice_index}
use Rattle.age_ring.specs.Ring.{stamps_of}
use Rattle.swarm.specs.Index.{place_in}
use Rattle.swarm.specs.declared.members.TheConstants.{PEER_AGES}
use Rattle.swarm.proofs.ExpireLemmas.{dropping_none, dropping_one, due_peer}
use Rattle.swarm.proofs.changes.drop_due.Goals as goal

pub loop-i-init : goal.loop-i-init
loop-i-init g c = dropping_none c.args.time c.args.order.now (place_in c.args.index.now) c.args.flags.now.items c.args.steps.now c.requires.indexed c.requires.flags

pub loop-i-preserved : goal.loop-i-preserved
loop-i-preserved g c =
    let r = c.remove_at-peer in
    let look = place_in c.loop-i.index in
    let pairs = c.loop-i.order.pairs in
    let ages : c.loop-i.order.ages ≡ PEER_AGES = c.loop-i.invariant.clock.ages ∙ c.requires.ages in
    let due : slice_index (stamps_of pairs) c.in-Some.i + PEER_AGES ≤ c.args.time = omega (arith, ages, c.in-Some.ensures.due) in
    rw c.one_if-seeds.ensures
    (dropping_one c.args.time c.args.order.now c.loop-i.order r.new.order (place_in c.args.index.now) look (place_in r.new.index) c.loop-i.flags.items r.new.flags.items c.loop-i.seeds c.args.steps.now c.loop-i.steps r.new.steps c.in-Some.i r.result c.loop-i.invariant
    r.ensures.value (due_peer look pairs c.in-Some.i c.args.time r.result r.ensures.value due) (r.ensures.peers r.result) r.ensures.len r.ensures.indexed r.ensures.flags r.ensures.clock r.ensures.steps)

pub remove_at-peer-requires-clause-flags : goal.remove_at-peer-requires-clause-flags
remove_at-peer-requires-clause-flags g c = c.loop-i.invariant.flagged

pub returns-clause-flags : goal.returns-clause-flags
returns-clause-flags g c = c.loop-i.invariant.flagged
