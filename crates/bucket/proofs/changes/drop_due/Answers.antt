-- Each turn drops one that is due.
use Rattle.std.proofs.Common.{◌≡◌, ◌+◌, ◌≤◌, ◌∙◌, arith}
use Rattle.std.specs.List.{slice_index}
use Rattle.age_ring.specs.Ring.{stamps_of}
use Rattle.tracker_model.specs.declared.limits.TheConstants.{TORRENT_MINUTES}
use Rattle.bucket.specs.Index.{place_in}
use Rattle.bucket.proofs.DropLemmas.{dropping_none, dropping_one}
use Rattle.bucket.proofs.changes.drop_due.Goals as goal

pub loop-at-init : goal.loop-at-init
loop-at-init g c = dropping_none c.args.minute c.args.ring.now (place_in c.args.index.now) c.args.list.now.items c.requires.indexed c.requires.as_many

pub loop-at-preserved : goal.loop-at-preserved
loop-at-preserved g c =
    let l = c.loop-at in
    let r = c.remove_at in
    let ages : l.ring.ages ≡ TORRENT_MINUTES = l.invariant.clock.ages ∙ c.requires.ages in
    let due : slice_index (stamps_of l.ring.pairs) c.in-Some.at + TORRENT_MINUTES ≤ c.args.minute = omega (arith, ages, c.in-Some.ensures.due) in
    dropping_one c.args.minute c.args.ring.now l.ring r.new.ring (place_in l.index) (place_in r.new.index) c.args.list.now.items l.list.items r.new.list.items c.in-Some.at l.invariant
    c.in-Some.ensures.within due r.ensures.torrents r.ensures.list r.ensures.as_many r.ensures.indexed r.ensures.clock
