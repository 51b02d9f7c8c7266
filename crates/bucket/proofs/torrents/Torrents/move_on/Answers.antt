-- Minute by minute, and then on to the time.
use Rattle.std.proofs.Common.{◌+◌, ◌≤◌, sym, ◌∙◌, ap, arith}
use Rattle.bucket.specs.Index.{place_in}
use Rattle.bucket.specs.Table.{Table}
use Rattle.bucket.proofs.ForgetLemmas.{forgets_later, forgets_more, forgets_none}
use Rattle.bucket.proofs.torrents.Torrents.move_on.Goals as goal

pub returns-then-start-now : goal.returns-then-start-now
returns-then-start-now g c =
    let k = c.self.inside in
    forgets_none k.limits c.args.now.0 k.ring (place_in k.index) k.list.items c.args.self.now c.self.invariant c.self.view_is (sym c.if-start-now.true ∙ c.time-start.ensures.time)

pub loop-minute-init : goal.loop-minute-init
loop-minute-init g c =
    let k = c.self.inside in
    forgets_none k.limits (c.time-start.result + 0) k.ring (place_in k.index) k.list.items c.args.self.now c.self.invariant c.self.view_is (omega (arith, c.time-start.ensures.time))

pub loop-minute-preserved : goal.loop-minute-preserved
loop-minute-preserved g c =
    let l = c.loop-minute in
    forgets_more c.time-start.result l.minute c.args.self.now l.self c.pass_to.new.self l.invariant c.pass_to.ensures

pub returns : goal.returns
returns g c =
    let l = c.loop-minute in
    let began = c.time-start.ensures.time ∙ ap (λ (v : Table). v.time) c.self.view_is in
    let within : c.time-start.result + l.minute ≤ c.args.now.0 = omega (arith, began, l.auto.minute-end, c.min-minute-end.ensures, c.requires) in
    rw c.release.ensures (forgets_later (c.time-start.result + l.minute) c.args.now.0 c.args.self.now l.self c.pass_to-2.new.self within l.invariant c.pass_to-2.ensures)
