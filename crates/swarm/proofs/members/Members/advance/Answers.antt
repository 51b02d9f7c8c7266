-- Minute by minute, and then on to the time.
use Rattle.std.proofs.Common.{◌+◌, ◌≤◌, ◌∙◌, ap, arith}
use Rattle.swarm.specs.Members.{HeldAt}
use Rattle.swarm.proofs.ExpireLemmas.{passing_none, passing_one, expires_later}
use Rattle.swarm.proofs.members.Members.advance.Goals as goal

pub loop-minute-init : goal.loop-minute-init
loop-minute-init g c = passing_none c.args.self.now c.time-start.result c.args.steps.now (c.time-start.ensures.time ∙ ap (λ (v : HeldAt). v.time) c.self.view_is)

pub loop-minute-preserved : goal.loop-minute-preserved
loop-minute-preserved g c =
    let l = c.loop-minute in
    passing_one c.time-start.result l.minute c.args.self.now l.self c.pass_to.new.self c.args.steps.now l.steps c.pass_to.new.steps l.invariant c.pass_to.ensures.expires c.pass_to.ensures.time c.pass_to.ensures.steps

pub returns-clause-expires : goal.returns-clause-expires
returns-clause-expires g c =
    let l = c.loop-minute in
    let began = c.time-start.ensures.time ∙ ap (λ (v : HeldAt). v.time) c.self.view_is in
    let within : c.time-start.result + l.minute ≤ c.args.time = omega (arith, began, l.auto.minute-end, c.minutes_to-minute-end.ensures, c.requires) in
    rw c.release.ensures (expires_later (c.time-start.result + l.minute) c.args.time c.args.self.now.peers l.self.peers c.pass_to-2.new.self.peers within l.invariant.expires c.pass_to-2.ensures.expires)
