use Rattle.std.proofs.Common.{◌≡◌, true, ◌∙◌, rules}
use Rattle.drill.proofs.TeamLemmas.{have_made, passes_apart}
use Rattle.drill.proofs.phase.work_together.Goals as goal

pub work_and_join-took-requires-clause-passes : goal.work_and_join-took-requires-clause-passes
work_and_join-took-requires-clause-passes g c κs within =
    passes_apart c.args.phase c.args.workers c.args.load.now c.deal.new.load c.args.shards.now c.args.pass.now c.in_ok-team.team.items c.deal.new.team.items
    c.requires.pass c.requires.alone.some (c.in_ok-team.ensures.passes ∙ c.in_ok-passes.ensures.passes) c.in_ok-deal.ensures

pub returns : goal.returns
returns g c =
    let done = c.work_and_join-took.ensures.done in
    let took : c.work_and_join-took.result ≡ true = search rules in
    have_made c.args.minute c.args.phase c.args.workers c.requires.some c.args.load.now c.deal.new.load c.args.pass.now c.split.new.pass c.work_and_join-took.new.pass
    c.in_ok-team.team.items c.deal.new.team.items done.worked c.requires.alone c.in_ok-passes.ensures.pass c.in_ok-passes.ensures.no_entry_yet
    (c.in_ok-team.ensures.passes ∙ c.in_ok-passes.ensures.passes) c.in_ok-team.ensures.empty c.in_ok-deal.ensures done.work (done.effective took) done.joins c.work_and_join-took.ensures.known
