use Rattle.drill.proofs.DealLemmas.{more_dealt}
use Rattle.drill.proofs.deal.deal.Goals as goal

pub loop-request-preserved : goal.loop-request-preserved
loop-request-preserved c =
    more_dealt c.args.phase c.in-Some.request c.args.load.now c.loop-request.load c.next_in.new.self
    c.args.team.now.items c.loop-request.team.items c.hand.new.team.items
    c.loop-request.invariant c.in-Some.ensures.some c.in_ok-hand.ensures
