-- The position at the index is passed over.
use Rattle.std.proofs.Common.{◌∙◌, ap, arith}
use Rattle.pick.specs.Passing.{past}
use Rattle.pick.proofs.PickLemmas.{passed_more}
use Rattle.pick.proofs.picked.pass_over.Goals as goal

pub loop-position-preserved : goal.loop-position-preserved
loop-position-preserved c =
    let l = c.loop-position in
    let passed = c.passing-in-loop-position.ensures ∙ ap (past c.args.first) c.passing.ensures in
    passed_more (λ p. past c.args.first (past c.args.second p)) c.args.positions.now l.positions l.position-index c.passing-in-loop-position.result (omega arith) l.invariant passed
