use Rattle.std.proofs.Common.{sym, subst}
use Rattle.tracker_core.specs.declared.connection_plan.ConnectionPlan.{ConnectionPlan}
use Rattle.request_handler.specs.Connection.{connection_placed, http_placed}
use Rattle.request_handler.specs.Making.{MakesFront}
use Rattle.request_handler.proofs.Made.{MakesFront-all, OnErr-holds}
use Rattle.request_handler.proofs.connection.serve.Goals as goal

pub returns-in_err-write_reply-in-Planned-clause-front :
    goal.returns-in_err-write_reply-in-Planned-clause-front
returns-in_err-write_reply-in-Planned-clause-front g c =
    let t = g.T.Tracker in
    let answered = c.in_ok-code-in-Planned.ensures.answered in
    let Front : ConnectionPlan → Type 0 = λ p. MakesFront t.made c.args.minute c.args.tracker.now (connection_placed (t.bits c.args.tracker.now) p) c.answer.new.tracker in
    OnErr-holds c.from_residual-in_err-write_reply-in-Planned.result
    (subst Front (sym c.in-Planned.is) (MakesFront-all t.made c.args.minute c.args.tracker.now c.answer.new.tracker (http_placed (t.bits c.args.tracker.now) c.in-Planned.plan) answered.answers answered.makes))
