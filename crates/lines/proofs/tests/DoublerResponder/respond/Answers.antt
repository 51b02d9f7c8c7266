use Rattle.std.proofs.Common.{[], ◌∷◌, ◌++◌, refl, sym, inr, append_assoc, append-nil}
use Rattle.std.proofs.lemmas.Result.{err_from_is_err_and}
use Rattle.lines.proofs.ReplyLemmas.{Adds-trans, Adds-Loses}
use Rattle.lines.proofs.tests.DoublerResponder.respond.Goals as goal

pub returns-in_err-add-clause-responds : goal.returns-in_err-add-clause-responds
returns-in_err-add-clause-responds g c =
    let p = err_from_is_err_and c.from_residual.result c.from_residual.ensures.1 in
    let line = c.args.line.now in
    rw (p.1, p.2) (line, inr (line ++ 10 ∷ [], c.args.self.now, sym (append_assoc line line (10 ∷ []))), c.in_err-add.ensures.lost)

pub returns-in_err-add-2-clause-responds : goal.returns-in_err-add-2-clause-responds
returns-in_err-add-2-clause-responds g c =
    let p = err_from_is_err_and c.from_residual-in_err-add-2.result c.from_residual-in_err-add-2.ensures.1 in
    let line = c.args.line.now in
    rw (p.1, p.2) (line ++ line, inr (10 ∷ [], c.args.self.now, refl), Adds-Loses _ _ _ _ _ line line c.in_ok-add.ensures.added c.in_err-add-2.ensures.lost)

pub returns-in_err-add-3-clause-responds : goal.returns-in_err-add-3-clause-responds
returns-in_err-add-3-clause-responds g c =
    let p = err_from_is_err_and c.from_residual-in_err-add-3.result c.from_residual-in_err-add-3.ensures.1 in
    let line = c.args.line.now in
    let twice = Adds-trans _ _ _ _ _ _ line line c.in_ok-add.ensures.added c.in_ok-add-2.ensures.added in
    rw (p.1, p.2) ((line ++ line) ++ 10 ∷ [], inr ([], c.args.self.now, append-nil ((line ++ line) ++ 10 ∷ [])), Adds-Loses _ _ _ _ _ (line ++ line) (10 ∷ []) twice c.in_err-add-3.ensures.lost)

pub returns-clause-responds : goal.returns-clause-responds
returns-clause-responds g c =
    let line = c.args.line.now in
    let twice = Adds-trans _ _ _ _ _ _ line line c.in_ok-add.ensures.added c.in_ok-add-2.ensures.added in
    ((line ++ line) ++ 10 ∷ [], refl, Adds-trans _ _ _ _ _ _ (line ++ line) (10 ∷ []) twice c.in_ok-add-3.ensures.added)
