use Rattle.std.proofs.Common.{◌≡◌, ◌*◌, ◌+◌, ◌^◌, sym, subst, ◌∙◌}
use Rattle.load_model.specs.Sums.{IsWithin, added}
use Rattle.load_model.proofs.TotalsLemmas.{totals_more, within_more}
use Rattle.load_model.proofs.totals.Totals.of_rows.Goals as goal

pub loop-row-preserved : goal.loop-row-preserved
loop-row-preserved c =
    let so_far = c.loop-row.invariant in
    let i = c.loop-row.row-index in record {
      totals = c.plus-totals.ensures ∙ (λ k. added (so_far.totals k) (c.of_row.ensures.totals k)) ∙ totals_more c.args.rows.now i _ c.loop-row-test.true;
      within = subst (IsWithin ((i + 1) * 2 ^ 32)) (sym c.plus-totals.ensures) (within_more i c.loop-row.totals c.of_row.result so_far.within c.of_row.ensures.within);
    }
