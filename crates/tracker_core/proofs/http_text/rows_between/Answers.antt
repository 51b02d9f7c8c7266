use Rattle.std.proofs.Common.{◌≡◌, ℕ, ◌++◌, All, List, length, take, ◌∙◌, ap, subst, arith}
use Rattle.std.specs.Prelude.{flat_map}
use Rattle.std.proofs.Math.Seq.{take-length}
use Rattle.std.proofs.lemmas.Grind.{common_steps}
use Rattle.std.proofs.lemmas.List.{append_assoc}
use Rattle.ot_base.specs.declared.peer.Row.{Row}
use Rattle.tracker_core.specs.HttpText.{IsRow, row_text}
use Rattle.tracker_core.proofs.BodyLemmas.{typed_more}
use Rattle.tracker_core.proofs.http_text.rows_between.Goals as goal

pub rows-preserved : goal.rows-preserved
rows-preserved c = record {
  text = grind (arith, common_steps);
  typed = typed_more c.args.rows.now c.rows.row-index _ (omega arith) c.rows.invariant.typed c.in_ok-append_row.ensures.typed;
}

-- all rows are told at the end
whole : (rows : List Row) (i : ℕ) → i ≡ length rows → take i rows ≡ rows
whole rows i all = ap (λ n. take n rows) all ∙ take-length rows

pub returns-clause-text : goal.returns-clause-text
returns-clause-text c =
    c.from.ensures
    ∙ c.in_ok-extend_from_slice-2.ensures.items
    ∙ ap (λ t. t ++ c.args.back.now) c.rows.invariant.text
    ∙ ap (λ (rows : List Row). (c.args.front.now ++ flat_map row_text rows) ++ c.args.back.now)
    (whole c.args.rows.now c.rows.row-index (omega arith))
    ∙ append_assoc c.args.front.now (flat_map row_text c.args.rows.now) c.args.back.now

pub returns-clause-typed : goal.returns-clause-typed
returns-clause-typed c =
    subst (All IsRow) (whole c.args.rows.now c.rows.row-index (omega arith)) c.rows.invariant.typed
