-- Totals of the first rows.
use Rattle.std.proofs.Common.{◌≡◌, ℕ, ◌+◌, ◌*◌, ◌<◌, ◌≤◌, ◌^◌, List, length, take, get_or, sym, ◌∙◌, ap, arith}
use Rattle.std.proofs.lemmas.List.{length-take-le}
use Rattle.std.proofs.lemmas.List.Sums.{sum_by_more}
use Rattle.ot_base.specs.declared.peer.Counts.{Counts}
use Rattle.ot_base.specs.declared.peer.Row.{Row}
use Rattle.load_model.specs.Sums.{IsWithin, added, totals_of_one}
use Rattle.load_model.specs.Text.{totals_of}
use Rattle.load_model.specs.declared.totals.Totals.{Totals}

-- one row more
pub totals_more : (rows : List Row) (i : ℕ) (d : Row) → i < length rows → added (totals_of (take i rows)) (totals_of_one (get_or rows i d).counts) ≡ totals_of (take (i + 1) rows)
totals_more rows i d below =
    let count : length (take (i + 1) rows) ≡ length (take i rows) + 1 =
    length-take-le (i + 1) rows (omega arith) ∙ ap (λ n. n + 1) (sym (length-take-le i rows (omega arith))) in
    let more = λ (f : Row → ℕ). sym (sum_by_more f rows i d below) in
    λ k. record {
      torrents = sym count k;
      complete = more (λ row. row.counts.complete) k;
      downloaded = more (λ row. row.counts.downloaded) k;
      incomplete = more (λ row. row.counts.incomplete) k;
    }

pub within_more : (i : ℕ) (t u : Totals) → IsWithin (i * 2 ^ 32) t → IsWithin (2 ^ 32) u → IsWithin ((i + 1) * 2 ^ 32) (added t u)
within_more i t u so_far one = record {
  torrents = (let a = so_far.torrents in let b = one.torrents in omega arith);
  complete = (let a = so_far.complete in let b = one.complete in omega arith);
  downloaded = (let a = so_far.downloaded in let b = one.downloaded in omega arith);
  incomplete = (let a = so_far.incomplete in let b = one.incomplete in omega arith);
}

pub within_less : (a b : ℕ) (t : Totals) → a ≤ b → IsWithin a t → IsWithin b t
within_less a b t less within = record {
  torrents = (let n = within.torrents in omega arith);
  complete = (let n = within.complete in omega arith);
  downloaded = (let n = within.downloaded in omega arith);
  incomplete = (let n = within.incomplete in omega arith);
}
