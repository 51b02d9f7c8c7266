use Rattle.std.proofs.Common.{◌≡◌, ◌+◌, ◌*◌, ◌^◌, sym, ap, subst, ◌∙◌}
use Rattle.load_model.specs.Sums.{IsWithin, added}
use Rattle.load_model.specs.Text.{totals_of}
use Rattle.drill.proofs.ScanLemmas.{one_more_scanned, sum_within}
use Rattle.drill.proofs.scan.scan_all.Goals as goal

pub loop-bucket-preserved : goal.loop-bucket-preserved
loop-bucket-preserved g c =
    let was = c.loop-bucket.invariant in
    let n = c.loop-bucket.bucket in
    let so_far = c.loop-bucket.totals in
    let rows = c.in_ok-rows.rows in
    let more : c.plus-totals.result ≡ added so_far (totals_of rows) = c.plus-totals.ensures ∙ ap (added so_far) (c.of_rows.ensures.totals ∙ ap totals_of c.as_slice.ensures) in
    record {
      scanned = one_more_scanned c.args.minute n so_far c.plus-totals.result rows c.args.pass.now c.loop-bucket.pass c.scan.new.pass was.scanned c.in_ok-rows.ensures.scanned more;
      within = subst (IsWithin ((n + 1) * 2 ^ 96)) (sym c.plus-totals.ensures) (sum_within n so_far c.of_rows.result was.within c.of_rows.ensures.within);
      known = c.scan.ensures.known;
    }
