-- What a scan tells at the bucket's own time.
use Rattle.std.proofs.Common.{rules, ◌≡◌, ◌∙◌, ◌<◌, length, arith}
use Rattle.load_model.specs.Text.{totals_of}
use Rattle.server.proofs.SummaryLemmas.{scan_tells}
use Rattle.server.proofs.summary.sum_bucket.Goals as goal

pub returns-clause-totals : goal.returns-clause-totals
returns-clause-totals c = λ history stood.
    let within : c.args.bucket < length c.args.shelf.now.buckets = omega (arith, c.requires.within, c.requires.whole) in
    let told : c.of_rows.result ≡ totals_of c.in_ok-rows.rows = search rules in
    told ∙ scan_tells c.args.shelf.now c.scan.new.self c.args.bucket c.time-minute.result c.in_ok-rows.rows within (search rules) (search rules) history stood
