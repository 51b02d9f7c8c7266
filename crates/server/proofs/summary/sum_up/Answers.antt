-- One more bucket was scanned; and then all of them.
use Rattle.std.proofs.Common.{rules, ◌≡◌, ◌+◌, ◌<◌, sym, length, subst}
use Rattle.load_model.specs.declared.totals.Totals.{Totals}
use Rattle.server.proofs.SummaryLemmas.{SumsFirst, sums_all, sums_more}
use Rattle.server.proofs.summary.sum_up.Goals as goal

pub buckets-preserved : goal.buckets-preserved
buckets-preserved c =
    let old = c.args.shelf.now in
    let within : c.buckets.bucket < length old.buckets = search rules in
    let Sums : Totals → Type 0 = λ t. SumsFirst old (c.buckets.bucket + 1) c.sum_bucket.new.shelf t in
    let told = c.in_ok-sum_bucket.ensures in
    subst Sums (sym c.plus-totals.ensures)
    (sums_more old c.buckets.shelf c.sum_bucket.new.shelf c.buckets.bucket c.buckets.totals c.in_ok-sum_bucket.field-0 within c.buckets.invariant told.others.0 told.others.1 told.small told.totals)

pub returns : goal.returns
returns c =
    let all : c.buckets.bucket ≡ length c.args.shelf.now.buckets = search rules in
    sums_all c.args.shelf.now c.buckets.shelf c.buckets.bucket c.buckets.totals all c.buckets.invariant
