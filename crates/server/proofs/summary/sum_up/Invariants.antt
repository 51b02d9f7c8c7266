-- The buckets so far are in the totals, and the others are as they were.
use Rattle.server.proofs.SummaryLemmas.{SumsFirst}
use Rattle.server.proofs.summary.sum_up.Given as goal

abbrev pub invariant-buckets : goal.invariant-buckets
invariant-buckets l = SumsFirst l.initial.shelf l.bucket l.shelf l.totals
