use Rattle.std.proofs.Common.{◌≡◌, ◌+◌, ◌≤◌, length, drop}
use Rattle.query_read.specs.Query.{values_of}
use Rattle.query_read.specs.Spans.{pairs_at}
use Rattle.query_read.proofs.query.count_values.Given as goal

-- the pairs so far and those that are left
abbrev pub invariant-loop-span : goal.invariant-loop-span
invariant-loop-span l =
    (l.count ≤ l.span-index)
    × (l.count + length (values_of (pairs_at l.bytes (drop l.span-index l.spans)) l.name)
    ≡ length (values_of (pairs_at l.bytes l.spans) l.name))
