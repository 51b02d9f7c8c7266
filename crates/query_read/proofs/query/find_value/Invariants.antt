use Rattle.std.proofs.Common.{◌≡◌, drop}
use Rattle.std.specs.Prelude.{slice_get}
use Rattle.query_read.specs.Query.{values_of}
use Rattle.query_read.specs.Spans.{pairs_at}
use Rattle.query_read.proofs.query.find_value.Given as goal

-- the value is one of those that are left
abbrev pub invariant-loop-span : goal.invariant-loop-span
invariant-loop-span l =
    slice_get (values_of (pairs_at l.bytes (drop l.span-index l.spans)) l.name) l.skip
    ≡ slice_get (values_of (pairs_at l.bytes l.spans) l.name) l.i
