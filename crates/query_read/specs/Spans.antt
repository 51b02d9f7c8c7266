-- Pairs as places in a buffer.
use Rattle.std.specs.Prelude.{ℕ, ◌≤◌, List, length, map, slice_range, All}
use Rattle.query_read.specs.declared.query.PairSpan.{PairSpan}
use Rattle.query_read.specs.declared.query.Query.TheInside.{Inside}

-- the name and the value that stand at a place of the buffer
abbrev pub pair_at : List ℕ → PairSpan → List ℕ × List ℕ
pair_at bytes span =
    (slice_range bytes span.from span.middle, slice_range bytes span.middle span.to)

abbrev pub pairs_at : List ℕ → List PairSpan → List (List ℕ × List ℕ)
pairs_at bytes spans = map (pair_at bytes) spans

abbrev pub pairs_in : Inside → List (List ℕ × List ℕ)
pairs_in q = pairs_at q.bytes.items q.spans.items

-- a name and its value stand in the first `len` bytes
pub record IsSpan (len : ℕ) (span : PairSpan) : Type 0 where
  pub name : span.from ≤ span.middle
  pub value : span.middle ≤ span.to
  pub inside : span.to ≤ len

abbrev pub AreSpans : List ℕ → List PairSpan → Type 0
AreSpans bytes spans = All (IsSpan (length bytes)) spans

abbrev pub IsQuery : Inside → Type 0
IsQuery q = AreSpans q.bytes.items q.spans.items
