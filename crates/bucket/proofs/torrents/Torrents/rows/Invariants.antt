-- A row for each entry so far.
use Rattle.std.proofs.Common.{map}
use Rattle.std.specs.List.{AllZip}
use Rattle.std.specs.Map.Iter.{deref_pair}
use Rattle.bucket.specs.Index.{place_in}
use Rattle.bucket.proofs.RowLemmas.{IsRowOf}
use Rattle.bucket.proofs.torrents.Torrents.rows.Given as goal

abbrev pub invariant-loop-hash : goal.invariant-loop-hash
invariant-loop-hash l = AllZip (IsRowOf (place_in l.self-inside.index) l.self-inside.list.items) (map deref_pair l.yielded) l.rows.items
