use Rattle.std.proofs.Common.{◌≡◌, ◌++◌, length}
use Rattle.query_read.specs.Query.{pairs_of}
use Rattle.query_read.proofs.query.Query.read.Given as goal

-- the pairs so far and those that are left
abbrev pub invariant-pieces : goal.invariant-pieces
invariant-pieces l = l.pairs ++ pairs_of l.left ≡ pairs_of l.query

abbrev pub decreases-pieces : goal.decreases-pieces
decreases-pieces l = length l.left
