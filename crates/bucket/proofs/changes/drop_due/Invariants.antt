-- Those that have gone weren't known, and each made the ring shorter.
use Rattle.std.proofs.Common.{length}
use Rattle.bucket.specs.Index.{place_in}
use Rattle.bucket.proofs.DropLemmas.{AreDropping}
use Rattle.bucket.proofs.changes.drop_due.Given as goal

abbrev pub invariant-loop-at : goal.invariant-loop-at
invariant-loop-at g l =
    AreDropping l.fn.minute l.fn.ring l.ring (place_in l.index) l.fn.list.items l.list.items

abbrev pub decreases-loop-at : goal.decreases-loop-at
decreases-loop-at g l = length l.ring.pairs
