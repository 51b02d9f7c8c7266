-- The buckets so far are new ones.
use Rattle.bucket.proofs.ShelfLemmas.{AreNew}
use Rattle.bucket.proofs.shelf.Shelf.new.Given as goal

abbrev pub invariant-loop : goal.invariant-loop
invariant-loop l = AreNew (record { limits = l.limits; sync = l.sync }) l.counter l.buckets.items
