-- The settings stay.
use Rattle.std.proofs.Common.{◌≡◌, false}
use Rattle.bucket.proofs.tests.shelves.with_peers.Given as goal

abbrev pub invariant-loop-n : goal.invariant-loop-n
invariant-loop-n l = l.bucket.settings ≡ record { limits = l.fn.limits; sync = false }
