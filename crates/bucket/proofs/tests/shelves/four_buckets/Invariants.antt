-- As many buckets as turns, each with the settings.
use Rattle.std.proofs.Common.{◌≡◌, false, length}
use Rattle.std.specs.List.{All}
use Rattle.bucket.proofs.tests.shelves.four_buckets.Given as goal

abbrev pub invariant-loop-peers : goal.invariant-loop-peers
invariant-loop-peers l =
    (length l.buckets.items ≡ l.peers)
    × All (λ bucket. bucket.settings ≡ record { limits = l.fn.limits; sync = false }) l.buckets.items
