-- The four buckets have the same settings.
use Rattle.bucket.proofs.tests.shelves.buckets_stand_in_their_order.Goals as goal

pub of_buckets-shelf-requires-clause-alike : goal.of_buckets-shelf-requires-clause-alike
of_buckets-shelf-requires-clause-alike g c = record {
  settings = _;
  same = c.in_ok-four_buckets.ensures.alike;
}
