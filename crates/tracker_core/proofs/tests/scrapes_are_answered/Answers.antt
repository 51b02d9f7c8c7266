use Rattle.std.specs.List.Sorted.{IsStrictlySortedBy}
use Rattle.tracker_core.proofs.tests.scrapes_are_answered.Goals as goal

pub finish_scrape-requires-2 : goal.finish_scrape-requires-2
unfolding IsStrictlySortedBy
finish_scrape-requires-2 g c = rw c.new.ensures tt
