-- The pass stays one of the shards.
use Rattle.std.proofs.Common.{◌≡◌}
use Rattle.upkeep.proofs.tests.telling.announce_each.Given as goal

abbrev pub invariant-seeds : goal.invariant-seeds
invariant-seeds g l = l.pass.shards ≡ l.shards
