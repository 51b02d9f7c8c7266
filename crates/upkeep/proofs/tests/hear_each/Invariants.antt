-- The pass stays one of the shards.
use Rattle.std.proofs.Common.{◌≡◌}
use Rattle.upkeep.proofs.tests.hear_each.Given as goal

abbrev pub invariant-heard : goal.invariant-heard
invariant-heard g l = l.pass.shards ≡ l.shards
