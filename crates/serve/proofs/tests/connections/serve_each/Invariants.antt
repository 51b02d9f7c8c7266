-- The pass stays one of the shards.
use Rattle.std.proofs.Common.{◌≡◌}
use Rattle.serve.proofs.tests.connections.serve_each.Given as goal

abbrev pub invariant-served : goal.invariant-served
invariant-served g l = l.pass.shards ≡ l.shards
