-- The pass stays the one that it was.
use Rattle.std.proofs.Common.{◌≡◌}
use Rattle.shards.proofs.tests.threads.work.Given as goal

abbrev pub invariant-loop-count : goal.invariant-loop-count
invariant-loop-count g l = (l.pass.shards ≡ l.shards) × (l.pass.caller ≡ l.initial.pass.caller)
