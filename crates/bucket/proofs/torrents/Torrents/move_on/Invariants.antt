-- The minutes so far have been passed.
use Rattle.std.proofs.Common.{◌+◌}
use Rattle.bucket.specs.Calls.{Forgets}
use Rattle.bucket.proofs.torrents.Torrents.move_on.Given as goal

abbrev pub invariant-loop-minute : goal.invariant-loop-minute
invariant-loop-minute g l = Forgets (l.start + l.minute) l.fn.self l.self
