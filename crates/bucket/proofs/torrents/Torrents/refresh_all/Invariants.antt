-- The torrents before the place are fresh, and the others are as they were.
use Rattle.bucket.proofs.FreshLemmas.{AreFreshening}
use Rattle.bucket.proofs.torrents.Torrents.refresh_all.Given as goal

abbrev pub invariant-loop-place : goal.invariant-loop-place
invariant-loop-place g l = AreFreshening l.place l.fn.self l.self
