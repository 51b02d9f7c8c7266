use Rattle.std.proofs.Common.{◌≡◌, false, true, take, fold}
use Rattle.http_wire.specs.Watch.{watch_after}
use Rattle.http_wire.proofs.WatchLemmas.{Stays, Ended}
use Rattle.http_wire.proofs.watch.Watch.take.Given as goal

-- the bytes so far, and that they change nothing where it says so
abbrev pub invariant-loop-byte : goal.invariant-loop-byte
invariant-loop-byte l =
    (l.watch ≡ fold watch_after l.self (take l.byte-index l.piece))
    × (l.may_change ≡ false → Stays l.self (take l.byte-index l.piece))
    × (l.may_change ≡ true → Ended l.watch (take l.byte-index l.piece))
