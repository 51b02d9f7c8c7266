-- The digits of the bytes so far were added.
use Rattle.std.proofs.Common.{◌≡◌, ◌++◌, List, ℕ, length}
use Rattle.hex.specs.Hex.{encode_lower}
use Rattle.lines.specs.Replies.{Adds}
use Rattle.lines.specs.Streams.{IsLaterSink}
use Rattle.offline.proofs.output.add_digits.Given as goal

abbrev pub invariant-loop-rest : goal.invariant-loop-rest
invariant-loop-rest g l =
    ((done : List ℕ) × (l.bytes ≡ done ++ l.rest)
    × Adds (g.O.Sink.written l.initial.out) (g.O.Sink.written l.out) l.initial.replies l.replies (encode_lower done))
    × IsLaterSink g.O.Sink.faults g.O.Sink.aside l.initial.out l.out

abbrev pub decreases-loop-rest : goal.decreases-loop-rest
decreases-loop-rest g l = length l.rest
