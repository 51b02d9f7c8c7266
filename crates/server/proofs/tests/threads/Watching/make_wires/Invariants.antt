-- As many new wires as turns.
use Rattle.std.proofs.Common.{◌≡◌, Some, length}
use Rattle.std.specs.List.{All}
use Rattle.ot_io.specs.MemoryWire.{wire_faults, wire_idles, wire_traffic}
use Rattle.ot_io.specs.Traffic.{IsNewWire}
use Rattle.server.proofs.tests.threads.Watching.make_wires.Given as goal

abbrev pub invariant-loop-number : goal.invariant-loop-number
invariant-loop-number l =
    (length l.wires.items ≡ l.number)
    × All (λ watched. IsNewWire (Some (wire_traffic watched.wire)) (wire_faults watched.wire) (wire_idles watched.wire)) l.wires.items
