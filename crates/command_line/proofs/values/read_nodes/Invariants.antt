-- The endpoints so far have the first places.
use Rattle.std.proofs.Common.{◌==◌, length, map}
use Rattle.std.specs.List.{slice_split}
use Rattle.command_line.specs.Values.{endpoint_value}
use Rattle.command_line.proofs.NodeLemmas.{AreFilled}
use Rattle.command_line.proofs.values.read_nodes.Given as goal

abbrev pub invariant-loop-i : goal.invariant-loop-i
invariant-loop-i l =
    AreFilled (map endpoint_value (slice_split (λ b. b == 44) l.text)) (length l.yielded) l.nodes
