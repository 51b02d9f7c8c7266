use Rattle.std.proofs.Common.{◌≡◌, false, take}
use Rattle.upkeep.specs.Nodes.{is_among}
use Rattle.upkeep.proofs.nodes.is_among.Given as goal

abbrev pub invariant-loop-node : goal.invariant-loop-node
invariant-loop-node l = is_among (take l.node-index l.nodes) l.who ≡ false
