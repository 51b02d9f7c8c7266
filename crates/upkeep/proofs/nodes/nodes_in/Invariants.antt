use Rattle.std.proofs.Common.{◌≡◌, ◌≤◌, length, take}
use Rattle.upkeep.specs.Nodes.{nodes_of}
use Rattle.upkeep.proofs.nodes.nodes_in.Given as goal

abbrev pub invariant-loop-place : goal.invariant-loop-place
invariant-loop-place l = record {
  nodes : l.nodes ≡ nodes_of (take l.place-index l.settings);
  few : length l.nodes ≤ l.place-index;
}
