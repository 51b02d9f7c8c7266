use Rattle.std.proofs.Common.{◌≡◌, vec_len}
use Rattle.std.specs.List.{All}
use Rattle.ot_net.specs.Adapters.{wire_faults, wire_idles}
use Rattle.ot_net.proofs.outside.bind_wires.Given as goal

-- so many wires are made, all new
abbrev pub invariant-loop-made : goal.invariant-loop-made
invariant-loop-made g l = record {
  count : vec_len l.wires ≡ l._made;
  new : All (λ wire. (wire_faults wire ≡ 0) × (wire_idles wire ≡ 0)) l.wires.items;
}
