use Rattle.std.proofs.Common.{◌≡◌, vec_len}
use Rattle.std.specs.List.{All}
use Rattle.ot_net.specs.Adapters.{listener_faults, listener_idles}
use Rattle.ot_net.proofs.outside.bind_listeners.Given as goal

-- so many listeners are made, all new
abbrev pub invariant-loop-made : goal.invariant-loop-made
invariant-loop-made g l = record {
  count : vec_len l.listeners ≡ l._made;
  new : All (λ listener. (listener_faults listener ≡ 0) × (listener_idles listener ≡ 0)) l.listeners.items;
}
