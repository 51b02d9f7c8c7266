use Rattle.std.proofs.Common.{◌≡◌}
use Rattle.ot_net.specs.Adapters.{listener_faults, listener_idles}
use Rattle.ot_net.proofs.listener.NetListener.await_one.Given as goal

-- looks and waits count nothing
abbrev pub invariant-loop : goal.invariant-loop
invariant-loop g l = record {
  faults : listener_faults l.self ≡ listener_faults l.initial.self;
  idles : listener_idles l.self ≡ listener_idles l.initial.self;
}
