-- Those so far came back, in order.
use Rattle.std.proofs.Common.{◌≡◌, ◌++◌, map}
use Rattle.ot_io.specs.Lending.{Lends}
use Rattle.ot_io.specs.Tales.{listener_tale}
use Rattle.server.proofs.devices.return_listeners.Given as goal

abbrev pub invariant-loop-listener : goal.invariant-loop-listener
invariant-loop-listener g l =
    let outside = g.N.Outside in record {
      all : l.fn.listeners.items ≡ l.yielded ++ l.listener-iterator.rest.items;
      back : Lends (outside.listeners_lent l.fn.outside) (outside.listeners_lent l.outside) 0 (map (λ listener. listener_tale (g.L.Listener.links listener) (g.L.Listener.faults listener) (g.L.Listener.idles listener)) l.yielded);
      others : outside.wires_lent l.outside ≡ outside.wires_lent l.fn.outside;
      faults : outside.faults l.outside ≡ outside.faults l.fn.outside;
    }
