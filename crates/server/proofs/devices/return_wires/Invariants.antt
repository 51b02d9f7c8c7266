-- Those so far came back, in order.
use Rattle.std.proofs.Common.{◌≡◌, ◌++◌, map}
use Rattle.ot_io.specs.Lending.{Lends}
use Rattle.ot_io.specs.Traffic.{wire_tale}
use Rattle.server.proofs.devices.return_wires.Given as goal

abbrev pub invariant-loop-wire : goal.invariant-loop-wire
invariant-loop-wire g l =
    let outside = g.N.Outside in record {
      all : l.fn.wires.items ≡ l.yielded ++ l.wire-iterator.rest.items;
      back : Lends (outside.wires_lent l.fn.outside) (outside.wires_lent l.outside) 0 (map (λ wire. wire_tale (g.W.Wire.traffic wire) (g.W.Wire.faults wire) (g.W.Wire.idles wire)) l.yielded);
      others : outside.listeners_lent l.outside ≡ outside.listeners_lent l.fn.outside;
      faults : outside.faults l.outside ≡ outside.faults l.fn.outside;
    }
