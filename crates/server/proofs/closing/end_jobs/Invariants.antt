-- The jobs so far were ended, in order.
use Rattle.std.proofs.Common.{◌≡◌, ◌++◌, map, reverse}
use Rattle.ot_io.specs.Lending.{Lends}
use Rattle.ot_io.specs.Tales.{listener_tale}
use Rattle.ot_io.specs.Traffic.{wire_tale}
use Rattle.shards.specs.Joining.{AreJoined}
use Rattle.shards.specs.Shape.{KnowsNumbers}
use Rattle.server.specs.Teams.{listeners_of, pass_of, wires_of}
use Rattle.server.proofs.closing.end_jobs.Given as goal

abbrev pub invariant-loop-job : goal.invariant-loop-job
invariant-loop-job g l =
    let outside = g.N.Outside in record {
      all : l.fn.jobs.items ≡ l.yielded ++ l.job-iterator.rest.items;
      of_shards : l.pass.shards ≡ l.fn.pass.shards;
      first : l.pass.caller ≡ 0;
      known : KnowsNumbers l.pass;
      joined : AreJoined (reverse (map pass_of l.yielded)) l.fn.pass l.pass;
      wires : Lends (outside.wires_lent l.fn.outside) (outside.wires_lent l.outside) 0 (map (λ wire. wire_tale (g.W.Wire.traffic wire) (g.W.Wire.faults wire) (g.W.Wire.idles wire)) (wires_of l.yielded));
      listeners : Lends (outside.listeners_lent l.fn.outside) (outside.listeners_lent l.outside) 0 (map (λ listener. listener_tale (g.L.Listener.links listener) (g.L.Listener.faults listener) (g.L.Listener.idles listener)) (listeners_of l.yielded));
      faults : outside.faults l.outside ≡ outside.faults l.fn.outside;
    }
