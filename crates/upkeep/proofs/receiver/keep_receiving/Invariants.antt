-- What was heard so far.
use Rattle.std.proofs.Common.{◌≡◌}
use Rattle.upkeep.specs.Heard.{Heard}
use Rattle.upkeep.proofs.receiver.keep_receiving.Given as goal

abbrev pub invariant-loop : goal.invariant-loop
invariant-loop g l =
    let of = g.W.Wire in record {
      heard : Heard l.own l.nodes l.fn.pass l.pass (of.traffic l.fn.wire) (of.traffic l.wire) (of.faults l.fn.wire) (of.faults l.wire);
      shards : l.pass.shards ≡ l.shards;
    }
