-- What was done so far.
use Rattle.std.proofs.Common.{option_copied}
use Rattle.serve.specs.Worked.{Worked}
use Rattle.serve.proofs.udp_worker.serve_wire.Given as goal

abbrev pub invariant-loop : goal.invariant-loop
invariant-loop g l =
    let of = g.W.Wire in
    Worked l.secret (option_copied l.access) l.initial.pass l.pass (of.traffic l.initial.wire) (of.traffic l.wire) (of.faults l.initial.wire) (of.faults l.wire)
