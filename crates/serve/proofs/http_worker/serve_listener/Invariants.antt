-- What was done so far.
use Rattle.std.proofs.Common.{option_copied}
use Rattle.serve.specs.ServedLinks.{WorkedLinks}
use Rattle.serve.proofs.http_worker.serve_listener.Given as goal

abbrev pub invariant-loop : goal.invariant-loop
invariant-loop g l =
    let of = g.L.Listener in
    WorkedLinks (option_copied l.access) l.full l.initial.pass l.pass (of.links l.initial.listener) (of.links l.listener) (of.faults l.initial.listener) (of.faults l.listener)
