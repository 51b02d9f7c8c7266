-- Nothing but the source's counts has changed, and these don't fall.
use Rattle.lines.specs.Streams.{IsLaterSource}
use Rattle.server.proofs.input.read_off.Given as goal

abbrev pub invariant-reads : goal.invariant-reads
invariant-reads g l =
    let source = g.S.Source in
    IsLaterSource source.faults source.ends source.aside l.initial.input l.input
