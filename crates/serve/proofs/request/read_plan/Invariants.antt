-- What was read so far, of at most 8,192 bytes.
use Rattle.std.proofs.Common.{◌-◌, length}
use Rattle.serve.proofs.ReadingLemmas.{IsReading, seen}
use Rattle.serve.proofs.request.read_plan.Given as goal

abbrev pub invariant-loop-watch : goal.invariant-loop-watch
invariant-loop-watch g l =
    let of = g.N.Source in
    IsReading (seen (of.left l.initial.conn) (of.faults l.initial.conn) (of.ends l.initial.conn) (of.aside l.initial.conn))
    (seen (of.left l.conn) (of.faults l.conn) (of.ends l.conn) (of.aside l.conn)) l.read.items

abbrev pub decreases-loop-watch : goal.decreases-loop-watch
decreases-loop-watch g l = 8192 - length l.read.items
