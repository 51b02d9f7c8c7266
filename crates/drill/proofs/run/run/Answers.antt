use Rattle.std.proofs.Common.{◌≡◌, ◌≢◌, ◌+◌, ◌*◌, ◌^◌, subst, rules}
use Rattle.std.specs.Io.KnownBytes.{Appends}
use Rattle.ot_io.specs.declared.status.Status.TheVariants.{Done}
use Rattle.load_model.specs.Text.{calls_line, phase_lines}
use Rattle.drill.specs.Run.{Writes}
use Rattle.drill.proofs.RunLemmas.{writes_behind, writes_no_more}
use Rattle.drill.proofs.run.run.Goals as goal

pub returns-then-ne-clause-written : goal.returns-then-ne-clause-written
returns-then-ne-clause-written g c =
    let s = c.args.settings.now in
    let first = c.args.out.now in
    let told = c.run_phases-status in
    let last = told.new.out in
    let apart : told.result ≢ Done = search rules in
    writes_no_more (g.O.Sink.written first) (g.O.Sink.written last) (g.O.Sink.faults first) (g.O.Sink.faults last)
    (phase_lines s 8) (calls_line (s.count + 8 * 2 ^ s.bits)) told.result apart told.ensures.written

pub returns-clause-written : goal.returns-clause-written
returns-clause-written g c =
    let s = c.args.settings.now in
    let first = c.args.out.now in
    let told = c.run_phases-status in
    let middle = told.new.out in
    let last = c.finish.new.out in
    let done : told.result ≡ Done = search rules in
    let lines : Appends (g.O.Sink.written first) (g.O.Sink.written middle) (phase_lines s 8) =
    subst (λ status. Writes (g.O.Sink.written first) (g.O.Sink.written middle) (g.O.Sink.faults first) (g.O.Sink.faults middle) (phase_lines s 8) status) done told.ensures.written in
    writes_behind (g.O.Sink.written first) (g.O.Sink.written middle) (g.O.Sink.written last) (g.O.Sink.faults first) (g.O.Sink.faults middle) (g.O.Sink.faults last)
    (phase_lines s 8) (calls_line (s.count + 8 * 2 ^ s.bits)) c.finish.result lines told.ensures.later.counted c.finish.ensures.written
