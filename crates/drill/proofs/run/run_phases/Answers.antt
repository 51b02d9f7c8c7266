use Rattle.std.proofs.Common.{◌≡◌, ◌≢◌, ◌+◌, ◌++◌, ◌<◌, sym, ap, subst, ◌∙◌, arith, rules}
use Rattle.std.specs.Io.KnownBytes.{Appends}
use Rattle.std.proofs.KnownBytes.{Appends-trans}
use Rattle.ot_io.specs.declared.status.Status.TheVariants.{Done}
use Rattle.load_model.specs.Text.{phase_lines}
use Rattle.drill.specs.Run.{Writes}
use Rattle.drill.proofs.RunLemmas.{line_of, lines_left, one_line_more, writes_behind, writes_no_more}
use Rattle.drill.proofs.run.run_phases.Goals as goal

pub returns-then-ne-clause-written : goal.returns-then-ne-clause-written
returns-then-ne-clause-written g c =
    let s = c.args.settings.now in
    let n = c.loop-phase.phase in
    let was = c.loop-phase.invariant in
    let told = c.tell_phase-status in
    let written = g.O.Sink.written in
    let faults = g.O.Sink.faults in
    let first = c.args.out.now in
    let last = told.new.out in
    let apart : told.result ≢ Done = search rules in
    let before : n < 8 = c.loop-phase-test.true in
    let rest = lines_left s (n + 1) (omega arith) in
    let behind = writes_behind (written first) (written c.loop-phase.out) (written last) (faults first) (faults c.loop-phase.out) (faults last)
    (phase_lines s n) (line_of s n) told.result was.wrote was.later.counted told.ensures.written in
    let all = writes_no_more (written first) (written last) (faults first) (faults last) (phase_lines s n ++ line_of s n) rest.0 told.result apart behind in
    subst (λ text. Writes (written first) (written last) (faults first) (faults last) text told.result)
    (sym (rest.1 ∙ ap (λ l. l ++ rest.0) (one_line_more s n))) all

pub loop-phase-preserved : goal.loop-phase-preserved
loop-phase-preserved g c =
    let s = c.args.settings.now in
    let n = c.loop-phase.phase in
    let was = c.loop-phase.invariant in
    let told = c.tell_phase-status in
    let written = g.O.Sink.written in
    let faults = g.O.Sink.faults in
    let first = c.args.out.now in
    let middle = c.loop-phase.out in
    let last = told.new.out in
    let done : told.result ≡ Done = search rules in
    let line : Appends (written middle) (written last) (line_of s n) =
    subst (λ status. Writes (written middle) (written last) (faults middle) (faults last) (line_of s n) status) done told.ensures.written in
    let counted = told.ensures.later.counted in
    let so_far = was.later.counted in
    record {
      wrote = subst (Appends (written first) (written last)) (sym (one_line_more s n)) (Appends-trans (written first) (written middle) (written last) (phase_lines s n) (line_of s n) was.wrote line);
      later = record { counted = omega arith; stays = told.ensures.later.stays ∙ was.later.stays };
      of_shards = told.ensures.pass done;
      after = told.ensures.after done;
    }
