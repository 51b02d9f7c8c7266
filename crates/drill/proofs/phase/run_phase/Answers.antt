use Rattle.drill.specs.Phases.{IsAfter}
use Rattle.drill.proofs.PhaseLemmas.{after_scans}
use Rattle.drill.proofs.phase.run_phase.Goals as goal

pub returns-clause-after : goal.returns-clause-after
returns-clause-after g c =
    (after_scans c.args.settings.now c.requires.can c.args.phase c.args.load.now c.work_together.new.load c.scan_all.result c.args.pass.now c.work_together.new.pass c.scan_all.new.pass
    c.requires.before c.in_ok-work_together.ensures c.scan_all.ensures.scanned c.scan_all.ensures.known).0

pub returns-clause-totals : goal.returns-clause-totals
returns-clause-totals g c =
    (after_scans c.args.settings.now c.requires.can c.args.phase c.args.load.now c.work_together.new.load c.scan_all.result c.args.pass.now c.work_together.new.pass c.scan_all.new.pass
    c.requires.before c.in_ok-work_together.ensures c.scan_all.ensures.scanned c.scan_all.ensures.known).1
