use Rattle.drill.proofs.RunLemmas.{opens}
use Rattle.drill.proofs.run.open.Goals as goal

pub returns-clause-before : goal.returns-clause-before
returns-clause-before c =
    opens c.args.settings.now c.new.result c.new.ensures.settings c.new.ensures.bits c.new.ensures.callers c.new.ensures.buckets c.new.ensures.pass
