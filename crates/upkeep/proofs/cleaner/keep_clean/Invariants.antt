-- The rounds so far.
use Rattle.tracker_model.specs.declared.call.Call.TheVariants.{Clean}
use Rattle.upkeep.specs.Sweeps.{Sweeps}
use Rattle.upkeep.proofs.cleaner.keep_clean.Given as goal

abbrev pub invariant-loop : goal.invariant-loop
invariant-loop g l = Sweeps Clean l.fn.pass l.pass
