-- The number of flags that are set tells each of them where it is none, or all.
use Rattle.std.proofs.Common.{false, sym, ◌∙◌}
use Rattle.std.proofs.lemmas.Option.{slice_get-get_or}
use Rattle.swarm.proofs.FlagLemmas.{flag_set, flag_unset}
use Rattle.swarm.proofs.lookup.is_seed.Goals as goal

pub returns-then-seeds-eq0 : goal.returns-then-seeds-eq0
returns-then-seeds-eq0 c = flag_unset c.args.flags.now c.args.at c.requires.within (sym c.requires.counted ∙ c.if-seeds-eq0.true)

pub returns-then-seeds-flags : goal.returns-then-seeds-flags
returns-then-seeds-flags c = flag_set c.args.flags.now c.args.at c.requires.within (sym c.requires.counted ∙ c.if-seeds-flags.true)

pub returns-else-seeds-flags : goal.returns-else-seeds-flags
returns-else-seeds-flags c = slice_get-get_or c.args.flags.now c.args.at false c.requires.within
