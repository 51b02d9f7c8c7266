-- A word without `=` has no name.
use Rattle.std.proofs.Common.{rules}
use Rattle.command_line.proofs.WordLemmas.{none_passes}
use Rattle.command_line.proofs.settings.read_setting.Goals as goal

pub returns-in-None : goal.returns-in-None
returns-in-None c = search (rules, none_passes)
