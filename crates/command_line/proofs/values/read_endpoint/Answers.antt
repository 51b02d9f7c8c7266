-- A text without `:` has no port.
use Rattle.std.proofs.Common.{rules}
use Rattle.command_line.proofs.WordLemmas.{none_passes}
use Rattle.command_line.proofs.values.read_endpoint.Goals as goal

pub returns-in-None : goal.returns-in-None
returns-in-None c = search (rules, none_passes)
