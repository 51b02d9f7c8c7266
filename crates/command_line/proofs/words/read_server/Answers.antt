-- The settings that were read are some that a server may have.
use Rattle.std.proofs.Common.{rules, map, sym, subst, ◌∙◌}
use Rattle.std.specs.Prelude.{IfSome}
use Rattle.command_line.proofs.Offered.{given-serves}
use Rattle.command_line.specs.Words.{MayServe}
use Rattle.command_line.specs.declared.settings.Asked.TheVariants.{Serve}
use Rattle.command_line.proofs.words.read_server.Goals as goal

pub returns-in-Some-clause-may : goal.returns-in-Some-clause-may
returns-in-Some-clause-may c =
    subst (λ o. IfSome o MayServe) (sym c.server_of.ensures ∙ c.in-Some.is) (given-serves Serve 1 (map (λ word. word.now) c.args.words.now) c.in_ok-given.given (search rules))
