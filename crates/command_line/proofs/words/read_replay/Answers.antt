-- The settings that were read are some that a replay may have.
use Rattle.std.proofs.Common.{rules, map}
use Rattle.command_line.proofs.Offered.{given-offered}
use Rattle.command_line.specs.declared.settings.Asked.TheVariants.{Replay}
use Rattle.command_line.proofs.words.read_replay.Goals as goal

pub returns-clause-may : goal.returns-clause-may
returns-clause-may c =
    rw c.replay_of.ensures (given-offered Replay 1 (map (λ word. word.now) c.args.words.now) c.in_ok-given.given (search rules))
