-- The settings so far are followed by those of the words that are left.
use Rattle.std.proofs.Common.{◌≡◌, ◌+◌, drop, map}
use Rattle.command_line.specs.Settings.{given_of, no_settings}
use Rattle.command_line.proofs.settings.read_settings.Given as goal

abbrev pub invariant-loop-i : goal.invariant-loop-i
invariant-loop-i l = given_of l.asked l.at no_settings (map (λ word. word.now) l.words)
    ≡ given_of l.asked (l.at + l.i) l.given (map (λ word. word.now) (drop l.i l.words))
