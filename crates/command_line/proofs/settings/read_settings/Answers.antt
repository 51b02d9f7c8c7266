-- A word that can stand gives the settings that the words behind it begin with.
use Rattle.std.proofs.Common.{◌≡◌, ℕ, ◌+◌, ◌<◌, List, length, map, get_or, drop, sym, ap, ◌∙◌, arith}
use Rattle.std.specs.Prelude.{Some, Err}
use Rattle.std.specs.Option.{option_map_or}
use Rattle.std.proofs.lemmas.List.{at_drop_more}
use Rattle.command_line.specs.Settings.{given_of, place_of, word_setting}
use Rattle.command_line.specs.declared.settings.Asked.{Asked}
use Rattle.command_line.specs.declared.settings.Given.{Given}
use Rattle.command_line.specs.declared.words.WordsFault.TheVariants.{At}
use Rattle.command_line.proofs.settings.read_settings.Goals as goal

given-more : {X : Type 0} (text : X → List ℕ) (asked : Asked) (at i : ℕ) (given more : Given) (words : List X) (d : X) → i < length words → word_setting asked given (text (get_or words i d)) ≡ Some more → given_of asked (at + i) given (map text (drop i words)) ≡ given_of asked (at + (i + 1)) more (map text (drop (i + 1) words))
given-more text asked at i given more words d h e =
    let left = map text (drop (i + 1) words) in
    at_drop_more (λ ws. given_of asked (at + i) given (map text ws)) words i d h
    ∙ ap (λ o. option_map_or (λ more. given_of asked (at + i + 1) more left) o (Err (At (place_of (at + i))))) e
    ∙ ap (λ n. given_of asked n more left) (omega arith)

pub loop-i-preserved : goal.loop-i-preserved
loop-i-preserved c =
    c.loop-i.invariant ∙ given-more (λ word. word.now) c.args.asked c.args.at c.loop-i.i c.loop-i.given c.in-Some.more c.args.words.now _ c.loop-i-test.true (sym c.read_setting.ensures ∙ c.in-Some.is)
