use Rattle.std.proofs.Common.{◌≡◌, ◌≤◌, drop}
use Rattle.std.specs.Str.Parse.{AllDigits, digits_value, digits_value_after}
use Rattle.bencode_text.proofs.number.number_to.Given as goal

-- what is left of the digits goes on with the number so far
abbrev pub invariant-loop-digit : goal.invariant-loop-digit
invariant-loop-digit l =
    (digits_value_after 10 l.number (drop l.digit-index l.digits) ≡ digits_value 10 l.digits)
    × AllDigits 10 (drop l.digit-index l.digits)
    × (l.number ≤ l.most)
