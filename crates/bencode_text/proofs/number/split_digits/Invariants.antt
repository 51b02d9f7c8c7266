use Rattle.std.proofs.Common.{◌≡◌, take}
use Rattle.std.specs.Str.Parse.{AllDigits}
use Rattle.bencode_text.proofs.number.split_digits.Given as goal

-- the bytes so far are digits
abbrev pub invariant-loop-byte : goal.invariant-loop-byte
invariant-loop-byte l = (l.len ≡ l.byte-index) × AllDigits 10 (take l.byte-index l.bytes)
