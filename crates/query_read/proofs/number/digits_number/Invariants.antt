use Rattle.query_read.proofs.NumberLemmas.{GoesOn}
use Rattle.query_read.proofs.number.digits_number.Given as goal

-- what is left of the text goes on with the number so far
abbrev pub invariant-loop-digit : goal.invariant-loop-digit
invariant-loop-digit l = GoesOn l.text l.digit-index l.number
