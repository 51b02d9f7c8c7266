use Rattle.bencode_text.proofs.NumberLemmas.{too_large}
use Rattle.bencode_text.proofs.number.number_to.Goals as goal

pub returns-in_err-number : goal.returns-in_err-number
returns-in_err-number c =
    rw c.from_residual.ensures
    (too_large c.args.digits.now c.loop-digit.digit-index c.loop-digit.number c.args.most c.loop-digit-test.true c.loop-digit.invariant.0
    c.in_err-number.ensures)
