-- Where the digits end, and where one is refused.
use Rattle.std.proofs.Common.{◌+◌, ◌*◌, get_or}
use Rattle.std.specs.Char.{digit_value}
use Rattle.query_read.proofs.NumberLemmas.{number_from-whole, number_from-refused, none_from_if}
use Rattle.query_read.proofs.number.digits_number.Goals as goal

pub returns-in_err-number : goal.returns-in_err-number
returns-in_err-number c =
    rw c.from_residual.ensures
    (number_from-refused c.args.text.now c.loop-digit.digit-index c.loop-digit.number c.loop-digit-test.true c.loop-digit.invariant
    (none_from_if _ (c.loop-digit.number * 10 + digit_value (get_or c.args.text.now c.loop-digit.digit-index 0)) c.in_err-number.ensures))

pub returns : goal.returns
returns c = number_from-whole c.args.text.now c.loop-digit.digit-index c.loop-digit.number c.loop-digit-test.false c.loop-digit.invariant
