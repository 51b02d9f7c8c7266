use Rattle.std.proofs.Common.{arith}
use Rattle.bencode_text.proofs.NumberLemmas.{AllDigits-take_more}
use Rattle.bencode_text.proofs.number.split_digits.Goals as goal

pub loop-byte-preserved : goal.loop-byte-preserved
loop-byte-preserved c =
    (omega arith, AllDigits-take_more c.args.bytes.now c.loop-byte.byte-index c.loop-byte-test.true (cc) c.loop-byte.invariant.1)
