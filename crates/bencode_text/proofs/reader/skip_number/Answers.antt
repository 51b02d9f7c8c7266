use Rattle.std.proofs.lemmas.Bool.{false≢true}
use Rattle.bencode_text.proofs.ReadLemmas.{no_digits-no_number, no_digits-no_end}
use Rattle.bencode_text.proofs.reader.skip_number.Goals as goal

pub returns-then-not-is_number : goal.returns-then-not-is_number
returns-then-not-is_number c =
    let cut = c.split_digits.ensures in
    no_digits-no_number c.args.minus c.args.bytes.now c.split_digits.result.0.now c.split_digits.result.1.now cut.digits cut.whole cut.ends
    (λ number. false≢true (c.if-not-is_number.ensures.1 number))

pub returns-in_err-rest : goal.returns-in_err-rest
returns-in_err-rest c =
    let cut = c.split_digits.ensures in
    rw c.from_residual.ensures
    (no_digits-no_end c.args.minus c.args.bytes.now c.split_digits.result.0.now c.split_digits.result.1.now cut.digits cut.whole cut.ends
    c.in_err-rest.ensures)
