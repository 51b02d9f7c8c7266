use Rattle.std.proofs.lemmas.Bool.{false≢true}
use Rattle.bencode_text.proofs.ReadLemmas.{no_string-no_number, no_string-no_colon, no_string-short}
use Rattle.bencode_text.proofs.reader.read_string.Goals as goal

pub returns-then-not-is_number : goal.returns-then-not-is_number
returns-then-not-is_number c =
    let cut = c.split_digits.ensures in
    no_string-no_number c.args.bytes.now c.split_digits.result.0.now c.split_digits.result.1.now cut.digits cut.whole cut.ends
    (λ number. false≢true (c.if-not-is_number.ensures.1 number))

pub returns-in_err-rest : goal.returns-in_err-rest
returns-in_err-rest c =
    let cut = c.split_digits.ensures in
    rw c.from_residual.ensures
    (no_string-no_colon c.args.bytes.now c.split_digits.result.0.now c.split_digits.result.1.now cut.digits cut.whole cut.ends
    c.in_err-rest.ensures)

pub returns-in_err-len : goal.returns-in_err-len
returns-in_err-len c =
    let cut = c.split_digits.ensures in
    rw c.from_residual-in_err-len.ensures
    (no_string-short c.args.bytes.now c.split_digits.result.0.now c.split_digits.result.1.now c.in_ok-rest.rest.now cut.digits cut.whole cut.ends
    c.in_ok-rest.ensures c.in_err-len.ensures)
