use Rattle.bencode_text.specs.Reading.{ReadsInteger, ReadsDigits}
use Rattle.std.proofs.Common.{true, false}
use Rattle.bencode_text.proofs.ReadLemmas.{match_rests, minus_to, minus_from, plain_to, plain_from}
use Rattle.bencode_text.proofs.reader.skip_integer.Goals as goal

pub returns-in-Some : goal.returns-in-Some
returns-in-Some c =
    let bytes = c.args.bytes.now in
    let digits = c.in-Some.digits.now in
    match_rests c.skip_number.result (λ rest. rest.now) (ReadsDigits true digits) (ReadsInteger bytes)
    (λ r. minus_to bytes digits r c.in-Some.ensures) (λ r. minus_from bytes digits r c.in-Some.ensures) c.skip_number.ensures

pub returns-in-None : goal.returns-in-None
returns-in-None c =
    let bytes = c.args.bytes.now in
    match_rests c.skip_number-in-None.result (λ rest. rest.now) (ReadsDigits false bytes) (ReadsInteger bytes)
    (λ r. plain_to bytes r c.in-None.ensures) (λ r. plain_from bytes r) c.skip_number-in-None.ensures
