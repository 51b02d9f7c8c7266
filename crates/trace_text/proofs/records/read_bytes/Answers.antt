-- What the two parts of the text say of the whole.
use Rattle.std.proofs.Common.{◌≡◌, ◌*◌, ◌%◌, length, take, sym, ◌∙◌, arith}
use Rattle.std.proofs.lemmas.List.{length-take}
use Rattle.trace_text.proofs.TraceBytes.{counted_of-in, counted_of-bad, counted_of-bad_later, decoded-from, undecoded-from}
use Rattle.trace_text.proofs.records.read_bytes.Goals as goal

pub returns-then-not-all_hex_digits-clause-refused :
    goal.returns-then-not-all_hex_digits-clause-refused
returns-then-not-all_hex_digits-clause-refused c =
    let bad = sym c.all_hex_digits.ensures ∙ c.if-not-all_hex_digits.true in
    counted_of-bad_later c.args.digits.now (2 * c.min-len.result) c.args.most (rw c.split_at.ensures.back at bad)

pub returns-in-Ok-clause-read : goal.returns-in-Ok-clause-read
returns-in-Ok-clause-read c =
    let even : length c.args.digits.now % 2 ≡ 0 = omega arith in
    let room : length (take c.min-len.result c.args.bytes.now) ≡ c.min-len.result =
    omega (arith, length-take c.min-len.result c.args.bytes.now) in
    let read = decoded-from _ _ _ c.in-Ok.field-0 c.decode_to_slice.ensures.value c.in-Ok.is in
    let good = sym c.all_hex_digits.ensures ∙ c.if-not-all_hex_digits.false in
    counted_of-in c.args.digits.now c.decode_to_slice.new.out _ c.min-len.result c.args.most even c.min-len.ensures
    (rw (c.split_at.ensures.front, room) at read) (rw c.split_at.ensures.back at good)

pub returns-in-Err-clause-refused : goal.returns-in-Err-clause-refused
returns-in-Err-clause-refused c =
    let even : length c.args.digits.now % 2 ≡ 0 = omega arith in
    let room : length (take c.min-len.result c.args.bytes.now) ≡ c.min-len.result =
    omega (arith, length-take c.min-len.result c.args.bytes.now) in
    let bad = undecoded-from _ _ _ c.in-Err.field-0 c.decode_to_slice.ensures.value c.in-Err.is in
    counted_of-bad c.args.digits.now c.min-len.result c.args.most c.in-Err.field-0 even c.min-len.ensures
    (rw (c.split_at.ensures.front, room) at bad)
