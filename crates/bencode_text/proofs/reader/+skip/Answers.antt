use Rattle.std.proofs.Common.{None, arith}
use Rattle.std.specs.Option.{option_copied}
use Rattle.bencode_text.specs.Reading.{ReadsInteger, Reads, ReadsValues, ReadsEntries}
use Rattle.bencode_text.proofs.ReadLemmas.{match_rests, integer_to, integer_from, sequence_to, sequence_from, dictionary_to, dictionary_from, string_to, string_from, GoesOn-more, GoesOn-end, GoesOn-fail, GoesAfter-more, GoesAfter-end, GoesAfter-fail, no_value_after, ReadsString_shorter}
use Rattle.bencode_text.proofs.reader.+skip.Goals as goal

pub skip_value-returns-in-Some-clause-read : goal.skip_value-returns-in-Some-clause-read
skip_value-returns-in-Some-clause-read t c =
    match_rests c.skip_integer.result (λ rest. rest.now) (ReadsInteger c.in-Some.integer.now) (Reads c.args.depth c.args.bytes.now)
    (λ r. integer_to c.args.depth c.args.bytes.now c.in-Some.integer.now r c.in-Some.ensures)
    (λ r. integer_from c.args.depth c.args.bytes.now c.in-Some.integer.now r c.in-Some.ensures) c.skip_integer.ensures

pub skip_value-returns-in-Some-after-clause-read : goal.skip_value-returns-in-Some-after-clause-read
skip_value-returns-in-Some-after-clause-read t c =
    match_rests c.skip_values.result (λ rest. rest.now) (ReadsValues c.args.depth c.in-Some-after.values.now) (Reads c.args.depth c.args.bytes.now)
    (λ r. sequence_to c.args.depth c.args.bytes.now c.in-Some-after.values.now r c.in-Some-after.ensures)
    (λ r. sequence_from c.args.depth c.args.bytes.now c.in-Some-after.values.now r c.in-Some-after.ensures) c.skip_values.ensures.read

pub skip_value-returns-in-Some-after-2-clause-read : goal.skip_value-returns-in-Some-after-2-clause-read
skip_value-returns-in-Some-after-2-clause-read t c =
    match_rests c.skip_entries.result (λ rest. rest.now) (ReadsEntries c.args.depth None c.in-Some-after-2.entries.now) (Reads c.args.depth c.args.bytes.now)
    (λ r. dictionary_to c.args.depth c.args.bytes.now c.in-Some-after-2.entries.now r c.in-Some-after-2.ensures)
    (λ r. dictionary_from c.args.depth c.args.bytes.now c.in-Some-after-2.entries.now r c.in-Some-after-2.ensures) c.skip_entries.ensures.read

pub skip_value-returns-in_err-rest-clause-read : goal.skip_value-returns-in_err-rest-clause-read
skip_value-returns-in_err-rest-clause-read t c =
    rw c.from_residual.ensures
    (λ r read.
    let key = string_to c.args.depth c.args.bytes.now r c.in_default.ensures c.in_default-after.ensures c.in_default-after-2.ensures read in
    c.in_err-rest.ensures key.0 r key.1)

pub skip_value-returns-clause-read : goal.skip_value-returns-clause-read
skip_value-returns-clause-read t c =
    string_from c.args.depth c.args.bytes.now c.in_ok-rest.field-0-0.now c.in_ok-rest.rest.now c.in_ok-rest.ensures

pub skip_values-values-preserved : goal.skip_values-values-preserved
skip_values-values-preserved t c =
    GoesOn-more c.args.depth c.args.bytes.now c.values.left.now c.in_ok-left.left.now (omega arith) c.values.invariant
    c.in_ok-left.ensures.read c.in_ok-left.ensures.shorter

pub skip_values-returns-in-Some-clause-read : goal.skip_values-returns-in-Some-clause-read
skip_values-returns-in-Some-clause-read t c =
    GoesOn-end c.args.depth c.args.bytes.now c.values.left.now c.in-Some.rest.now (omega arith) c.values.invariant c.in-Some.ensures

pub skip_values-returns-in_err-left-clause-read : goal.skip_values-returns-in_err-left-clause-read
skip_values-returns-in_err-left-clause-read t c =
    rw c.from_residual.ensures
    (GoesOn-fail c.args.depth c.args.bytes.now c.values.left.now c.values.invariant c.in_default.ensures c.in_err-left.ensures.read)

pub skip_entries-entries-preserved : goal.skip_entries-entries-preserved
skip_entries-entries-preserved t c =
    GoesAfter-more c.args.depth c.args.bytes.now c.entries.left.now (option_copied c.entries.last) c.in_ok-key.key.now c.in_ok-key.value.now
    c.in_ok-left.left.now (omega arith) c.entries.invariant c.in_ok-key.ensures c.in_ok-left.ensures.read
    (omega (arith, c.in_ok-left.ensures.shorter, ReadsString_shorter c.entries.left.now c.in_ok-key.key.now c.in_ok-key.value.now c.in_ok-key.ensures.string))

pub skip_entries-returns-in-Some-clause-read : goal.skip_entries-returns-in-Some-clause-read
skip_entries-returns-in-Some-clause-read t c =
    GoesAfter-end c.args.depth c.args.bytes.now c.entries.left.now (option_copied c.entries.last) c.in-Some.rest.now (omega arith)
    c.entries.invariant c.in-Some.ensures

pub skip_entries-returns-in_err-key-clause-read : goal.skip_entries-returns-in_err-key-clause-read
skip_entries-returns-in_err-key-clause-read t c =
    rw c.from_residual.ensures
    (GoesAfter-fail c.args.depth c.args.bytes.now c.entries.left.now (option_copied c.entries.last) c.entries.invariant c.in_default.ensures
    (λ key v k. absurd (c.in_err-key.ensures key v k)))

pub skip_entries-returns-in_err-left-clause-read : goal.skip_entries-returns-in_err-left-clause-read
skip_entries-returns-in_err-left-clause-read t c =
    rw c.from_residual-in_err-left.ensures
    (GoesAfter-fail c.args.depth c.args.bytes.now c.entries.left.now (option_copied c.entries.last) c.entries.invariant c.in_default.ensures
    (no_value_after c.args.depth (option_copied c.entries.last) c.entries.left.now c.in_ok-key.key.now c.in_ok-key.value.now c.in_ok-key.ensures
    c.in_err-left.ensures.read))
