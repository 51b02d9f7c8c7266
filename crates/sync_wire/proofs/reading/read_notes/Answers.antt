use Rattle.std.proofs.Common.{◌≡◌, ◌<◌, ◌+◌, ◌-◌, ◌*◌, [], ◌∷◌, Some, None, Ok, is_none, length, get_or, take, drop, refl, ap, arith, below_more, length-append}
use Rattle.sync_wire.specs.Notes.{note_of}
use Rattle.sync_wire.specs.Reading.{records_of}
use Rattle.sync_wire.proofs.Records.{length-records_of, get_or-records_of, record_fault-some, record_fault-none, notes-more}
use Rattle.sync_wire.proofs.reading.read_notes.Goals as goal

pub returns-in_default-clause-value : goal.returns-in_default-clause-value
returns-in_default-clause-value c =
    let size : 8 + 28 * c.loop-i.i + 28 - (8 + 28 * c.loop-i.i) ≡ 28 = omega arith in
    let at = get_or-records_of c.args.count c.args.bytes.now c.loop-i.i c.loop-i-test.true in
    let here : note_of (get_or (records_of c.args.count c.args.bytes.now) c.loop-i.i []) ≡ None = cc in
    let below : c.loop-i.i < length (records_of c.args.count c.args.bytes.now) =
    omega (arith, length-records_of c.args.count c.args.bytes.now) in
    let fault = record_fault-some (records_of c.args.count c.args.bytes.now) c.loop-i.i below c.loop-i.invariant.none_wrong (ap is_none here) in
    rw fault refl

pub loop-i-preserved : goal.loop-i-preserved
loop-i-preserved c =
    let size : 8 + 28 * c.loop-i.i + 28 - (8 + 28 * c.loop-i.i) ≡ 28 = omega arith in
    let at = get_or-records_of c.args.count c.args.bytes.now c.loop-i.i c.loop-i-test.true in
    let note : note_of (take 28 (drop (8 + 28 * c.loop-i.i) c.args.bytes.now)) ≡ Some c.in-Some.note = cc in
    let here : note_of (get_or (records_of c.args.count c.args.bytes.now) c.loop-i.i []) ≡ Some c.in-Some.note = cc in
    let more = notes-more c.loop-i.i c.args.bytes.now c.in-Some.note note in
    record {
      read = cc;
      so_many = let e = length-append c.loop-i.notes (c.in-Some.note ∷ []) in let p = ap length c.push.ensures in omega arith;
      none_wrong = below_more _ _ c.loop-i.invariant.none_wrong (ap is_none here);
    }

pub returns-clause-value : goal.returns-clause-value
returns-clause-value c =
    let all : c.loop-i.i ≡ c.args.count = omega arith in
    let fault =
    record_fault-none (records_of c.args.count c.args.bytes.now)
    (λ k h. c.loop-i.invariant.none_wrong k (omega (arith, length-records_of c.args.count c.args.bytes.now))) in
    rw (fault, ← all) (ap Ok c.loop-i.invariant.read)
