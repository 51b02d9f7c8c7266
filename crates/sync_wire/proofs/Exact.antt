-- What is read is what was written.
use Rattle.std.proofs.Common.{◌≡◌, ◌≢◌, ◌<◌, ◌≤◌, inl, inr, ℕ, zero, suc, ◌+◌, ◌-◌, ◌*◌, ◌/◌, ◌%◌, List, [], ◌∷◌, ◌++◌, ◌∙◌, Option, Some, None, Result, Ok, Err, Bool, true, false, not, ◌==◌, ◌&&◌, ◌||◌, if◌then◌else◌, nat_lt, nat_le, is_none, length, take, drop, get_or, slice_index, refl, sym, ap, subst, arith, length-append}
use Rattle.std.specs.Int.{w16}
use Rattle.std.specs.List.{All, flat_map, filter_map, position_or_len}
use Rattle.std.specs.Option.{option_map, option_map_or}
use Rattle.std.proofs.lemmas.Bool.{not-false, ltb-true, ltb-false, leb-true, eqb-true, eqb-false, and_parts, or_parts, cases_Bool, cases_lt}
use Rattle.std.proofs.lemmas.List.{take-append-drop, take_all, drop_all, length-take, length-drop, get_or-take, get_or-drop, append-nil, append_assoc}
use Rattle.std.proofs.lemmas.List.Concat.{flat_map-append}
use Rattle.std.proofs.lemmas.List.Elements.{All-push}
use Rattle.std.proofs.lemmas.List.Sums.{fails_before_first}
use Rattle.std.proofs.lemmas.Nat.{be_bytes_2, be_bytes_4}
use Rattle.std.proofs.Math.ListN.{get_or-eq_default}
use Rattle.std.proofs.Math.Seq.{drop-cons, take-add}
use Rattle.ot_base.specs.declared.peer.Mark.{Mark}
use Rattle.ot_base.specs.declared.peer.Mark.TheVariants.{Leecher, Seed, Stopped}
use Rattle.ot_base.specs.declared.peer.Note.{Note}
use Rattle.sync_wire.specs.Batches.{Batch, IsFromAnother, head_bytes, batch_bytes}
use Rattle.sync_wire.specs.Notes.{number_at, flag_of, mark_of, endpoint_of, note_bytes, note_of, IsHeld}
use Rattle.sync_wire.specs.Reading.{node_of, kind_of, is_whole, records_of, records, record_fault, fault_of, batch_of}
use Rattle.sync_wire.specs.declared.reading.SyncFault.{SyncFault}
use Rattle.sync_wire.specs.declared.reading.SyncFault.TheVariants.{Flag}
use Rattle.sync_wire.proofs.Records.{length-records_of, get_or-records_of, notes-suc}

-- each number is one of a byte
pub record AreBytes (bytes : List ℕ) : Type 0 where
  pub small : (i : ℕ) → get_or bytes i 0 < 256

part_bytes : (n m : ℕ) (bytes : List ℕ) → AreBytes bytes → AreBytes (take n (drop m bytes))
part_bytes n m bytes h = record {
  small = λ i.
      elim (cases_lt i n) [
        | inl below ↦ rw (get_or-take n (drop m bytes) i 0 below, get_or-drop m bytes i 0) (h.small (m + i))
        | inr above ↦
            let short : length (take n (drop m bytes)) ≤ i = omega (arith, length-take n (drop m bytes)) in
            rw (get_or-eq_default (take n (drop m bytes)) 0 short) (omega arith)
      ];
}

-- what a mark's flag is
mark_is : (flag : ℕ) (mark : Mark) → mark_of flag ≡ Some mark → flag_of mark ≡ flag
mark_is flag mark e =
    elim (cases_Bool (flag == 0x80)) [
      | inl same_flag ↦
          let here : Some Seed ≡ Some mark = rw same_flag at e in
          let same : mark ≡ Seed = cc in
          ap flag_of same ∙ sym (eqb-true flag 0x80 same_flag)
      | inr other ↦ elim (cases_Bool (flag == 0x20)) [
        | inl same_flag ↦
            let here : Some Stopped ≡ Some mark = rw (other, same_flag) at e in
            let same : mark ≡ Stopped = cc in
            ap flag_of same ∙ sym (eqb-true flag 0x20 same_flag)
        | inr nor ↦ elim (cases_Bool (flag == 0)) [
          | inl same_flag ↦
              let here : Some Leecher ≡ Some mark = rw (other, nor, same_flag) at e in
              let same : mark ≡ Leecher = cc in
              ap flag_of same ∙ sym (eqb-true flag 0 same_flag)
          | inr none ↦
              let here : None ≡ Some mark = rw (other, nor, none) at e in
              cc
        ]
      ]
    ]

-- the parts of a choice that gave a note
some_note : (b : Bool) (o : Option Mark) (f : Mark → Note) (note : Note) → (if b then None else option_map f o) ≡ Some note
    → (b ≡ false) × ((mark : Mark) × (o ≡ Some mark) × (f mark ≡ note))
some_note true o f note e = cc
some_note false None f note e = cc
some_note false (Some mark) f note e = (refl, (mark, refl, cc))

-- 28 bytes by their fields
fields_whole : (bytes : List ℕ) → length bytes ≡ 28
    → ((take 20 bytes ++ take 4 (drop 20 bytes)) ++ take 2 (drop 24 bytes)) ++ (get_or bytes 26 0 ∷ get_or bytes 27 0 ∷ []) ≡ bytes
fields_whole bytes e =
    let one = take-add 20 4 bytes in
    let two = take-add 24 2 bytes in
    let three = drop-cons bytes 26 0 (omega arith) in
    let four = drop-cons bytes 27 0 (omega arith) in
    let five = drop_all 28 bytes (omega arith) in
    let six = take-append-drop 26 bytes in
    cc

-- the record of the note that a record has
note_exact : (bytes : List ℕ) (note : Note) → length bytes ≡ 28 → AreBytes bytes → note_of bytes ≡ Some note
    → IsHeld note × (note_bytes note ≡ bytes)
note_exact bytes note len small e =
    let f : Mark → Note = λ mark. record { hash = record { 0 = take 20 bytes }; who = endpoint_of bytes; mark = mark } in
    let port = number_at w16 24 bytes in
    let parts = some_note ((port == 0) || not (slice_index bytes 27 == 0)) (mark_of (slice_index bytes 26)) f note e in
    let tests = or_parts (port == 0) (not (slice_index bytes 27 == 0)) parts.0 in
    let some_port = eqb-false port 0 tests.0 in
    let zero_is = eqb-true (slice_index bytes 27) 0 (not-false (slice_index bytes 27 == 0) tests.1) in
    let mark = parts.1.0 in
    let flag = mark_is (slice_index bytes 26) mark parts.1.1 in
    let field = part_bytes 2 24 bytes small in
    let two : length (take 2 (drop 24 bytes)) ≡ 2 = omega (arith, length-take 2 (drop 24 bytes), length-drop 24 bytes) in
    let again = be_bytes_2 (take 2 (drop 24 bytes)) port two field.small refl in
    let high = field.small 0 in
    let low = field.small 1 in
    let held : IsHeld (f mark) = record {
      tellable = (some_port, refl);
      whole_hash = omega (arith, length-take 20 bytes);
      whole_address = omega (arith, length-take 4 (drop 20 bytes), length-drop 20 bytes);
      port_of_16_bits = omega arith;
    } in
    let text : note_bytes (f mark) ≡ bytes =
    (λ i. ((take 20 bytes ++ take 4 (drop 20 bytes)) ++ again i) ++ (flag i ∷ sym zero_is i ∷ [])) ∙ fields_whole bytes len in
    let P : Note → Type 0 = λ n. IsHeld n × (note_bytes n ≡ bytes) in
    subst P parts.1.2 (held, text)

-- the notes of some records, and their text
record Exactly (bytes : List ℕ) (n : ℕ) (notes : List Note) : Type 0 where
  so_many : length notes ≡ n
  held : All IsHeld notes
  text : take 8 bytes ++ flat_map note_bytes notes ≡ take (8 + 28 * n) bytes

some_from : (o : Option Note) → is_none o ≡ false → (note : Note) × (o ≡ Some note)
some_from None e = cc
some_from (Some note) e = (note, refl)

notes_exact : (bytes : List ℕ) (n : ℕ) → AreBytes bytes → 8 + 28 * n ≤ length bytes
    → ((k : ℕ) → k < n → is_none (note_of (take 28 (drop (8 + 28 * k) bytes))) ≡ false)
    → Exactly bytes n (filter_map note_of (records_of n bytes))
notes_exact bytes zero small long all = record {
  so_many = refl;
  held = λ k d h. absurd (omega arith);
  text = append-nil (take 8 bytes);
}
notes_exact bytes (suc n) small long all =
    let rest = notes_exact bytes n small (omega arith) (λ k h. all k (omega arith)) in
    let place = 8 + 28 * n in
    let row = take 28 (drop place bytes) in
    let here = some_from (note_of row) (all n (omega arith)) in
    let note = here.0 in
    let len : length row ≡ 28 = omega (arith, length-take 28 (drop place bytes), length-drop place bytes) in
    let exact = note_exact row note len (part_bytes 28 place bytes small) here.1 in
    let notes = filter_map note_of (records_of n bytes) in
    let more = notes-suc n bytes note here.1 in
    let next : 8 + 28 * suc n ≡ place + 28 = grind arith in
    let held : All IsHeld (notes ++ note ∷ []) = All-push IsHeld notes note rest.held exact.0 in
    let joined = flat_map-append note_bytes notes (note ∷ []) in
    let last : flat_map note_bytes (note ∷ []) ≡ row = append-nil (note_bytes note) ∙ exact.1 in
    let split = take-add place 28 bytes in
    let texts : take 8 bytes ++ flat_map note_bytes (notes ++ note ∷ []) ≡ take (8 + 28 * suc n) bytes =
    rw (next, split, joined, last, ← rest.text) (sym (append_assoc (take 8 bytes) (flat_map note_bytes notes) row)) in
    let P : List Note → Type 0 = λ l. Exactly bytes (suc n) l in
    subst P (sym more) (record {
      so_many = let sum = length-append notes (note ∷ []) in let before = rest.so_many in omega arith;
      held = held;
      text = texts;
    })

-- no record is wrong where there is no fault
position_none : (b : Bool) (i : ℕ) → option_map (λ k. Flag k) (if b then Some i else None) ≡ None → b ≡ false
position_none true i e = cc
position_none false i e = refl

right_rows : (rows : List (List ℕ)) → record_fault rows ≡ None → (k : ℕ) → k < length rows → is_none (note_of (get_or rows k [])) ≡ false
right_rows rows e k below =
    let wrong : List ℕ → Bool = λ bytes. is_none (note_of bytes) in
    let none = position_none (nat_lt (position_or_len wrong rows) (length rows)) (position_or_len wrong rows) e in
    let all = ltb-false (position_or_len wrong rows) (length rows) none in
    fails_before_first wrong rows k [] (omega arith)

-- the parts of a choice of faults that gave none, and of a batch
none_if : (b : Bool) (fault : SyncFault) (o : Option SyncFault) → (if b then Some fault else o) ≡ None → (b ≡ false) × (o ≡ None)
none_if true fault o e = cc
none_if false fault o e = (refl, e)

ok_is : (o : Option SyncFault) (b c : Batch) → (let r : Result Batch SyncFault = option_map_or (λ fault. Err fault) o (Ok b) in r ≡ Ok c)
    → (o ≡ None) × (b ≡ c)
ok_is None b c e = (refl, cc)
ok_is (Some fault) b c e = cc

record Right (own : ℕ) (bytes : List ℕ) (batch : Batch) : Type 0 where
  kind : kind_of bytes ≡ 4
  another : node_of bytes ≢ own
  whole : is_whole (length bytes) ≡ true
  right : record_fault (records bytes) ≡ None
  is : (let b : Batch = record { node = node_of bytes; notes = filter_map note_of (records bytes) } in b ≡ batch)

parts_of : (own : ℕ) (bytes : List ℕ) (batch : Batch) → batch_of own bytes ≡ Ok batch → Right own bytes batch
unfolding batch_of fault_of
parts_of own bytes batch e =
    let ok = ok_is (fault_of own bytes) (record { node = node_of bytes; notes = filter_map note_of (records bytes) }) batch e in
    let one = none_if (nat_lt (length bytes) 8) _ _ ok.0 in
    let two = none_if (not (kind_of bytes == 4)) _ _ one.1 in
    let three = none_if (node_of bytes == own) _ _ two.1 in
    let four = none_if (not (is_whole (length bytes))) _ _ three.1 in
    record {
      kind = eqb-true (kind_of bytes) 4 (not-false (kind_of bytes == 4) two.0);
      another = eqb-false (node_of bytes) own three.0;
      whole = not-false (is_whole (length bytes)) four.0;
      right = four.1;
      is = ok.1;
    }

-- how many records a whole datagram has
whole_is : (len : ℕ) → is_whole len ≡ true → (len ≡ 8 + 28 * ((len - 8) / 28)) × (1 ≤ (len - 8) / 28) × ((len - 8) / 28 ≤ 50)
whole_is len e =
    let parts = and_parts (nat_lt 8 len && ((len - 8) % 28 == 0)) (nat_le ((len - 8) / 28) 50) e in
    let front = and_parts (nat_lt 8 len) ((len - 8) % 28 == 0) parts.0 in
    let long = ltb-true 8 len front.0 in
    let exact = eqb-true ((len - 8) % 28) 0 front.1 in
    let few = leb-true ((len - 8) / 28) 50 parts.1 in
    (omega arith, omega arith, few)

pub batch_exact : (own : ℕ) (bytes : List ℕ) (batch : Batch) → AreBytes bytes → batch_of own bytes ≡ Ok batch
    → IsFromAnother own batch × (bytes ≡ batch_bytes batch.node batch.notes)
unfolding batch_bytes
batch_exact own bytes batch small e =
    let parts = parts_of own bytes batch e in
    let n = (length bytes - 8) / 28 in
    let whole = whole_is (length bytes) parts.whole in
    let rows = length-records_of n bytes in
    let all = (λ (k : ℕ) (h : k < n). rw (get_or-records_of n bytes k h) at (right_rows (records_of n bytes) parts.right k (omega arith))) in
    let exact = notes_exact bytes n small (omega arith) all in
    let notes = filter_map note_of (records bytes) in
    let node = node_of bytes in
    let four : length (take 4 bytes) ≡ 4 = omega (arith, length-take 4 bytes) in
    let four_more : length (take 4 (drop 4 bytes)) ≡ 4 = omega (arith, length-take 4 (drop 4 bytes), length-drop 4 bytes) in
    let first = part_bytes 4 0 bytes small in
    let second = part_bytes 4 4 bytes small in
    let node_text = be_bytes_4 (take 4 bytes) node four first.small refl in
    let kind_text = be_bytes_4 (take 4 (drop 4 bytes)) 4 four_more second.small (sym parts.kind) in
    let head : head_bytes node ≡ take 8 bytes = (λ i. node_text i ++ kind_text i) ∙ sym (take-add 4 4 bytes) in
    let end = take_all (8 + 28 * n) bytes (omega arith) in
    let b0 = first.small 0 in
    let b1 = first.small 1 in
    let b2 = first.small 2 in
    let b3 = first.small 3 in
    let from : IsFromAnother own (record { node = node; notes = notes }) = record {
      another = parts.another;
      node_of_32_bits = omega arith;
      some = let l = exact.so_many in omega arith;
      room = let l = exact.so_many in omega arith;
      held = exact.held;
    } in
    let text : head_bytes node ++ flat_map note_bytes notes ≡ bytes = ap (λ l. l ++ flat_map note_bytes notes) head ∙ (exact.text ∙ end) in
    let P : Batch → Type 0 = λ b. IsFromAnother own b × (bytes ≡ head_bytes b.node ++ flat_map note_bytes b.notes) in
    subst P parts.is (from, sym text)
