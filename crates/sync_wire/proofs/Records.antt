-- The records of a datagram, one by one.
use Rattle.std.proofs.Common.{◌≡◌, ◌<◌, ℕ, zero, suc, ◌+◌, ◌*◌, List, [], ◌∷◌, ◌++◌, Some, None, true, false, is_none, length, take, drop, get_or, refl, arith, add-one, length-append}
use Rattle.std.specs.List.{filter_map, position_or_len}
use Rattle.std.proofs.lemmas.Bool.{le-ltb, lt-ltb}
use Rattle.std.proofs.lemmas.Grind.{common_steps}
use Rattle.std.proofs.lemmas.List.Elements.{filter_map-append}
use Rattle.std.proofs.lemmas.List.Sums.{position_or_len_is}
use Rattle.ot_base.specs.declared.peer.Note.{Note}
use Rattle.sync_wire.specs.Notes.{note_of}
use Rattle.sync_wire.specs.Reading.{records_of, record_fault}
use Rattle.sync_wire.specs.declared.reading.SyncFault.TheVariants.{Flag}

pub length-records_of : (n : ℕ) (bytes : List ℕ) → length (records_of n bytes) ≡ n
length-records_of zero bytes = refl
length-records_of (suc n) bytes =
    let more = length-append (records_of n bytes) (take 28 (drop (8 + 28 * n) bytes) ∷ []) in
    let rest = length-records_of n bytes in
    omega arith

-- the record at a place
pub get_or-records_of : (n : ℕ) (bytes : List ℕ) (k : ℕ) → k < n → get_or (records_of n bytes) k [] ≡ take 28 (drop (8 + 28 * k) bytes)
get_or-records_of zero bytes k below = absurd (omega arith)
get_or-records_of (suc n) bytes k below =
    let rest = get_or-records_of n bytes k in
    let len = length-records_of n bytes in
    grind (arith, common_steps)

-- the first record that is wrong
pub record_fault-some : (rows : List (List ℕ)) (i : ℕ) → i < length rows
    → ((k : ℕ) → k < i → is_none (note_of (get_or rows k [])) ≡ false) → is_none (note_of (get_or rows i [])) ≡ true
    → record_fault rows ≡ Some (Flag i)
record_fault-some rows i below before here =
    let first : position_or_len (λ bytes. is_none (note_of bytes)) rows ≡ i =
    position_or_len_is (λ bytes. is_none (note_of bytes)) rows i [] (omega arith) before (λ h. here) in
    rw (first, lt-ltb i (length rows) below) refl

-- no record is wrong
pub record_fault-none : (rows : List (List ℕ)) → ((k : ℕ) → k < length rows → is_none (note_of (get_or rows k [])) ≡ false)
    → record_fault rows ≡ None
record_fault-none rows all =
    let first : position_or_len (λ bytes. is_none (note_of bytes)) rows ≡ length rows =
    position_or_len_is (λ bytes. is_none (note_of bytes)) rows (length rows) [] (omega arith) all (λ h. absurd (omega arith)) in
    rw (first, le-ltb (length rows) (length rows) (omega arith)) refl

-- the notes of one record more
pub notes-suc : (i : ℕ) (bytes : List ℕ) (note : Note) → note_of (take 28 (drop (8 + 28 * i) bytes)) ≡ Some note
    → filter_map note_of (records_of (suc i) bytes) ≡ filter_map note_of (records_of i bytes) ++ note ∷ []
notes-suc i bytes note here =
    let more : filter_map note_of (take 28 (drop (8 + 28 * i) bytes) ∷ []) ≡ note ∷ [] = rw here refl in
    rw (filter_map-append note_of (records_of i bytes) (take 28 (drop (8 + 28 * i) bytes) ∷ []), more) refl

pub notes-more : (i : ℕ) (bytes : List ℕ) (note : Note) → note_of (take 28 (drop (8 + 28 * i) bytes)) ≡ Some note
    → filter_map note_of (records_of (i + 1) bytes) ≡ filter_map note_of (records_of i bytes) ++ note ∷ []
notes-more i bytes note here = rw add-one (notes-suc i bytes note here)
