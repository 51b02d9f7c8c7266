-- The datagram of a batch is read as that batch.
use Rattle.std.proofs.Common.{◌≡◌, ◌≢◌, ◌<◌, ◌≤◌, ℕ, zero, suc, ◌+◌, ◌-◌, ◌*◌, ◌/◌, ◌%◌, ◌^◌, List, [], ◌∷◌, ◌++◌, ◌∙◌, Some, None, Ok, true, is_none, length, take, drop, get_or, refl, sym, ap, arith, length-append}
use Rattle.std.specs.List.{All, flat_map, filter_map}
use Rattle.std.proofs.lemmas.Bool.{le-ltb, lt-ltb, le-leb, eq-eqb, ne_eqb}
use Rattle.std.proofs.lemmas.List.{take_all}
use Rattle.std.proofs.lemmas.List.Elements.{All-head, All-tail}
use Rattle.std.proofs.lemmas.Nat.{from_be_bytes-to_be_bytes_4}
use Rattle.std.proofs.Math.Seq.{drop-append-add, take-append_seam, take-suc}
use Rattle.ot_base.specs.declared.peer.Note.{Note}
use Rattle.sync_wire.specs.Batches.{Batch, IsFromAnother, head_bytes, batch_bytes}
use Rattle.sync_wire.specs.Notes.{note_bytes, note_of, IsHeld}
use Rattle.sync_wire.specs.Reading.{node_of, kind_of, is_whole, records_of, records, record_fault, fault_of, batch_of}
use Rattle.sync_wire.proofs.Fronts.{no_note}
use Rattle.sync_wire.proofs.NoteAgain.{note_again}
use Rattle.sync_wire.proofs.Records.{length-records_of, get_or-records_of, record_fault-none, notes-suc}

length-notes : (notes : List Note) → All IsHeld notes → length (flat_map note_bytes notes) ≡ 28 * length notes
length-notes [] all = omega arith
length-notes (note ∷ notes) all =
    let here = (note_again note.hash note.who.addr note.who.port note.mark (All-head IsHeld note notes all)).1 in
    let rest = length-notes notes (All-tail IsHeld note notes all) in
    let sum = length-append (note_bytes note) (flat_map note_bytes notes) in
    grind arith

pub length-batch : (node : ℕ) (notes : List Note) → All IsHeld notes → length (batch_bytes node notes) ≡ 8 + 28 * length notes
unfolding batch_bytes
length-batch node notes all =
    let rest = length-notes notes all in
    let sum = length-append (head_bytes node) (flat_map note_bytes notes) in
    omega arith

-- the record at a place among those of some notes
note_at : (notes : List Note) (k : ℕ) → All IsHeld notes → k < length notes
    → take 28 (drop (28 * k) (flat_map note_bytes notes)) ≡ note_bytes (get_or notes k no_note)
note_at [] k all below = absurd (omega arith)
note_at (note ∷ notes) zero all below =
    let size = (note_again note.hash note.who.addr note.who.port note.mark (All-head IsHeld note notes all)).1 in
    let e : take (length (note_bytes note)) (note_bytes note ++ flat_map note_bytes notes) ≡ note_bytes note = take-append_seam (note_bytes note) (flat_map note_bytes notes) in
    rw size at e
note_at (note ∷ notes) (suc k) all below =
    let size = (note_again note.hash note.who.addr note.who.port note.mark (All-head IsHeld note notes all)).1 in
    let e : 28 * suc k ≡ length (note_bytes note) + 28 * k = grind arith in
    rw (e, drop-append-add (note_bytes note) (flat_map note_bytes notes) (28 * k)) (note_at notes k (All-tail IsHeld note notes all) (omega arith))

record_at : (node : ℕ) (notes : List Note) (k : ℕ) → All IsHeld notes → k < length notes
    → note_of (take 28 (drop (8 + 28 * k) (batch_bytes node notes))) ≡ Some (get_or notes k no_note)
unfolding batch_bytes
record_at node notes k all below =
    let note = get_or notes k no_note in
    let e : take 28 (drop (8 + 28 * k) (head_bytes node ++ flat_map note_bytes notes)) ≡ note_bytes note =
    rw (drop-append-add (head_bytes node) (flat_map note_bytes notes) (28 * k)) (note_at notes k all below) in
    ap note_of e ∙ (note_again note.hash note.who.addr note.who.port note.mark (all k no_note below)).0

-- the notes of the first records
notes_at : (node : ℕ) (notes : List Note) (n : ℕ) → All IsHeld notes → n ≤ length notes
    → filter_map note_of (records_of n (batch_bytes node notes)) ≡ take n notes
notes_at node notes zero all few = refl
notes_at node notes (suc n) all few =
    let rest = notes_at node notes n all (omega arith) in
    let below : n < length notes = omega arith in
    notes-suc n (batch_bytes node notes) (get_or notes n no_note) (record_at node notes n all below)
    ∙ (ap (λ l. l ++ get_or notes n no_note ∷ []) rest ∙ sym (take-suc notes n no_note below))

-- a datagram without a fault
batch_of-right : (own : ℕ) (bytes : List ℕ) → 8 ≤ length bytes → kind_of bytes ≡ 4 → node_of bytes ≢ own → is_whole (length bytes) ≡ true
    → record_fault (records bytes) ≡ None
    → batch_of own bytes ≡ Ok (record { node = node_of bytes; notes = filter_map note_of (records bytes) })
unfolding batch_of fault_of
batch_of-right own bytes long kind other whole right =
    let is_long = le-ltb (length bytes) 8 long in
    let is_kind = eq-eqb (kind_of bytes) 4 kind in
    let is_other = ne_eqb (node_of bytes) own other in
    rw (is_long, is_kind, is_other, whole, right) refl

is_whole-of : (n len : ℕ) → len ≡ 8 + 28 * n → 1 ≤ n → n ≤ 50 → is_whole len ≡ true
is_whole-of n len e some most =
    let longer = lt-ltb 8 len (omega arith) in
    let exact : (len - 8) % 28 ≡ 0 = omega arith in
    let is_exact = eq-eqb ((len - 8) % 28) 0 exact in
    let few = le-leb ((len - 8) / 28) 50 (omega arith) in
    rw (longer, is_exact, few) refl

node_again : (node : ℕ) (notes : List Note) → node < 2 ^ 32 → node_of (batch_bytes node notes) ≡ node
unfolding batch_bytes
node_again node notes h = from_be_bytes-to_be_bytes_4 node h

kind_again : (node : ℕ) (notes : List Note) → kind_of (batch_bytes node notes) ≡ 4
unfolding batch_bytes
kind_again node notes = refl

pub batch_again : (own : ℕ) (batch : Batch) → IsFromAnother own batch → batch_of own (batch_bytes batch.node batch.notes) ≡ Ok batch
batch_again own batch from =
    let bytes = batch_bytes batch.node batch.notes in
    let n = length batch.notes in
    let len = length-batch batch.node batch.notes from.held in
    let node = node_again batch.node batch.notes from.node_of_32_bits in
    let count : (length bytes - 8) / 28 ≡ n = omega arith in
    let other : node_of bytes ≢ own = rw node from.another in
    let whole = is_whole-of n (length bytes) len from.some from.room in
    let rows = length-records_of n bytes in
    let right : record_fault (records_of n bytes) ≡ None =
    record_fault-none (records_of n bytes)
    (λ k h.
    let below : k < n = omega arith in
    rw (get_or-records_of n bytes k below) (ap is_none (record_at batch.node batch.notes k from.held below))) in
    let notes = notes_at batch.node batch.notes n from.held (omega arith) ∙ take_all n batch.notes (omega arith) in
    let read = batch_of-right own bytes (omega arith) (kind_again batch.node batch.notes) other whole (rw count right) in
    let same : filter_map note_of (records bytes) ≡ batch.notes = rw count notes in
    read ∙ (λ i. let again : Batch = record { node = node i; notes = same i } in Ok again)
