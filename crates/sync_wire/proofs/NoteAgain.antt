-- The record of a note is read as that note, and a record that is read is the record of its note.
use Rattle.std.proofs.Common.{◌≡◌, ◌≢◌, ◌<◌, ℕ, ◌^◌, List, [], ◌∷◌, ◌++◌, ◌∙◌, Some, length, take, drop, slice_index, refl, arith, append_assoc, length-append}
use Rattle.std.specs.Int.{w16, to_be_bytes}
use Rattle.std.proofs.lemmas.Bool.{ne_eqb}
use Rattle.std.proofs.lemmas.List.{get_or-append_right}
use Rattle.std.proofs.lemmas.Nat.{from_be_bytes-to_be_bytes_2}
use Rattle.std.proofs.Math.Seq.{drop-append_seam, take-append_seam}
use Rattle.ot_base.specs.declared.address.Addr.{Addr}
use Rattle.ot_base.specs.declared.address.Addr.TheVariants.{V4, V6}
use Rattle.ot_base.specs.declared.hash.InfoHash.{InfoHash}
use Rattle.ot_base.specs.declared.peer.Mark.{Mark}
use Rattle.ot_base.specs.declared.peer.Mark.TheVariants.{Leecher, Seed, Stopped}
use Rattle.ot_base.specs.declared.peer.Note.{Note}
use Rattle.sync_wire.specs.Notes.{number_at, flag_of, mark_of, endpoint_of, note_bytes, note_of, IsHeld}

-- the front of a list, and what stands after it
take_front : (n : ℕ) (xs ys : List ℕ) → length xs ≡ n → take n (xs ++ ys) ≡ xs
take_front n xs ys e = rw (← e) (take-append_seam xs ys)

drop_front : (n : ℕ) (xs ys : List ℕ) → length xs ≡ n → drop n (xs ++ ys) ≡ ys
drop_front n xs ys e = rw (← e) (drop-append_seam xs ys)

mark_again : (mark : Mark) → mark_of (flag_of mark) ≡ Some mark
mark_again Seed = refl
mark_again Stopped = refl
mark_again Leecher = refl

-- a record by its fields
note_of-fields : (bytes : List ℕ) (port flag : ℕ) (mark : Mark) → number_at w16 24 bytes ≡ port → port ≢ 0
    → slice_index bytes 27 ≡ 0 → slice_index bytes 26 ≡ flag → mark_of flag ≡ Some mark
    → note_of bytes ≡ Some (record { hash = record { 0 = take 20 bytes }; who = endpoint_of bytes; mark = mark })
note_of-fields bytes port flag mark is_port some_port is_zero is_flag is_mark =
    let no = ne_eqb port 0 some_port in
    rw (is_port, no, is_zero, is_flag, is_mark) refl

-- the four fields of a record
hash_again : (h a p t : List ℕ) → length h ≡ 20 → take 20 (((h ++ a) ++ p) ++ t) ≡ h
hash_again h a p t e = rw (append_assoc (h ++ a) p t, append_assoc h a (p ++ t)) (take_front 20 h (a ++ (p ++ t)) e)

address_again : (h a p t : List ℕ) → length h ≡ 20 → length a ≡ 4 → take 4 (drop 20 (((h ++ a) ++ p) ++ t)) ≡ a
address_again h a p t e f =
    rw (append_assoc (h ++ a) p t, append_assoc h a (p ++ t), drop_front 20 h (a ++ (p ++ t)) e) (take_front 4 a (p ++ t) f)

port_again : (front t : List ℕ) (port : ℕ) → length front ≡ 24 → port < 2 ^ 16
    → number_at w16 24 ((front ++ to_be_bytes w16 port) ++ t) ≡ port
port_again front t port e h =
    rw (append_assoc front (to_be_bytes w16 port) t, drop_front 24 front (to_be_bytes w16 port ++ t) e) (from_be_bytes-to_be_bytes_2 port h)

pub note_again : (hash : InfoHash) (addr : Addr) (port : ℕ) (mark : Mark)
    → (let note : Note = record { hash = hash; who = record { addr = addr; port = port }; mark = mark } in
    IsHeld note → (note_of (note_bytes note) ≡ Some note) × (length (note_bytes note) ≡ 28))
note_again hash (V4 a) port mark held =
    let h = hash.0 in
    let p = to_be_bytes w16 port in
    let t = flag_of mark ∷ 0 ∷ [] in
    let bytes = ((h ++ a) ++ p) ++ t in
    let front : length (h ++ a) ≡ 24 = omega (arith, length-append h a, held.whole_hash, held.whole_address) in
    let before : length ((h ++ a) ++ p) ≡ 26 = omega (arith, length-append (h ++ a) p) in
    let flag : slice_index bytes 26 ≡ flag_of mark = get_or-append_right ((h ++ a) ++ p) t 26 26 0 before (omega arith) in
    let zero : slice_index bytes 27 ≡ 0 = get_or-append_right ((h ++ a) ++ p) t 26 27 0 before (omega arith) in
    let is_port = port_again (h ++ a) t port front held.port_of_16_bits in
    let fields = note_of-fields bytes port (flag_of mark) mark is_port held.tellable.0 zero flag (mark_again mark) in
    let is_hash = hash_again h a p t held.whole_hash in
    let is_address = address_again h a p t held.whole_hash held.whole_address in
    let all : length bytes ≡ 28 = omega (arith, length-append ((h ++ a) ++ p) t) in (
      fields ∙ (λ i. let note : Note = record { hash = record { 0 = is_hash i }; who = record { addr = V4 (is_address i); port = is_port i }; mark = mark } in Some note),
      all,
    )
note_again hash (V6 a) port mark held = let no = held.tellable.1 in cc
