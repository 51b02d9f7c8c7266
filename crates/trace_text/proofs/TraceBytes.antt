-- Decoding hex text of which the first bytes alone are kept.
use Rattle.std.proofs.Common.{◌≡◌, ℕ, suc, ◌+◌, ◌*◌, ◌/◌, ◌%◌, ◌≤◌, min, true, false, ◌⊎◌, inl, inr, List, [], ◌∷◌, ◌++◌, length, take, drop, Result, Ok, Err, refl, sym, ap, ◌∙◌, arith, add-zero}
use Rattle.std.specs.Prelude.{MatchResult}
use Rattle.std.specs.List.{list_all, AllPass}
use Rattle.std.proofs.lemmas.Bool.{and_parts, cases_eq, both_ways}
use Rattle.std.proofs.lemmas.List.{take-append-drop, take-append-le, take_all, append-nil, length-take, length-drop}
use Rattle.std.proofs.lemmas.List.Folds.{list_all-append}
use Rattle.std.proofs.lemmas.List.Sums.{AllPass-from_list_all, list_all-from_AllPass}
use Rattle.hex.specs.Hex.{decode_of, decode_pairs, decode_sized, pair_value, is_hex_digit, ◌>>=◌}
use Rattle.hex.specs.declared.error.FromHexError.{FromHexError}
use Rattle.hex.proofs.HexLemmas.{decode_of-even, decode_of-ok, decode_pairs-digits, decode_pairs-ok}
use Rattle.hex.proofs.Pairs.{prepend, decode_sized-pairs}
use Rattle.ot_base.specs.declared.fault.TraceFault.TheVariants.{Hex}
use Rattle.trace_text.specs.Trace.{counted_of}

-- nothing stands in front
prepend-nil : (r : Result (List ℕ) FromHexError) → r ≡ prepend [] r
prepend-nil (Ok bytes) = refl
prepend-nil (Err e) = refl

-- a byte in front of bytes in front of others
prepend-byte : (byte : Result ℕ FromHexError) (front back : Result (List ℕ) FromHexError)
    → (byte >>= (λ b. (front >>= (λ bytes. prepend bytes back)) >>= (λ bytes. Ok (b ∷ bytes))))
    ≡ ((byte >>= (λ b. front >>= (λ bytes. Ok (b ∷ bytes)))) >>= (λ bytes. prepend bytes back))
prepend-byte (Err e) front back = refl
prepend-byte (Ok b) (Err e) back = refl
prepend-byte (Ok b) (Ok bytes) (Ok more) = refl
prepend-byte (Ok b) (Ok bytes) (Err e) = refl

-- whole pairs of digits decode apart from those after them
pub decode_pairs-append : (i : ℕ) (front back : List ℕ) → length front % 2 ≡ 0
    → decode_pairs i (front ++ back) ≡ (decode_pairs i front >>= (λ bytes. prepend bytes (decode_pairs (i + length front) back)))
unfolding decode_pairs
decode_pairs-append i [] back even = rw add-zero (prepend-nil (decode_pairs i back))
decode_pairs-append i (a ∷ []) back even = absurd (omega arith)
decode_pairs-append i (a ∷ b ∷ rest) back even =
    let ih = decode_pairs-append (i + 2) rest back (omega arith) in
    let sum : i + 2 + length rest ≡ i + suc (suc (length rest)) = omega arith in
    rw (ih, sum) (prepend-byte (pair_value a b i) (decode_pairs (i + 2) rest) (decode_pairs (i + suc (suc (length rest))) back))

-- a text whose first digits decode, with good digits after them
decode_of-parts : (hex bytes : List ℕ) (place : ℕ) → length hex % 2 ≡ 0 → length (take place hex) % 2 ≡ 0
    → length (drop place hex) % 2 ≡ 0 → decode_pairs 0 (take place hex) ≡ Ok bytes → AllPass is_hex_digit (drop place hex)
    → (more : List ℕ) × (decode_of hex ≡ Ok (bytes ++ more)) × (length (drop place hex) ≡ 2 * length more)
decode_of-parts hex bytes place even front_even back_even read digits =
    let rest = decode_pairs-digits (0 + length (take place hex)) (drop place hex) back_even digits in
    let cut = decode_pairs-append 0 (take place hex) (drop place hex) front_even in
    let whole = rw (take-append-drop place hex, read, rest.1) at cut in
    (rest.0, decode_of-even hex even ∙ whole, (decode_pairs-ok _ (drop place hex) rest.0 rest.1).1)

-- what counts of two parts is the first where it fills the room or nothing comes after it
take-counted : (bytes more : List ℕ) (room : ℕ) → length bytes ≤ room → (length bytes ≡ room) ⊎ (length more ≡ 0)
    → take room (bytes ++ more) ≡ bytes
take-counted bytes more room fits (inl full) =
    let all : room ≤ length bytes = omega arith in
    rw (take-append-le room bytes more all) (take_all room bytes fits)
take-counted bytes [] room fits (inr none) = rw append-nil (take_all room bytes fits)
take-counted bytes (b ∷ more) room fits (inr none) = absurd (omega arith)

-- as many bytes count as there are, or as there is room for
full_or_all : (digits len more most : ℕ) → digits % 2 ≡ 0 → len ≡ min (digits / 2) most → digits ≡ 2 * len + 2 * more
    → (len ≡ most) ⊎ (more ≡ 0)
full_or_all digits len more most even is sum =
    elim (cases_eq len most) [ inl full ↦ inl full | inr other ↦ inr (omega arith) ]

-- what a text decoded to, by the bytes that count
counted_of-whole : (hex bytes more : List ℕ) (most : ℕ) → length hex % 2 ≡ 0 → length bytes ≡ min (length hex / 2) most
    → length hex ≡ 2 * length bytes + 2 * length more → decode_of hex ≡ Ok (bytes ++ more) → counted_of most (decode_of hex) ≡ Ok bytes
counted_of-whole hex bytes more most even is sum whole =
    let small : length bytes ≤ most = omega arith in
    rw whole (ap Ok (take-counted bytes more most small (full_or_all (length hex) (length bytes) (length more) most even is sum)))

-- the digits of the bytes that count decode into their room, and digits follow: those bytes are
-- what counts
pub counted_of-read : (hex bytes : List ℕ) (len most : ℕ) → length hex % 2 ≡ 0 → len ≡ min (length hex / 2) most
    → decode_sized (take (2 * len) hex) len ≡ Ok bytes → list_all is_hex_digit (drop (2 * len) hex) ≡ true
    → (counted_of most (decode_of hex) ≡ Ok bytes) × (length bytes ≡ len)
counted_of-read hex bytes len most even is read digits =
    let front = length-take (2 * len) hex in
    let back = length-drop (2 * len) hex in
    let front_even : length (take (2 * len) hex) % 2 ≡ 0 = omega arith in
    let half : length (take (2 * len) hex) / 2 ≡ len = omega arith in
    let pairs = sym (decode_sized-pairs (take (2 * len) hex) len front_even half) ∙ read in
    let size = (decode_pairs-ok 0 (take (2 * len) hex) bytes pairs).1 in
    let size_is : length bytes ≡ len = omega arith in
    let all = AllPass-from_list_all is_hex_digit (drop (2 * len) hex) digits in
    let parts = decode_of-parts hex bytes (2 * len) even front_even (omega arith) pairs all in
    let more = parts.2 in
    (counted_of-whole hex bytes parts.0 most even (omega arith) (omega arith) parts.1, size_is)

-- the same, where more stands after those bytes in their buffer
pub counted_of-in : (hex bytes after : List ℕ) (len most : ℕ) → length hex % 2 ≡ 0 → len ≡ min (length hex / 2) most
    → decode_sized (take (2 * len) hex) len ≡ Ok bytes → list_all is_hex_digit (drop (2 * len) hex) ≡ true
    → counted_of most (decode_of hex) ≡ Ok (take len (bytes ++ after))
counted_of-in hex bytes after len most even is read digits =
    let counted = counted_of-read hex bytes len most even is read digits in
    let all : len ≤ length bytes = omega arith in
    let fits : length bytes ≤ len = omega arith in
    counted.0 ∙ ap Ok (sym (take-append-le len bytes after all ∙ take_all len bytes fits))

-- what `decode_to_slice` wrote, and what it answered
pub decoded-from : (d : Result (List ℕ) FromHexError) (r : Result (Unit {0}) FromHexError) (out : List ℕ) (u : Unit {0})
    → MatchResult d (λ bytes. (r ≡ Ok tt) × (out ≡ bytes)) (λ e. r ≡ Err e) → r ≡ Ok u → d ≡ Ok out
decoded-from (Ok bytes) r out u h ok = ap Ok (sym h.1)
decoded-from (Err e) r out u h ok = cc

pub undecoded-from : (d : Result (List ℕ) FromHexError) (r : Result (Unit {0}) FromHexError) (out : List ℕ) (e : FromHexError)
    → MatchResult d (λ bytes. (r ≡ Ok tt) × (out ≡ bytes)) (λ e. r ≡ Err e) → r ≡ Err e → d ≡ Err e
undecoded-from (Ok bytes) r out e h err = cc
undecoded-from (Err d) r out e h err = cc

-- a text that doesn't decode
refused-from : (most : ℕ) (r : Result (List ℕ) FromHexError) → ((bytes : List ℕ) → r ≡ Ok bytes → ⊥) → counted_of most r ≡ Err Hex
refused-from most (Ok bytes) never = absurd (never bytes refl)
refused-from most (Err e) never = refl

-- a bad digit among those of the bytes that count
pub counted_of-bad : (hex : List ℕ) (len most : ℕ) (e : FromHexError) → length hex % 2 ≡ 0 → len ≡ min (length hex / 2) most
    → decode_sized (take (2 * len) hex) len ≡ Err e → counted_of most (decode_of hex) ≡ Err Hex
counted_of-bad hex len most e even is bad =
    let front = length-take (2 * len) hex in
    let front_even : length (take (2 * len) hex) % 2 ≡ 0 = omega arith in
    let half : length (take (2 * len) hex) / 2 ≡ len = omega arith in
    let pairs = sym (decode_sized-pairs (take (2 * len) hex) len front_even half) ∙ bad in
    let cut = decode_pairs-append 0 (take (2 * len) hex) (drop (2 * len) hex) front_even in
    let whole : decode_of hex ≡ Err e = decode_of-even hex even ∙ (rw (take-append-drop (2 * len) hex, pairs) at cut) in
    rw whole refl

-- a bad digit after them
pub counted_of-bad_later : (hex : List ℕ) (place most : ℕ) → list_all is_hex_digit (drop place hex) ≡ false
    → counted_of most (decode_of hex) ≡ Err Hex
counted_of-bad_later hex place most bad =
    refused-from most (decode_of hex) (λ bytes ok.
    let all = list_all-from_AllPass is_hex_digit hex (decode_of-ok hex bytes ok).1 in
    let cut = list_all-append is_hex_digit (take place hex) (drop place hex) in
    let both = sym (rw (take-append-drop place hex) at cut) ∙ all in
    both_ways (list_all is_hex_digit (drop place hex)) bad (and_parts _ _ both).1)
