-- What was written is read again.
use Rattle.std.proofs.Common.{◌≡◌, ℕ, zero, suc, ◌-◌, ◌<◌, ◌≤◌, ◌^◌, true, false, ◌==◌, inl, inr, List, [], ◌∷◌, ◌++◌, Some, Ok, length, get_or, refl, sym, ap, subst, ◌∙◌, arith, length-append, append_assoc}
use Rattle.std.specs.Prelude.{codes, decimal, nat_lt}
use Rattle.std.specs.Char.{is_ascii_digit}
use Rattle.std.specs.List.{All, list_all}
use Rattle.std.proofs.lemmas.Bool.{cases_lt, le-leb, and_left, and_right, ne_eqb}
use Rattle.std.proofs.lemmas.Fmt.{decimal_is_IsNumeral, decimal_digit, decimal_nonempty, first_decimal, length-decimal-le}
use Rattle.std.proofs.lemmas.List.{get_or_past, take_all}
use Rattle.std.proofs.lemmas.List.Elements.{All-append, All-cons, All-from_get_or}
use Rattle.std.proofs.lemmas.List.Splits.{slice_split_at, slice_split_none}
use Rattle.std.proofs.lemmas.List.Sums.{list_all-from_AllPass}
use Rattle.std.proofs.lemmas.Str.Parse.{digit_at}
use Rattle.hex.specs.Hex.{IsBytes, is_hex_digit, encode_lower, decode_of}
use Rattle.hex.proofs.HexLemmas.{decode_of-encode_lower, decode_of-ok}
use Rattle.ot_base.specs.declared.address.Addr.{Addr}
use Rattle.ot_base.specs.declared.address.Addr.TheVariants.{V4, V6}
use Rattle.ot_base.specs.declared.address.Endpoint.{Endpoint}
use Rattle.trace_text.specs.Trace.{parts_of, number_of, seconds_of, port_of, has_leading_zero, octet_of, is_six, address_of, arrival_of, fields_line, line_of}
use Rattle.trace_text.specs.Written.{IsArrival, IsOfFour, AllCount, dotted_text, five_fields, text_of}
use Rattle.trace_text.specs.declared.line.TraceLine.{TraceLine}
use Rattle.trace_text.specs.declared.line.TraceLine.TheVariants.{Udp, Http, Clean}

-- the digits of a number
all_digits : (n : ℕ) → n < 2 ^ 64 → (i : ℕ) → i < length (decimal n) → (48 ≤ get_or (decimal n) i 0) × (get_or (decimal n) i 0 ≤ 57)
all_digits n h i lt = digit_at (decimal n) i (decimal_is_IsNumeral n h).0.1 lt

-- a byte that is no digit doesn't stand in a number
digits_other : (c n : ℕ) → c < 48 → n < 2 ^ 64 → All (λ b. (b == c) ≡ false) (decimal n)
digits_other c n small h =
    All-from_get_or (λ b. (b == c) ≡ false) (decimal n) 0
    (λ i lt. ne_eqb _ c (λ e. let d = all_digits n h i lt in let low : 48 ≤ get_or (decimal n) i 0 = d.0 in omega arith))

-- a number is read again
number_again : (most greatest n : ℕ) → n < 2 ^ 64 → n ≤ greatest → length (decimal n) ≤ most → number_of most greatest (decimal n) ≡ Some n
number_again most greatest n h small short =
    let digits : list_all is_ascii_digit (decimal n) ≡ true = list_all-from_AllPass is_ascii_digit (decimal n) (All-from_get_or (λ b. is_ascii_digit b ≡ true) (decimal n) 0
    (λ i lt. let d = all_digits n h i lt in rw (le-leb 48 (get_or (decimal n) i 0) d.0, le-leb (get_or (decimal n) i 0) 57 d.1) refl)) in
    rw (le-leb 1 (length (decimal n)) (decimal_nonempty n h), le-leb (length (decimal n)) most short, digits, (decimal_is_IsNumeral n h).1, le-leb n greatest small) refl

seconds_again : (n : ℕ) → n < 2 ^ 64 → seconds_of (decimal n) ≡ Ok n
seconds_again n h = rw (number_again 20 (2 ^ 64 - 1) n h (omega arith) (length-decimal-le 20 n (omega arith) (omega arith) h)) refl

port_again : (n : ℕ) → n < 2 ^ 16 → port_of (decimal n) ≡ Ok n
port_again n h = rw (number_again 5 65535 n (omega arith) (omega arith) (length-decimal-le 5 n (omega arith) (omega arith) (omega arith))) refl

-- no digit stands before the first that isn't 0
no_leading_zero : (n : ℕ) → n < 256 → has_leading_zero (decimal n) ≡ false
no_leading_zero zero h = rw (decimal_digit 0 (omega arith)) refl
no_leading_zero (suc n) h =
    let first : 48 < get_or (decimal (suc n)) 0 0 = first_decimal (suc n) (omega arith) (omega arith) in
    let other : (get_or (decimal (suc n)) 0 0 == 48) ≡ false = ne_eqb _ 48 (λ e. omega arith) in
    and_right (nat_lt 1 (length (decimal (suc n)))) _ other

octet_again : (n : ℕ) → n < 256 → octet_of (decimal n) ≡ Ok n
octet_again n h =
    rw (no_leading_zero n h, number_again 3 255 n (omega arith) (omega arith) (length-decimal-le 3 n (omega arith) (omega arith) (omega arith))) refl

-- the first part, where the separator doesn't stand in it
part : (c : ℕ) (front back : List ℕ) → (c == c) ≡ true → All (λ b. (b == c) ≡ false) front → parts_of c (front ++ c ∷ back) ≡ front ∷ parts_of c back
part c front back same other = slice_split_at (λ b. b == c) front c back other same

-- the last part
last_part : (c : ℕ) (text : List ℕ) → All (λ b. (b == c) ≡ false) text → parts_of c text ≡ text ∷ []
last_part c text other = slice_split_none (λ b. b == c) text other

-- the same with each number before the rest
dotted_text-dots : (a b c d : ℕ) → dotted_text (a ∷ b ∷ c ∷ d ∷ []) ≡ decimal a ++ (46 ∷ (decimal b ++ (46 ∷ (decimal c ++ (46 ∷ decimal d)))))
dotted_text-dots a b c d = simp append_assoc

-- four numbers with dots between are cut into the four
dotted_parts : (a b c d : ℕ) → a < 256 → b < 256 → c < 256 → d < 256
    → parts_of 46 (dotted_text (a ∷ b ∷ c ∷ d ∷ [])) ≡ decimal a ∷ decimal b ∷ decimal c ∷ decimal d ∷ []
dotted_parts a b c d ha hb hc hd =
    let other : (n : ℕ) → n < 256 → All (λ x. (x == 46) ≡ false) (decimal n) = λ n h. digits_other 46 n (omega arith) (omega arith) in
    ap (parts_of 46) (dotted_text-dots a b c d)
    ∙ part 46 (decimal a) (decimal b ++ (46 ∷ (decimal c ++ (46 ∷ decimal d)))) refl (other a ha)
    ∙ ap (λ l. decimal a ∷ l) (part 46 (decimal b) (decimal c ++ (46 ∷ decimal d)) refl (other b hb)
    ∙ ap (λ l. decimal b ∷ l) (part 46 (decimal c) (decimal d) refl (other c hc)
    ∙ ap (λ l. decimal c ∷ l) (last_part 46 (decimal d) (other d hd))))

-- such a text is shorter than an IPv6 address
not_six : (a b c d : ℕ) → a < 256 → b < 256 → c < 256 → d < 256 → is_six (dotted_text (a ∷ b ∷ c ∷ d ∷ [])) ≡ false
not_six a b c d ha hb hc hd =
    let short : (n : ℕ) → n < 256 → length (decimal n) ≤ 3 = λ n h. length-decimal-le 3 n (omega arith) (omega arith) (omega arith) in
    let la = short a ha in
    let lb = short b hb in
    let lc = short c hc in
    let ld = short d hd in
    let all = ap length (dotted_text-dots a b c d) in
    let one = length-append (decimal a) (46 ∷ (decimal b ++ (46 ∷ (decimal c ++ (46 ∷ decimal d))))) in
    let two = length-append (decimal b) (46 ∷ (decimal c ++ (46 ∷ decimal d))) in
    let three = length-append (decimal c) (46 ∷ decimal d) in
    and_left (length (dotted_text (a ∷ b ∷ c ∷ d ∷ [])) == 32) _ (ne_eqb _ 32 (λ e. omega arith))

-- what a written address is
record AddressText (octets : List ℕ) : Type 0 where
  read : address_of (dotted_text octets) ≡ Ok (V4 octets)
  other : All (λ b. (b == 32) ≡ false) (dotted_text octets)

four_again : (a b c d : ℕ) → a < 256 → b < 256 → c < 256 → d < 256 → AddressText (a ∷ b ∷ c ∷ d ∷ [])
four_again a b c d ha hb hc hd =
    let no_space : (n : ℕ) → n < 256 → All (λ x. (x == 32) ≡ false) (decimal n) = λ n h. digits_other 32 n (omega arith) (omega arith) in
    let then : (n : ℕ) (rest : List ℕ) → n < 256 → All (λ x. (x == 32) ≡ false) rest → All (λ x. (x == 32) ≡ false) (decimal n ++ (46 ∷ rest)) =
    λ n rest h more. All-append (λ x. (x == 32) ≡ false) (decimal n) (46 ∷ rest) (no_space n h) (All-cons (λ x. (x == 32) ≡ false) 46 rest refl more) in
    record {
      read =
          rw (not_six a b c d ha hb hc hd, dotted_parts a b c d ha hb hc hd, octet_again a ha, octet_again b hb, octet_again c hc, octet_again d hd)
          refl;
      other = let IsOther : List ℕ → Type 0 = λ text. All (λ x. (x == 32) ≡ false) text in
          subst IsOther (sym (dotted_text-dots a b c d)) (then a _ ha (then b _ hb (then c _ hc (no_space d hd))));
    }

-- an IPv4 address is read again, and no space stands in it
address_again : (octets : List ℕ) → length octets ≡ 4 → All (λ octet. octet < 256) octets → AddressText octets
address_again [] four all = absurd (omega arith)
address_again (a ∷ []) four all = absurd (omega arith)
address_again (a ∷ b ∷ []) four all = absurd (omega arith)
address_again (a ∷ b ∷ c ∷ []) four all = absurd (omega arith)
address_again (a ∷ b ∷ c ∷ d ∷ []) four all =
    four_again a b c d (all 0 0 (omega arith)) (all 1 0 (omega arith)) (all 2 0 (omega arith)) (all 3 0 (omega arith))
address_again (a ∷ b ∷ c ∷ d ∷ e ∷ more) four all = absurd (omega arith)

-- bytes are read again, and no space stands in their digits
record HexText (bytes : List ℕ) : Type 0 where
  read : decode_of (encode_lower bytes) ≡ Ok bytes
  other : All (λ b. (b == 32) ≡ false) (encode_lower bytes)

hex_again : (bytes : List ℕ) → All (λ b. b < 256) bytes → HexText bytes
hex_again bytes all =
    let small : IsBytes bytes =
    λ i. elim (cases_lt i (length bytes)) [ inl lt ↦ all i 0 lt | inr past ↦ rw (get_or_past bytes i 0 past) (omega arith) ] in
    let read = decode_of-encode_lower bytes small in
    let digits = (decode_of-ok (encode_lower bytes) bytes read).1 in
    record {
      read = read;
      other = λ k d lt.
          ne_eqb _ 32 (λ e. let digit = digits k d lt in let space : is_hex_digit 32 ≡ true = subst (λ c. is_hex_digit c ≡ true) e digit in cc);
    }

-- a byte that isn't a space
abbrev pub IsNoSpace : ℕ → Type 0
IsNoSpace b = (b == 32) ≡ false

-- the fields of a written line, and that they say again what came
record FieldsText (kind : List ℕ) (seconds : ℕ) (from : Endpoint) (bytes : List ℕ) : Type 0 where
  time : List ℕ
  address : List ℕ
  port : List ℕ
  hex : List ℕ
  parts : parts_of 32 (five_fields kind seconds from bytes) ≡ kind ∷ time ∷ address ∷ port ∷ hex ∷ []
  read : (most : ℕ) → length bytes ≤ most
      → arrival_of most time address port hex ≡ Ok (record { seconds = seconds; from = from; bytes = bytes })

-- a line with each field before the rest
fields_before : (kind time address port hex : List ℕ)
    → kind ++ codes " " ++ time ++ codes " " ++ address ++ codes " " ++ port ++ codes " " ++ hex
    ≡ kind ++ (32 ∷ (time ++ (32 ∷ (address ++ (32 ∷ (port ++ (32 ∷ hex)))))))
fields_before kind time address port hex = simp append_assoc

-- five fields in which no space stands are cut where they were joined
fields_parts : (kind time address port hex : List ℕ) → All IsNoSpace kind → All IsNoSpace time
    → All IsNoSpace address → All IsNoSpace port → All IsNoSpace hex
    → parts_of 32 (kind ++ codes " " ++ time ++ codes " " ++ address ++ codes " " ++ port ++ codes " " ++ hex)
    ≡ kind ∷ time ∷ address ∷ port ∷ hex ∷ []
fields_parts kind time address port hex hk ht ha hp hh =
    let after_port = 32 ∷ hex in
    let after_address = 32 ∷ (port ++ after_port) in
    let after_time = 32 ∷ (address ++ after_address) in
    ap (parts_of 32) (fields_before kind time address port hex)
    ∙ part 32 kind (time ++ after_time) refl hk
    ∙ ap (λ l. kind ∷ l) (part 32 time (address ++ after_address) refl ht
    ∙ ap (λ l. time ∷ l) (part 32 address (port ++ after_port) refl ha
    ∙ ap (λ l. address ∷ l) (part 32 port hex refl hp
    ∙ ap (λ l. port ∷ l) (last_part 32 hex hh))))

number_no_space : (n : ℕ) → n < 2 ^ 64 → All IsNoSpace (decimal n)
number_no_space n h = digits_other 32 n (omega arith) h

four_fields_again : (kind : List ℕ) (seconds port : ℕ) (addr : Addr) (bytes : List ℕ) → All IsNoSpace kind
    → (let from : Endpoint = record { addr = addr; port = port } in
    IsArrival seconds from bytes → FieldsText kind seconds from bytes)
four_fields_again kind seconds port (V4 octets) bytes letters h =
    let address = address_again octets h.address_of_four.0 h.address_of_four.1 in
    let hex = hex_again bytes h.bytes_of_8_bits in
    let small : port < 2 ^ 64 = omega (arith, h.port_of_16_bits) in
    let time_again = seconds_again seconds h.seconds_of_64_bits in
    let port_is = port_again port h.port_of_16_bits in
    record {
      time = decimal seconds;
      address = dotted_text octets;
      port = decimal port;
      hex = encode_lower bytes;
      parts = fields_parts kind (decimal seconds) (dotted_text octets) (decimal port) (encode_lower bytes) letters
          (number_no_space seconds h.seconds_of_64_bits) address.other (number_no_space port small) hex.other;
      read = λ most few. rw (time_again, address.read, port_is, hex.read, take_all most bytes few) refl;
    }
four_fields_again kind seconds port (V6 address) bytes letters h = absurd h.address_of_four

-- what was written of something that came is read again
fields_again : (kind : List ℕ) (seconds : ℕ) (from : Endpoint) (bytes : List ℕ) → All IsNoSpace kind
    → IsArrival seconds from bytes → FieldsText kind seconds from bytes
fields_again kind seconds from bytes letters h =
    four_fields_again kind seconds from.port from.addr bytes letters h

-- a letter that isn't a space
letter_no_space : (letter : ℕ) → (letter == 32) ≡ false → All IsNoSpace (letter ∷ [])
letter_no_space letter other = All-cons IsNoSpace letter [] other (λ i d lt. absurd (omega arith))

-- a written round of the cleaner is cut into its two fields
clean_parts : (seconds : ℕ) → seconds < 2 ^ 64
    → parts_of 32 (codes "C " ++ decimal seconds) ≡ codes "C" ∷ decimal seconds ∷ []
clean_parts seconds h =
    part 32 (codes "C") (decimal seconds) refl (letter_no_space 67 refl)
    ∙ ap (λ l. codes "C" ∷ l) (last_part 32 (decimal seconds) (number_no_space seconds h))

pub line_again : (line : TraceLine) → IsOfFour line → AllCount line → line_of (text_of line) ≡ Ok line
line_again (Udp seconds from bytes) h few =
    let again = fields_again (codes "U") seconds from bytes (letter_no_space 85 refl) h in
    ap fields_line again.parts ∙ rw (again.read 2048 few) refl
line_again (Http seconds from bytes) h few =
    let again = fields_again (codes "H") seconds from bytes (letter_no_space 72 refl) h in
    ap fields_line again.parts ∙ rw (again.read 8192 few) refl
line_again (Clean seconds) h few = ap fields_line (clean_parts seconds h) ∙ rw (seconds_again seconds h) refl
