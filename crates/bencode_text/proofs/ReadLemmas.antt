-- Two readings of the same bytes leave the same rest.
use Rattle.std.proofs.Common.{◌≡◌, ◌≢◌, ℕ, ◌-◌, ◌==◌, ◌<◌, ◌≤◌, Bool, true, false, List, [], ◌∷◌, ◌++◌, length, Option, Some, None, MatchOption, refl, sym, ap, ◌∙◌, subst, arith, get_or}
use Rattle.std.proofs.lemmas.List.{append_assoc, append-nil, length-append}
use Rattle.std.proofs.lemmas.Bool.Decides.{nat_tests}
use Rattle.std.specs.Str.Parse.{AllDigits, digits_value}
use Rattle.bencode_text.specs.Bencode.{IsCanonical, IsNumber, IsString, string_text, IsInteger, integer_text, Value, integer, string, sequence, dictionary, Values, no_values, value, Entries, no_entries, entry, value_text, values_text, entries_text, IsValid, AreValid, Ascend, value_depth, values_depth, entries_depth}
use Rattle.bencode_text.specs.Reading.{BeginsWithDigit, ReadsString, ReadsDigits, ReadsInteger, ReadsKey, Reads, ReadsValues, ReadsEntries}
use Rattle.bencode_text.proofs.NumberLemmas.{digits_unique, IsNumber-digit, append_parts}

string_split : (digits bytes rest : List ℕ) → string_text digits bytes ++ rest ≡ digits ++ (58 ∷ (bytes ++ rest))
string_split digits bytes rest = append_assoc digits (58 ∷ bytes) rest

pub string_digit : (digits bytes rest : List ℕ) → IsString digits bytes → BeginsWithDigit (string_text digits bytes ++ rest)
string_digit digits bytes rest h =
    subst BeginsWithDigit (sym (string_split digits bytes rest)) (IsNumber-digit digits (58 ∷ (bytes ++ rest)) h.number)

-- two strings at the front of the same bytes
pub string_unique : (d e k l x y : List ℕ) → IsString d k → IsString e l → string_text d k ++ x ≡ string_text e l ++ y → (k ≡ l) × (x ≡ y)
string_unique d e k l x y p q h =
    let same = digits_unique d e (58 ∷ (k ++ x)) (58 ∷ (l ++ y)) p.number.numeral.1 q.number.numeral.1 (λ n. omega arith) (λ n. omega arith)
    (sym (string_split d k x) ∙ h ∙ string_split e l y) in
    let tails : k ++ x ≡ l ++ y = cc in
    let lengths : length k ≡ length l = sym p.length_of_bytes ∙ ap (digits_value 10) same.0 ∙ q.length_of_bytes in
    append_parts k l x y lengths tails

-- two numbers before an `e`
number_rest : (d e x y : List ℕ) → IsNumber d → IsNumber e → d ++ 101 ∷ x ≡ e ++ 101 ∷ y → x ≡ y
number_rest d e x y p q h =
    let same = digits_unique d e (101 ∷ x) (101 ∷ y) p.numeral.1 q.numeral.1 (λ n. omega arith) (λ n. omega arith) h in
    cc

-- two integers before an `e`
pub integer_rest : (m n : Bool) (d e x y : List ℕ) → IsInteger m d → IsInteger n e → integer_text m d ++ 101 ∷ x ≡ integer_text n e ++ 101 ∷ y → x ≡ y
integer_rest true true d e x y p q h = let tails : d ++ 101 ∷ x ≡ e ++ 101 ∷ y = cc in number_rest d e x y p.number q.number tails
integer_rest false false d e x y p q h = number_rest d e x y p.number q.number h
integer_rest true false d e x y p q h =
    let digit = subst BeginsWithDigit (sym h) (IsNumber-digit e (101 ∷ y) q.number) in absurd (omega (arith, digit))
integer_rest false true d e x y p q h =
    let digit = subst BeginsWithDigit h (IsNumber-digit d (101 ∷ x) p.number) in absurd (omega (arith, digit))

-- what an `e` stands after
end_split : (text rest : List ℕ) → (text ++ 101 ∷ []) ++ rest ≡ text ++ (101 ∷ rest)
end_split text rest = append_assoc text (101 ∷ []) rest

-- a string begins with no letter
letter_no_string : (b : ℕ) (digits bytes x y : List ℕ) → IsString digits bytes → (BeginsWithDigit (b ∷ x) → ⊥) → b ∷ x ≡ string_text digits bytes ++ y → ⊥
letter_no_string b digits bytes x y h letter e = letter (subst BeginsWithDigit (sym e) (string_digit digits bytes y h))

-- a number begins with a digit
digit_first : (b : ℕ) (digits x y : List ℕ) → IsNumber digits → (BeginsWithDigit (b ∷ x) → ⊥) → b ∷ x ≡ digits ++ y → ⊥
digit_first b digits x y h letter e = letter (subst BeginsWithDigit (sym e) (IsNumber-digit digits y h))

-- lists with other first bytes differ
pub apart : (a b : ℕ) (x y : List ℕ) → (a ≡ b → ⊥) → a ∷ x ≡ b ∷ y → ⊥
apart a b x y other e = other (ap (λ l. get_or l 0 0) e)

-- no value begins with `e`
pub value_no_end : (w : Value) (x y : List ℕ) → IsValid w → 101 ∷ x ≡ value_text w ++ y → ⊥
value_no_end (integer minus digits) x y p h = apart 101 105 _ _ (λ e. omega arith) h
value_no_end (string digits bytes) x y p h = letter_no_string 101 digits bytes x y p (λ n. omega arith) h
value_no_end (sequence values) x y p h = apart 101 108 _ _ (λ e. omega arith) h
value_no_end (dictionary entries) x y p h = apart 101 100 _ _ (λ e. omega arith) h

-- an entry, then others, then an `e`
pub entry_split : (digits key : List ℕ) (v : Value) (es : Entries) (rest : List ℕ)
    → entries_text (entry digits key v es) ++ 101 ∷ rest
    ≡ string_text digits key ++ (value_text v ++ (entries_text es ++ 101 ∷ rest))
entry_split digits key v es rest =
    append_assoc (string_text digits key) (value_text v ++ entries_text es) (101 ∷ rest)
    ∙ ap (λ t. string_text digits key ++ t) (append_assoc (value_text v) (entries_text es) (101 ∷ rest))

mutual
  pub value_rest : (v w : Value) (x y : List ℕ) → IsValid v → IsValid w → value_text v ++ x ≡ value_text w ++ y → x ≡ y
  value_rest (integer m d) (integer n e) x y p q h =
      let tails : (integer_text m d ++ 101 ∷ []) ++ x ≡ (integer_text n e ++ 101 ∷ []) ++ y = cc in
      integer_rest m n d e x y p q (sym (end_split (integer_text m d) x) ∙ tails ∙ end_split (integer_text n e) y)
  value_rest (string d k) (string e l) x y p q h = (string_unique d e k l x y p q h).1
  value_rest (sequence vs) (sequence ws) x y p q h =
      let tails : (values_text vs ++ 101 ∷ []) ++ x ≡ (values_text ws ++ 101 ∷ []) ++ y = cc in
      values_rest vs ws x y p q (sym (end_split (values_text vs) x) ∙ tails ∙ end_split (values_text ws) y)
  value_rest (dictionary es) (dictionary fs) x y p q h =
      let tails : (entries_text es ++ 101 ∷ []) ++ x ≡ (entries_text fs ++ 101 ∷ []) ++ y = cc in
      entries_rest es fs None None x y p q (sym (end_split (entries_text es) x) ∙ tails ∙ end_split (entries_text fs) y)
  value_rest (string d k) (integer n e) x y p q h = absurd (letter_no_string 105 d k _ x p (λ n. omega arith) (sym h))
  value_rest (string d k) (sequence ws) x y p q h = absurd (letter_no_string 108 d k _ x p (λ n. omega arith) (sym h))
  value_rest (string d k) (dictionary fs) x y p q h = absurd (letter_no_string 100 d k _ x p (λ n. omega arith) (sym h))
  value_rest (integer m d) (string e l) x y p q h = absurd (letter_no_string 105 e l _ y q (λ n. omega arith) h)
  value_rest (sequence vs) (string e l) x y p q h = absurd (letter_no_string 108 e l _ y q (λ n. omega arith) h)
  value_rest (dictionary es) (string e l) x y p q h = absurd (letter_no_string 100 e l _ y q (λ n. omega arith) h)
  value_rest (integer m d) (sequence ws) x y p q h = absurd (apart 105 108 _ _ (λ e. omega arith) h)
  value_rest (integer m d) (dictionary fs) x y p q h = absurd (apart 105 100 _ _ (λ e. omega arith) h)
  value_rest (sequence vs) (integer n e) x y p q h = absurd (apart 108 105 _ _ (λ e. omega arith) h)
  value_rest (sequence vs) (dictionary fs) x y p q h = absurd (apart 108 100 _ _ (λ e. omega arith) h)
  value_rest (dictionary es) (integer n e) x y p q h = absurd (apart 100 105 _ _ (λ e. omega arith) h)
  value_rest (dictionary es) (sequence ws) x y p q h = absurd (apart 100 108 _ _ (λ e. omega arith) h)

  pub values_rest : (vs ws : Values) (x y : List ℕ) → AreValid vs → AreValid ws → values_text vs ++ 101 ∷ x ≡ values_text ws ++ 101 ∷ y → x ≡ y
  values_rest no_values no_values x y p q h = cc
  values_rest no_values (value w ws) x y p q h =
      absurd (value_no_end w x (values_text ws ++ 101 ∷ y) q.0 (h ∙ append_assoc (value_text w) (values_text ws) (101 ∷ y)))
  values_rest (value v vs) no_values x y p q h =
      absurd (value_no_end v y (values_text vs ++ 101 ∷ x) p.0 (sym h ∙ append_assoc (value_text v) (values_text vs) (101 ∷ x)))
  values_rest (value v vs) (value w ws) x y p q h =
      values_rest vs ws x y p.1 q.1
      (value_rest v w (values_text vs ++ 101 ∷ x) (values_text ws ++ 101 ∷ y) p.0 q.0
      (sym (append_assoc (value_text v) (values_text vs) (101 ∷ x)) ∙ h ∙ append_assoc (value_text w) (values_text ws) (101 ∷ y)))

  pub entries_rest : (es fs : Entries) (k l : Option (List ℕ)) (x y : List ℕ) → Ascend es k → Ascend fs l → entries_text es ++ 101 ∷ x ≡ entries_text fs ++ 101 ∷ y → x ≡ y
  entries_rest no_entries no_entries k l x y p q h = cc
  entries_rest no_entries (entry e f w fs) k l x y p q h =
      absurd (letter_no_string 101 e f x (value_text w ++ (entries_text fs ++ 101 ∷ y)) q.0 (λ n. omega arith) (h ∙ entry_split e f w fs y))
  entries_rest (entry d c v es) no_entries k l x y p q h =
      absurd (letter_no_string 101 d c y (value_text v ++ (entries_text es ++ 101 ∷ x)) p.0 (λ n. omega arith) (sym h ∙ entry_split d c v es x))
  entries_rest (entry d c v es) (entry e f w fs) k l x y p q h =
      let keys = string_unique d e c f (value_text v ++ (entries_text es ++ 101 ∷ x)) (value_text w ++ (entries_text fs ++ 101 ∷ y)) p.0 q.0
      (sym (entry_split d c v es x) ∙ h ∙ entry_split e f w fs y) in
      entries_rest es fs (Some c) (Some f) x y p.3 q.3
      (value_rest v w (entries_text es ++ 101 ∷ x) (entries_text fs ++ 101 ∷ y) p.2 q.2 keys.1)

-- a string's digits are all the digits at the front
string_digits : (bytes ds r key rest : List ℕ) → AllDigits 10 ds → bytes ≡ ds ++ r → (BeginsWithDigit r → ⊥)
    → (s : ReadsString bytes key rest) → (s.digits ≡ ds) × (58 ∷ (key ++ rest) ≡ r)
string_digits bytes ds r key rest all cut ends s =
    digits_unique s.digits ds (58 ∷ (key ++ rest)) r s.valid.number.numeral.1 all (λ n. omega arith) ends
    (sym (string_split s.digits key rest) ∙ sym s.text ∙ cut)

pub no_string-no_number : (bytes ds r : List ℕ) → AllDigits 10 ds → bytes ≡ ds ++ r → (BeginsWithDigit r → ⊥) → (IsNumber ds → ⊥)
    → (key rest : List ℕ) → ReadsString bytes key rest → ⊥
no_string-no_number bytes ds r all cut ends bad key rest s =
    bad (subst IsNumber (string_digits bytes ds r key rest all cut ends s).0 s.valid.number)

pub no_string-no_colon : (bytes ds r : List ℕ) → AllDigits 10 ds → bytes ≡ ds ++ r → (BeginsWithDigit r → ⊥)
    → ((rest : List ℕ) → r ≢ 58 ∷ rest) → (key rest : List ℕ) → ReadsString bytes key rest → ⊥
no_string-no_colon bytes ds r all cut ends bad key rest s =
    bad (key ++ rest) (sym (string_digits bytes ds r key rest all cut ends s).1)

pub no_string-short : (bytes ds r left : List ℕ) → AllDigits 10 ds → bytes ≡ ds ++ r → (BeginsWithDigit r → ⊥) → r ≡ 58 ∷ left
    → length left < digits_value 10 ds → (key rest : List ℕ) → ReadsString bytes key rest → ⊥
no_string-short bytes ds r left all cut ends colon short key rest s =
    let same = string_digits bytes ds r key rest all cut ends s in
    let lengths = ap length (same.1 ∙ colon) in
    let value = ap (digits_value 10) same.0 in
    omega (arith, length-append key rest, s.valid.length_of_bytes)

pub ReadsString_shorter : (bytes key rest : List ℕ) → ReadsString bytes key rest → length rest < length bytes
ReadsString_shorter bytes key rest s =
    rw s.text (simp length-append (omega arith))

pub ReadsString_unique : (bytes k l x y : List ℕ) → ReadsString bytes k x → ReadsString bytes l y → (k ≡ l) × (x ≡ y)
ReadsString_unique bytes k l x y s t = string_unique s.digits t.digits k l x y s.valid t.valid (sym s.text ∙ t.text)

number_digits : (minus : Bool) (bytes ds r rest : List ℕ) → AllDigits 10 ds → bytes ≡ ds ++ r → (BeginsWithDigit r → ⊥)
    → (s : ReadsDigits minus bytes rest) → (s.digits ≡ ds) × (101 ∷ rest ≡ r)
number_digits minus bytes ds r rest all cut ends s =
    digits_unique s.digits ds (101 ∷ rest) r s.valid.number.numeral.1 all (λ n. omega arith) ends (sym s.text ∙ cut)

pub no_digits-no_number : (minus : Bool) (bytes ds r : List ℕ) → AllDigits 10 ds → bytes ≡ ds ++ r → (BeginsWithDigit r → ⊥)
    → (IsNumber ds → ⊥) → (rest : List ℕ) → ReadsDigits minus bytes rest → ⊥
no_digits-no_number minus bytes ds r all cut ends bad rest s =
    bad (subst IsNumber (number_digits minus bytes ds r rest all cut ends s).0 s.valid.number)

pub no_digits-no_end : (minus : Bool) (bytes ds r : List ℕ) → AllDigits 10 ds → bytes ≡ ds ++ r → (BeginsWithDigit r → ⊥)
    → ((rest : List ℕ) → r ≢ 101 ∷ rest) → (rest : List ℕ) → ReadsDigits minus bytes rest → ⊥
no_digits-no_end minus bytes ds r all cut ends bad rest s =
    bad rest (sym (number_digits minus bytes ds r rest all cut ends s).1)

-- a number that begins with `0` is `0`
just_zero : (ds : List ℕ) → IsNumber ds → get_or ds 0 0 ≡ 48 → ds ≡ 48 ∷ []
just_zero [] h e = absurd (omega (arith, h.numeral.0))
just_zero (d ∷ []) h e = ap (λ x. x ∷ []) e
just_zero (d ∷ c ∷ ds) h e = absurd (omega (arith, h.plain e))

pub no_digits-minus_zero : (minus : Bool) (bytes ds r : List ℕ) → AllDigits 10 ds → bytes ≡ ds ++ r → (BeginsWithDigit r → ⊥)
    → IsNumber ds → minus ≡ true → get_or ds 0 0 ≡ 48 → (rest : List ℕ) → ReadsDigits minus bytes rest → ⊥
no_digits-minus_zero minus bytes ds r all cut ends number negative zero rest s =
    s.valid.no_minus_zero negative ((number_digits minus bytes ds r rest all cut ends s).0 ∙ just_zero ds number zero)

-- an answer of rests after one thing is one of rests after another with the same rests
pub match_rests : {T : Type 0} (o : Option T) (now : T → List ℕ) (P Q : List ℕ → Type 0) → ((r : List ℕ) → Q r → P r) → ((r : List ℕ) → P r → Q r)
    → MatchOption o ((r : List ℕ) → P r → ⊥) (λ x. P (now x)) → MatchOption o ((r : List ℕ) → Q r → ⊥) (λ x. Q (now x))
match_rests None now P Q to from h = λ r q. h r (to r q)
match_rests (Some x) now P Q to from h = from (now x) h

-- what begins with `-`
minus_digits : (minus : Bool) (digits ds r : List ℕ) → IsInteger minus digits → 45 ∷ ds ≡ integer_text minus digits ++ 101 ∷ r → ReadsDigits true ds r
minus_digits true digits ds r h e = record { digits = digits; valid = h; text = cc }
minus_digits false digits ds r h e = absurd (digit_first 45 digits ds (101 ∷ r) h.number (λ n. omega arith) e)

plain_digits : (minus : Bool) (digits bytes r : List ℕ) → IsInteger minus digits → ((rest : List ℕ) → bytes ≢ 45 ∷ rest)
    → bytes ≡ integer_text minus digits ++ 101 ∷ r → ReadsDigits false bytes r
plain_digits true digits bytes r h no_minus e = absurd (no_minus (digits ++ 101 ∷ r) e)
plain_digits false digits bytes r h no_minus e = record { digits = digits; valid = h; text = e }

pub minus_to : (bytes ds r : List ℕ) → bytes ≡ 45 ∷ ds → ReadsInteger bytes r → ReadsDigits true ds r
minus_to bytes ds r cut s = minus_digits s.minus s.digits ds r s.valid (sym cut ∙ s.text)

pub minus_from : (bytes ds r : List ℕ) → bytes ≡ 45 ∷ ds → ReadsDigits true ds r → ReadsInteger bytes r
minus_from bytes ds r cut s = record { minus = true; digits = s.digits; valid = s.valid; text = cut ∙ ap (λ t. 45 ∷ t) s.text }

pub plain_to : (bytes r : List ℕ) → ((rest : List ℕ) → bytes ≢ 45 ∷ rest) → ReadsInteger bytes r → ReadsDigits false bytes r
plain_to bytes r no_minus s = plain_digits s.minus s.digits bytes r s.valid no_minus s.text

pub plain_from : (bytes r : List ℕ) → ReadsDigits false bytes r → ReadsInteger bytes r
plain_from bytes r s = record { minus = false; digits = s.digits; valid = s.valid; text = s.text }

-- what begins with `i`
integer_tree : (v : Value) (t r : List ℕ) → IsValid v → 105 ∷ t ≡ value_text v ++ r → ReadsInteger t r
integer_tree (integer m d) t r h e =
    let tails : t ≡ (integer_text m d ++ 101 ∷ []) ++ r = cc in
    record { minus = m; digits = d; valid = h; text = tails ∙ end_split (integer_text m d) r }
integer_tree (string d k) t r h e = absurd (letter_no_string 105 d k t r h (λ n. omega arith) e)
integer_tree (sequence vs) t r h e = absurd (apart 105 108 _ _ (λ n. omega arith) e)
integer_tree (dictionary es) t r h e = absurd (apart 105 100 _ _ (λ n. omega arith) e)

pub integer_to : (depth : ℕ) (bytes t r : List ℕ) → bytes ≡ 105 ∷ t → Reads depth bytes r → ReadsInteger t r
integer_to depth bytes t r cut s = integer_tree s.tree t r s.valid (sym cut ∙ s.text)

pub integer_from : (depth : ℕ) (bytes t r : List ℕ) → bytes ≡ 105 ∷ t → ReadsInteger t r → Reads depth bytes r
integer_from depth bytes t r cut s = record {
  tree = integer s.minus s.digits;
  valid = s.valid;
  nested = omega arith;
  text = cut ∙ ap (λ l. 105 ∷ l) (s.text ∙ sym (end_split (integer_text s.minus s.digits) r));
}

-- what begins with `l`
sequence_tree : (v : Value) (depth : ℕ) (t r : List ℕ) → IsValid v → value_depth v ≤ depth → 108 ∷ t ≡ value_text v ++ r → ReadsValues depth t r
sequence_tree (integer m d) depth t r h n e = absurd (apart 108 105 _ _ (λ n. omega arith) e)
sequence_tree (string d k) depth t r h n e = absurd (letter_no_string 108 d k t r h (λ n. omega arith) e)
sequence_tree (sequence vs) depth t r h n e =
    let tails : t ≡ (values_text vs ++ 101 ∷ []) ++ r = cc in
    record { trees = vs; valid = h; nested = omega arith; text = tails ∙ end_split (values_text vs) r }
sequence_tree (dictionary es) depth t r h n e = absurd (apart 108 100 _ _ (λ n. omega arith) e)

pub sequence_to : (depth : ℕ) (bytes t r : List ℕ) → bytes ≡ 108 ∷ t → Reads depth bytes r → ReadsValues depth t r
sequence_to depth bytes t r cut s = sequence_tree s.tree depth t r s.valid s.nested (sym cut ∙ s.text)

pub sequence_from : (depth : ℕ) (bytes t r : List ℕ) → bytes ≡ 108 ∷ t → ReadsValues depth t r → Reads depth bytes r
sequence_from depth bytes t r cut s = record {
  tree = sequence s.trees;
  valid = s.valid;
  nested = omega (arith, s.nested);
  text = cut ∙ ap (λ l. 108 ∷ l) (s.text ∙ sym (end_split (values_text s.trees) r));
}

-- what begins with `d`
dictionary_tree : (v : Value) (depth : ℕ) (t r : List ℕ) → IsValid v → value_depth v ≤ depth → 100 ∷ t ≡ value_text v ++ r → ReadsEntries depth None t r
dictionary_tree (integer m d) depth t r h n e = absurd (apart 100 105 _ _ (λ n. omega arith) e)
dictionary_tree (string d k) depth t r h n e = absurd (letter_no_string 100 d k t r h (λ n. omega arith) e)
dictionary_tree (sequence vs) depth t r h n e = absurd (apart 100 108 _ _ (λ n. omega arith) e)
dictionary_tree (dictionary es) depth t r h n e =
    let tails : t ≡ (entries_text es ++ 101 ∷ []) ++ r = cc in
    record { trees = es; valid = h; nested = omega arith; text = tails ∙ end_split (entries_text es) r }

pub dictionary_to : (depth : ℕ) (bytes t r : List ℕ) → bytes ≡ 100 ∷ t → Reads depth bytes r → ReadsEntries depth None t r
dictionary_to depth bytes t r cut s = dictionary_tree s.tree depth t r s.valid s.nested (sym cut ∙ s.text)

pub dictionary_from : (depth : ℕ) (bytes t r : List ℕ) → bytes ≡ 100 ∷ t → ReadsEntries depth None t r → Reads depth bytes r
dictionary_from depth bytes t r cut s = record {
  tree = dictionary s.trees;
  valid = s.valid;
  nested = omega (arith, s.nested);
  text = cut ∙ ap (λ l. 100 ∷ l) (s.text ∙ sym (end_split (entries_text s.trees) r));
}

-- what begins with none of these letters
string_tree : (v : Value) (bytes r : List ℕ) → IsValid v → ((t : List ℕ) → bytes ≢ 105 ∷ t) → ((t : List ℕ) → bytes ≢ 108 ∷ t)
    → ((t : List ℕ) → bytes ≢ 100 ∷ t) → bytes ≡ value_text v ++ r → (key : List ℕ) × ReadsString bytes key r
string_tree (integer m d) bytes r h ni nl nd e = absurd (ni _ e)
string_tree (string d k) bytes r h ni nl nd e = (k, record { digits = d; valid = h; text = e })
string_tree (sequence vs) bytes r h ni nl nd e = absurd (nl _ e)
string_tree (dictionary es) bytes r h ni nl nd e = absurd (nd _ e)

pub string_to : (depth : ℕ) (bytes r : List ℕ) → ((t : List ℕ) → bytes ≢ 105 ∷ t) → ((t : List ℕ) → bytes ≢ 108 ∷ t)
    → ((t : List ℕ) → bytes ≢ 100 ∷ t) → Reads depth bytes r → (key : List ℕ) × ReadsString bytes key r
string_to depth bytes r ni nl nd s = string_tree s.tree bytes r s.valid ni nl nd s.text

pub string_from : (depth : ℕ) (bytes key r : List ℕ) → ReadsString bytes key r → Reads depth bytes r
string_from depth bytes key r s = record { tree = string s.digits key; valid = s.valid; nested = omega arith; text = s.text }

-- two values at the front of the same bytes
pub Reads_unique : (depth : ℕ) (bytes x y : List ℕ) → Reads depth bytes x → Reads depth bytes y → x ≡ y
Reads_unique depth bytes x y s t = value_rest s.tree t.tree x y s.valid t.valid (sym s.text ∙ t.text)

-- ---- the values of a list, one after another

-- what is left reads as the whole does
pub record GoesOn (depth : ℕ) (bytes left : List ℕ) : Type 0 where
  pub to : (r : List ℕ) → ReadsValues depth bytes r → ReadsValues depth left r
  pub from : (r : List ℕ) → ReadsValues depth left r → ReadsValues depth bytes r
  pub short : length left ≤ length bytes

-- the values after the first
later_values : (vs : Values) (depth : ℕ) (left rest r : List ℕ) → 0 < depth → AreValid vs → values_depth vs < depth
    → left ≡ values_text vs ++ 101 ∷ r → Reads (depth - 1) left rest → ReadsValues depth rest r
later_values no_values depth left rest r some h n e s = absurd (value_no_end s.tree r rest s.valid (sym e ∙ s.text))
later_values (value w ws) depth left rest r some h n e s =
    let tails = value_rest w s.tree (values_text ws ++ 101 ∷ r) rest h.0 s.valid
    (sym (append_assoc (value_text w) (values_text ws) (101 ∷ r)) ∙ sym e ∙ s.text) in
    record { trees = ws; valid = h.1; nested = omega arith; text = sym tails }

earlier_values : (depth : ℕ) (left rest r : List ℕ) → 0 < depth → Reads (depth - 1) left rest → ReadsValues depth rest r → ReadsValues depth left r
earlier_values depth left rest r some s t = record {
  trees = value s.tree t.trees;
  valid = (s.valid, t.valid);
  nested = omega (arith, s.nested, t.nested);
  text = s.text ∙ ap (λ l. value_text s.tree ++ l) t.text ∙ sym (append_assoc (value_text s.tree) (values_text t.trees) (101 ∷ r));
}

pub GoesOn-init : (depth : ℕ) (bytes : List ℕ) → GoesOn depth bytes bytes
GoesOn-init depth bytes = record { to = λ r s. s; from = λ r s. s; short = omega arith }

pub GoesOn-more : (depth : ℕ) (bytes left rest : List ℕ) → 0 < depth → GoesOn depth bytes left → Reads (depth - 1) left rest
    → length rest < length left → GoesOn depth bytes rest
GoesOn-more depth bytes left rest some g s less = record {
  to = λ r t. let u = g.to r t in later_values u.trees depth left rest r some u.valid u.nested u.text s;
  from = λ r t. g.from r (earlier_values depth left rest r some s t);
  short = omega (arith, g.short);
}

pub GoesOn-end : (depth : ℕ) (bytes left rest : List ℕ) → 0 < depth → GoesOn depth bytes left → left ≡ 101 ∷ rest → ReadsValues depth bytes rest
GoesOn-end depth bytes left rest some g e = g.from rest (record { trees = no_values; valid = tt; nested = omega arith; text = e })

no_more_values : (vs : Values) (depth : ℕ) (left r : List ℕ) → AreValid vs → values_depth vs < depth → left ≡ values_text vs ++ 101 ∷ r
    → ((t : List ℕ) → left ≢ 101 ∷ t) → ((t : List ℕ) → Reads (depth - 1) left t → ⊥) → ⊥
no_more_values no_values depth left r h n e no_e bad = no_e r e
no_more_values (value w ws) depth left r h n e no_e bad =
    bad (values_text ws ++ 101 ∷ r) (record {
      tree = w;
      valid = h.0;
      nested = omega arith;
      text = e ∙ append_assoc (value_text w) (values_text ws) (101 ∷ r);
    })

pub GoesOn-fail : (depth : ℕ) (bytes left : List ℕ) → GoesOn depth bytes left → ((t : List ℕ) → left ≢ 101 ∷ t)
    → ((t : List ℕ) → Reads (depth - 1) left t → ⊥) → (r : List ℕ) → ReadsValues depth bytes r → ⊥
GoesOn-fail depth bytes left g no_e bad r t =
    let u = g.to r t in no_more_values u.trees depth left r u.valid u.nested u.text no_e bad

-- ---- the entries of a dictionary, one after another

pub record GoesAfter (depth : ℕ) (bytes left : List ℕ) (last : Option (List ℕ)) : Type 0 where
  pub to : (r : List ℕ) → ReadsEntries depth None bytes r → ReadsEntries depth last left r
  pub from : (r : List ℕ) → ReadsEntries depth last left r → ReadsEntries depth None bytes r
  pub short : length left ≤ length bytes

-- the entries after the first
later_entries : (es : Entries) (depth : ℕ) (last : Option (List ℕ)) (left key v rest r : List ℕ) → 0 < depth → Ascend es last
    → entries_depth es < depth → left ≡ entries_text es ++ 101 ∷ r → ReadsKey last left key v → Reads (depth - 1) v rest
    → ReadsEntries depth (Some key) rest r
later_entries no_entries depth last left key v rest r some h n e k s =
    absurd (letter_no_string 101 k.string.digits key r v k.string.valid (λ n. omega arith) (sym e ∙ k.string.text))
later_entries (entry d c w es) depth last left key v rest r some h n e k s =
    let keys = string_unique d k.string.digits c key (value_text w ++ (entries_text es ++ 101 ∷ r)) v h.0 k.string.valid
    (sym (entry_split d c w es r) ∙ sym e ∙ k.string.text) in
    let tails = value_rest w s.tree (entries_text es ++ 101 ∷ r) rest h.2 s.valid (keys.1 ∙ s.text) in
    record { trees = es; valid = subst (λ x. Ascend es (Some x)) keys.0 h.3; nested = omega arith; text = sym tails }

earlier_entries : (depth : ℕ) (last : Option (List ℕ)) (left key v rest r : List ℕ) → 0 < depth → ReadsKey last left key v
    → Reads (depth - 1) v rest → ReadsEntries depth (Some key) rest r → ReadsEntries depth last left r
earlier_entries depth last left key v rest r some k s t = record {
  trees = entry k.string.digits key s.tree t.trees;
  valid = (k.string.valid, k.above, s.valid, t.valid);
  nested = omega (arith, s.nested, t.nested);
  text = k.string.text ∙ ap (λ l. string_text k.string.digits key ++ l) (s.text ∙ ap (λ l. value_text s.tree ++ l) t.text)
      ∙ sym (entry_split k.string.digits key s.tree t.trees r);
}

pub GoesAfter-init : (depth : ℕ) (bytes : List ℕ) → GoesAfter depth bytes bytes None
GoesAfter-init depth bytes = record { to = λ r s. s; from = λ r s. s; short = omega arith }

pub GoesAfter-more : (depth : ℕ) (bytes left : List ℕ) (last : Option (List ℕ)) (key v rest : List ℕ) → 0 < depth → GoesAfter depth bytes left last
    → ReadsKey last left key v → Reads (depth - 1) v rest → length rest < length left → GoesAfter depth bytes rest (Some key)
GoesAfter-more depth bytes left last key v rest some g k s less = record {
  to = λ r t. let u = g.to r t in later_entries u.trees depth last left key v rest r some u.valid u.nested u.text k s;
  from = λ r t. g.from r (earlier_entries depth last left key v rest r some k s t);
  short = omega (arith, g.short);
}

pub GoesAfter-end : (depth : ℕ) (bytes left : List ℕ) (last : Option (List ℕ)) (rest : List ℕ) → 0 < depth → GoesAfter depth bytes left last
    → left ≡ 101 ∷ rest → ReadsEntries depth None bytes rest
GoesAfter-end depth bytes left last rest some g e =
    g.from rest (record { trees = no_entries; valid = tt; nested = omega arith; text = e })

no_more_entries : (es : Entries) (depth : ℕ) (last : Option (List ℕ)) (left r : List ℕ) → Ascend es last → entries_depth es < depth
    → left ≡ entries_text es ++ 101 ∷ r → ((t : List ℕ) → left ≢ 101 ∷ t)
    → ((key v : List ℕ) → ReadsKey last left key v → (t : List ℕ) → Reads (depth - 1) v t → ⊥) → ⊥
no_more_entries no_entries depth last left r h n e no_e bad = no_e r e
no_more_entries (entry d c w es) depth last left r h n e no_e bad =
    bad c (value_text w ++ (entries_text es ++ 101 ∷ r))
    (record { string = record { digits = d; valid = h.0; text = e ∙ entry_split d c w es r }; above = h.1 })
    (entries_text es ++ 101 ∷ r)
    (record { tree = w; valid = h.2; nested = omega arith; text = refl })

pub GoesAfter-fail : (depth : ℕ) (bytes left : List ℕ) (last : Option (List ℕ)) → GoesAfter depth bytes left last → ((t : List ℕ) → left ≢ 101 ∷ t)
    → ((key v : List ℕ) → ReadsKey last left key v → (t : List ℕ) → Reads (depth - 1) v t → ⊥)
    → (r : List ℕ) → ReadsEntries depth None bytes r → ⊥
GoesAfter-fail depth bytes left last g no_e bad r t =
    let u = g.to r t in no_more_entries u.trees depth last left r u.valid u.nested u.text no_e bad

-- no value follows this key, the only one
pub no_value_after : (depth : ℕ) (last : Option (List ℕ)) (left key v : List ℕ) → ReadsKey last left key v
    → ((t : List ℕ) → Reads (depth - 1) v t → ⊥)
    → (other w : List ℕ) → ReadsKey last left other w → (t : List ℕ) → Reads (depth - 1) w t → ⊥
no_value_after depth last left key v k bad other w o t s =
    let same = ReadsString_unique left other key w v o.string k.string in
    bad t (subst (λ x. Reads (depth - 1) x t) same.1 s)

-- ---- all of the bytes

pub zero_from_test : (n : ℕ) → (n == 0) ≡ true → n ≡ 0
zero_from_test n h = grind (arith, nat_tests)

pub canonical_from : (bytes rest : List ℕ) → length rest ≡ 0 → Reads 64 bytes rest → IsCanonical bytes
canonical_from bytes [] none s = record { tree = s.tree; valid = s.valid; depth = s.nested; text = s.text ∙ append-nil (value_text s.tree) }
canonical_from bytes (b ∷ rest) some s = absurd (omega arith)

pub canonical_to : (bytes : List ℕ) → IsCanonical bytes → Reads 64 bytes []
canonical_to bytes c = record { tree = c.tree; valid = c.valid; nested = c.depth; text = c.text ∙ sym (append-nil (value_text c.tree)) }
