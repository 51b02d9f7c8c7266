-- Decimal digits, read from the first to the last.
use Rattle.std.proofs.Common.{◌≡◌, ℕ, ◌+◌, ◌*◌, ◌^◌, ◌<◌, ◌≤◌, Bool, true, false, ◌&&◌, List, [], ◌∷◌, Option, Some, None, inl, inr, length, get_or, drop, refl, sym, ap, subst, arith}
use Rattle.std.specs.Prelude.{nat_lt, if◌then◌else◌}
use Rattle.std.specs.Char.{is_ascii_digit, digit_value}
use Rattle.std.specs.List.{list_all}
use Rattle.std.specs.Str.Parse.{digits_value, digits_value_after}
use Rattle.std.proofs.lemmas.Bool.{and_cases, and_left, and_right, le-ltb, lt-ltb, ltb-false}
use Rattle.std.proofs.lemmas.List.{drop_all, drop_more}

-- further digits don't make a number smaller
pub digits_value_after-ge : (number : ℕ) (digits : List ℕ) → number ≤ digits_value_after 10 number digits
digits_value_after-ge number [] = omega arith
digits_value_after-ge number (digit ∷ digits) =
    let more = digits_value_after-ge (number * 10 + digit_value digit) digits in omega arith

-- a text is no number where its next digit is none or makes the number too large
pub is_number-refused : (number digit : ℕ) (digits : List ℕ)
    → (is_ascii_digit digit && nat_lt (number * 10 + digit_value digit) (2 ^ 64)) ≡ false
    → (list_all is_ascii_digit (digit ∷ digits) && nat_lt (digits_value_after 10 number (digit ∷ digits)) (2 ^ 64)) ≡ false
is_number-refused number digit digits h =
    elim (and_cases (is_ascii_digit digit) _ h) [
      | inl other ↦ and_left _ _ (and_left _ _ other)
      | inr large ↦
          let least : 2 ^ 64 ≤ number * 10 + digit_value digit = ltb-false _ _ large in
          let more = digits_value_after-ge (number * 10 + digit_value digit) digits in
          and_right _ _ (le-ltb (digits_value_after 10 number (digit ∷ digits)) (2 ^ 64) (omega arith))
    ]

-- whether digits write a number of at most 64 bits, and which
abbrev pub number_from : List ℕ → Option ℕ
number_from text =
    if list_all is_ascii_digit text && nat_lt (digits_value 10 text) (2 ^ 64) then Some (digits_value 10 text) else None

-- what is left of a text after i digits of a number goes on with that number
pub record GoesOn (text : List ℕ) (i number : ℕ) : Type 0 where
  pub value : digits_value_after 10 number (drop i text) ≡ digits_value 10 text
  pub digits : list_all is_ascii_digit (drop i text) ≡ list_all is_ascii_digit text
  pub small : number < 2 ^ 64

-- a choice of a value or none was none
pub none_from_if : (b : Bool) (number : ℕ) → None ≡ (if b then Some number else None) → b ≡ false
none_from_if true number h = cc
none_from_if false number h = refl

-- nothing is left
pub number_from-whole : (text : List ℕ) (i number : ℕ) → length text ≤ i → GoesOn text i number → Some number ≡ number_from text
number_from-whole text i number end h =
    let value : number ≡ digits_value 10 text = rw (drop_all i text end) at h.value in
    let digits : true ≡ list_all is_ascii_digit text = rw (drop_all i text end) at h.digits in
    let small : nat_lt (digits_value 10 text) (2 ^ 64) ≡ true = lt-ltb _ _ (rw value at h.small) in
    rw (← digits, small) (ap Some value)

-- the next byte doesn't go on
pub number_from-refused : (text : List ℕ) (i number : ℕ) → i < length text → GoesOn text i number
    → (is_ascii_digit (get_or text i 0) && nat_lt (number * 10 + digit_value (get_or text i 0)) (2 ^ 64)) ≡ false
    → None ≡ number_from text
number_from-refused text i number inside h bad =
    let refused = is_number-refused number (get_or text i 0) (drop (i + 1) text) bad in
    let IsRefused : List ℕ → Type 0 =
    λ rest. (list_all is_ascii_digit rest && nat_lt (digits_value_after 10 number rest) (2 ^ 64)) ≡ false in
    let left = subst IsRefused (sym (drop_more text i 0 inside)) refused in
    let whole : (list_all is_ascii_digit text && nat_lt (digits_value 10 text) (2 ^ 64)) ≡ false = rw (h.value, h.digits) at left in
    rw whole refl
