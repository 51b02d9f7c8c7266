-- Digits at the front of some bytes, and the numbers that they write.
use Rattle.std.proofs.Common.{◌≡◌, ℕ, ◌+◌, ◌*◌, ◌<◌, ◌≤◌, List, [], ◌∷◌, ◌++◌, true, length, get_or, take, drop, refl, sym, ap, subst, arith}
use Rattle.std.specs.Char.{digit_value, is_ascii_digit}
use Rattle.std.specs.Str.Parse.{AllDigits, digits_value, digits_value_after}
use Rattle.std.proofs.lemmas.List.{drop_more, take_more}
use Rattle.std.proofs.lemmas.Bool.Decides.{nat_tests}
use Rattle.bencode_text.specs.Bencode.{IsNumber}
use Rattle.bencode_text.specs.Reading.{BeginsWithDigit}

pub AllDigits-push : (ds : List ℕ) (d : ℕ) → AllDigits 10 ds → digit_value d < 10 → AllDigits 10 (ds ++ d ∷ [])
AllDigits-push [] d h small = (small, tt)
AllDigits-push (c ∷ cs) d h small = (h.0, AllDigits-push cs d h.1 small)

digit_below_ten : (d : ℕ) → is_ascii_digit d ≡ true → digit_value d < 10
digit_below_ten d h = grind (arith, nat_tests)

-- the next byte is a digit too
pub AllDigits-take_more : (bytes : List ℕ) (i : ℕ) → i < length bytes → is_ascii_digit (get_or bytes i 0) ≡ true
    → AllDigits 10 (take i bytes) → AllDigits 10 (take (i + 1) bytes)
AllDigits-take_more bytes i inside digit h =
    rw (take_more bytes i 0 inside) (AllDigits-push (take i bytes) (get_or bytes i 0) h (digit_below_ten (get_or bytes i 0) digit))

-- the first of what is left of some digits
pub AllDigits-first : (ds : List ℕ) (i : ℕ) → i < length ds → AllDigits 10 (drop i ds)
    → (digit_value (get_or ds i 0) < 10) × AllDigits 10 (drop (i + 1) ds)
AllDigits-first ds i inside h = rw (drop_more ds i 0 inside) at h

-- further digits don't make a number smaller
pub digits_value_after-ge : (number : ℕ) (digits : List ℕ) → number ≤ digits_value_after 10 number digits
digits_value_after-ge number [] = omega arith
digits_value_after-ge number (digit ∷ digits) =
    let more = digits_value_after-ge (number * 10 + digit_value digit) digits in omega arith

-- the number after the next digit
pub digits_value_after-more : (ds : List ℕ) (i number : ℕ) → i < length ds
    → digits_value_after 10 number (drop i ds) ≡ digits_value_after 10 (number * 10 + digit_value (get_or ds i 0)) (drop (i + 1) ds)
digits_value_after-more ds i number inside = ap (digits_value_after 10 number) (drop_more ds i 0 inside)

-- a number that is too large stays so
pub too_large : (ds : List ℕ) (i number most : ℕ) → i < length ds → digits_value_after 10 number (drop i ds) ≡ digits_value 10 ds
    → most < number * 10 + digit_value (get_or ds i 0) → most < digits_value 10 ds
too_large ds i number most inside value large =
    let more = digits_value_after-more ds i number inside in
    let least = digits_value_after-ge (number * 10 + digit_value (get_or ds i 0)) (drop (i + 1) ds) in
    omega arith

-- the digits at the front end where no digit follows
pub digits_unique : (ds es x y : List ℕ) → AllDigits 10 ds → AllDigits 10 es → (BeginsWithDigit x → ⊥) → (BeginsWithDigit y → ⊥)
    → ds ++ x ≡ es ++ y → (ds ≡ es) × (x ≡ y)
digits_unique [] [] x y d e nx ny h = (refl, h)
digits_unique [] (c ∷ es) x y d e nx ny h = absurd (nx (subst BeginsWithDigit (sym h) e.0))
digits_unique (c ∷ ds) [] x y d e nx ny h = absurd (ny (subst BeginsWithDigit h d.0))
digits_unique (b ∷ ds) (c ∷ es) x y d e nx ny h =
    let tails : ds ++ x ≡ es ++ y = cc in
    let heads : b ≡ c = cc in
    let rest = digits_unique ds es x y d.1 e.1 nx ny tails in
    (cc, rest.1)

-- a number's first byte is a digit
pub IsNumber-digit : (digits rest : List ℕ) → IsNumber digits → BeginsWithDigit (digits ++ rest)
IsNumber-digit [] rest h = absurd (omega (arith, h.numeral.0))
IsNumber-digit (d ∷ digits) rest h = h.numeral.1.0

-- bytes that two lists begin with
pub append_parts : (a b x y : List ℕ) → length a ≡ length b → a ++ x ≡ b ++ y → (a ≡ b) × (x ≡ y)
append_parts [] [] x y e h = (refl, h)
append_parts [] (c ∷ b) x y e h = absurd (omega arith)
append_parts (c ∷ a) [] x y e h = absurd (omega arith)
append_parts (c ∷ a) (d ∷ b) x y e h =
    let tails : a ++ x ≡ b ++ y = cc in
    let heads : c ≡ d = cc in
    let rest = append_parts a b x y (omega arith) tails in
    (cc, rest.1)
