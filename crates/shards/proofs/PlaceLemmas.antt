-- The number of a torrent's bucket.
use Rattle.std.proofs.Common.{◌≡◌, ℕ, ◌+◌, ◌-◌, ◌*◌, ◌^◌, ◌<◌, ◌≤◌, List, [], ◌∷◌, sym, ◌∙◌, ap, arith, get_or, take}
use Rattle.std.specs.Int.{w16, from_be_bytes}
use Rattle.std.proofs.Math.Nat.{div-lt_iff_lt-mul}
use Rattle.std.proofs.lemmas.Nat.{pow-add, pow_pos}
use Rattle.ot_base.specs.Hash.{first_bits}

two_bytes : (bytes : List ℕ) → get_or bytes 0 0 < 256 → get_or bytes 1 0 < 256 → from_be_bytes w16 (take 2 bytes) < 65536
two_bytes [] first second = omega arith
two_bytes (a ∷ []) first second = omega arith
two_bytes (a ∷ b ∷ bytes) first second = omega arith

-- the first bits make a number that they can make
pub first_bits_below : (bytes : List ℕ) (bits : ℕ) → bits ≤ 10 → get_or bytes 0 0 < 256 → get_or bytes 1 0 < 256 → first_bits bytes bits < 2 ^ bits
first_bits_below bytes bits few first second =
    let all : bits + (16 - bits) ≡ 16 = omega arith in
    let power : 2 ^ bits * 2 ^ (16 - bits) ≡ 65536 = sym (pow-add 2 bits (16 - bits)) ∙ ap (λ n. 2 ^ n) all in
    let number : from_be_bytes w16 (take 2 bytes) < 2 ^ bits * 2 ^ (16 - bits) = rw power (two_bytes bytes first second) in
    (div-lt_iff_lt-mul {k = 2 ^ (16 - bits)} {x = from_be_bytes w16 (take 2 bytes)} {y = 2 ^ bits} (pow_pos (16 - bits))).1 number
