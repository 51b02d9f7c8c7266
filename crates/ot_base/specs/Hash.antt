-- The bits of a hash.
use Rattle.std.specs.Prelude.{ℕ, List, ◌-◌, ◌/◌, ◌^◌, take}
use Rattle.std.specs.Int.{w16, from_be_bytes}

-- the number that the first bits of the bytes make, at most 16 of them: of the first two bytes'
-- number the lower bits are cut off
abbrev pub first_bits : List ℕ → ℕ → ℕ
first_bits bytes bits = from_be_bytes w16 (take 2 bytes) / 2 ^ (16 - bits)
