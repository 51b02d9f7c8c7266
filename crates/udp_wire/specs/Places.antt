-- What stands at a place of a packet. Places count bytes from 0, and numbers are in network order.
use Rattle.std.specs.Prelude.{ℕ, zero, suc, List, [], ◌∷◌, ◌++◌, ◌+◌, ◌-◌, ◌*◌, ◌/◌, ◌%◌, ◌==◌, ◌&&◌, Option, Some, None, length, take, drop, nat_le, if◌then◌else◌}
use Rattle.std.specs.Int.{Width, byte_len, from_be_bytes}
use Rattle.std.specs.Option.{option_map}

-- the number of some width that stands at a place
abbrev pub number_at : Width → ℕ → List ℕ → ℕ
number_at w place bytes = from_be_bytes w (take (byte_len w) (drop place bytes))

-- so many items of one size, one after the other from a place on
abbrev pub row_at : {X : Type 0} → (ℕ → List ℕ → X) → ℕ → ℕ → ℕ → List ℕ → List X
row_at item place size zero bytes = []
row_at item place size (suc n) bytes =
    row_at item place size n bytes ++ item (place + size * n) bytes ∷ []

-- how many items of one size follow what a packet of so many bytes begins with, where these are a
-- whole number of them and at most so many
abbrev pub count_after : ℕ → ℕ → ℕ → ℕ → Option ℕ
count_after head size most len =
    if nat_le head len && ((len - head) % size == 0) && nat_le ((len - head) / size) most
    then Some ((len - head) / size)
    else None

-- the items of one size to the end of a packet, if they are a whole number and at most so many
abbrev pub row_after : {X : Type 0} → (ℕ → List ℕ → X) → ℕ → ℕ → ℕ → List ℕ → Option (List X)
row_after item head size most bytes =
    option_map (λ n. row_at item head size n bytes) (count_after head size most (length bytes))
