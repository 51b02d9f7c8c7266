-- The info hashes in a datagram. Places count bytes from 0.
use Rattle.std.specs.Prelude.{ℕ, zero, suc, List, [], ◌∷◌, ◌++◌, ◌+◌, ◌*◌, take, drop}
use Rattle.ot_base.specs.declared.hash.InfoHash.{InfoHash}

-- the info hash that stands at a place
abbrev pub hash_at : ℕ → List ℕ → InfoHash
hash_at place bytes = record { 0 = take 20 (drop place bytes) }

-- so many hashes, one after the other from byte 16 on
abbrev pub hashes_of : ℕ → List ℕ → List InfoHash
hashes_of zero bytes = []
hashes_of (suc n) bytes = hashes_of n bytes ++ hash_at (16 + 20 * n) bytes ∷ []
