-- Connection ids, as functions of the secret, the address and the minute.
use Rattle.std.specs.Prelude.{ℕ, Bool, ◌-◌, ◌++◌, ◌==◌, ◌&&◌, ◌||◌, take, nat_le}
use Rattle.std.specs.Int.{w64, from_be_bytes, to_be_bytes}
use Rattle.sha1.specs.Sha1.{sha1}
use Rattle.ot_base.specs.Address.{wide_bytes}
use Rattle.ot_base.specs.declared.address.Addr.{Addr}
use Rattle.ot_base.specs.declared.hash.Secret.{Secret}
use Rattle.ot_base.specs.declared.minute.Minute.{Minute}

-- the id for an address in a minute: the first 8 bytes of the SHA-1 of the secret, the address as
-- 16 bytes, and the minute as 8 bytes
unfoldable pub mint_of : Secret → Addr → Minute → ℕ
mint_of secret addr minute =
    from_be_bytes w64 (take 8 (sha1 (secret.0 ++ wide_bytes addr ++ to_be_bytes w64 minute.0)))

-- whether an id is the one for the minute so many minutes ago, if there was such a minute
abbrev pub is_minted : Secret → Addr → Minute → ℕ → ℕ → Bool
is_minted secret addr minute age id =
    nat_le age minute.0 && (mint_of secret addr (record { 0 = minute.0 - age }) == id)

-- whether an id is the one for this minute, or for one of the two before
unfoldable pub accepted_id : Secret → Addr → Minute → ℕ → Bool
accepted_id secret addr minute id =
    is_minted secret addr minute 0 id || is_minted secret addr minute 1 id
    || is_minted secret addr minute 2 id
