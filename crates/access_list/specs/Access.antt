-- The text of an access list, line by line, and which torrents a list admits.
use Rattle.std.specs.Prelude.{ℕ, ◌==◌, ◌&&◌, ◌||◌, nat_le, not, Bool, true, if◌then◌else◌, List, []}
use Rattle.std.specs.Prelude.{◌∷◌, length, All, ◌≡◌, ◌≤◌}
use Rattle.std.specs.Prelude.{Option, Some, None, is_some, flat_map}
use Rattle.std.specs.List.{list_any}
use Rattle.std.specs.Option.{option_map, option_to_list}
use Rattle.std.specs.Result.{result_ok}
use Rattle.hex.specs.Hex.{decode_sized}
use Rattle.ot_base.specs.Same.{same_hash}
use Rattle.ot_base.specs.declared.hash.InfoHash.{InfoHash}
use Rattle.ot_base.specs.declared.access.AccessFault.{AccessFault}
use Rattle.ot_base.specs.declared.access.AccessFault.TheVariants.{Line, Many}
use Rattle.ot_base.specs.declared.access.Mode.{Mode}
use Rattle.ot_base.specs.declared.access.Mode.TheVariants.{Deny, Allow}

-- how many hashes a list may name, one that stands twice counted twice
abbrev pub most_hashes : ℕ
most_hashes = 1000000

-- a line that names nothing: it is empty, or begins with `#` (35)
abbrev pub is_remark : List ℕ → Bool
is_remark [] = true
is_remark (first ∷ rest) = first == 35

abbrev pub hash_of : List ℕ → InfoHash
hash_of bytes = record { 0 = bytes }

-- the hash that 40 hex digits write, in either case; other lines name none
abbrev pub hash_named : List ℕ → Option InfoHash
hash_named line = option_map hash_of (result_ok (decode_sized line 20))

abbrev pub is_line : List ℕ → Bool
is_line line = is_remark line || is_some (hash_named line)

-- the hashes that lines name, in order
abbrev pub hashes_named : List (List ℕ) → List InfoHash
hashes_named lines = flat_map (λ line. option_to_list (hash_named line)) lines

-- lines that are an access list
pub record AreAccessLines (lines : List (List ℕ)) : Type 0 where
  pub each : All (λ line. is_line line ≡ true) lines
  pub few : length (hashes_named lines) ≤ most_hashes

-- why a line is refused, where these hashes were named before it
abbrev pub fault_of : List InfoHash → List ℕ → Option AccessFault
fault_of before line =
    if not (is_line line) then Some Line
    else if is_some (hash_named line) && nat_le most_hashes (length before) then Some Many
    else None

-- a list as it is read: what it does with the torrents that it names, and their hashes
pub record Listing : Type 0 where
  pub mode : Mode
  pub hashes : List InfoHash

abbrev pub is_named : List InfoHash → InfoHash → Bool
is_named hashes hash = list_any (same_hash hash) hashes

abbrev pub admits_named : Mode → Bool → Bool
admits_named Deny named = not named
admits_named Allow named = named

-- A list that denies admits the torrents that it doesn't name, one that allows those that it names.
abbrev pub is_admitted : Listing → InfoHash → Bool
is_admitted list hash = admits_named list.mode (is_named list.hashes hash)

-- without a list every torrent is admitted
abbrev pub admits_hash : Option Listing → InfoHash → Bool
admits_hash None hash = true
admits_hash (Some list) hash = is_admitted list hash
