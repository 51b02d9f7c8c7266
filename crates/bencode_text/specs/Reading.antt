-- What a front of some bytes is, and the rest after it.
use Rattle.std.specs.Prelude.{◌≡◌, ℕ, ◌<◌, ◌≤◌, Bool, IsTrue, List, [], ◌∷◌, ◌++◌, Option}
use Rattle.std.specs.Char.{digit_value}
use Rattle.bencode_text.specs.Bencode.{is_above, IsString, string_text, IsInteger, integer_text, Value, value_text, IsValid, value_depth, Values, values_text, AreValid, values_depth, Entries, entries_text, Ascend, entries_depth}

-- a string with these bytes
pub record ReadsString (bytes key rest : List ℕ) : Type 0 where
  pub digits : List ℕ
  pub valid : IsString digits key
  pub text : bytes ≡ string_text digits key ++ rest

-- an integer whose sign is read, and its `e`
pub record ReadsDigits (minus : Bool) (bytes rest : List ℕ) : Type 0 where
  pub digits : List ℕ
  pub valid : IsInteger minus digits
  pub text : bytes ≡ digits ++ 101 ∷ rest

-- an integer and its `e`
pub record ReadsInteger (bytes rest : List ℕ) : Type 0 where
  pub minus : Bool
  pub digits : List ℕ
  pub valid : IsInteger minus digits
  pub text : bytes ≡ integer_text minus digits ++ 101 ∷ rest

-- a value with at most so many lists and dictionaries open at once
pub record Reads (depth : ℕ) (bytes rest : List ℕ) : Type 0 where
  pub tree : Value
  pub valid : IsValid tree
  pub nested : value_depth tree ≤ depth
  pub text : bytes ≡ value_text tree ++ rest

-- the values of a list that is one of at most so many open ones, and its `e`
pub record ReadsValues (depth : ℕ) (bytes rest : List ℕ) : Type 0 where
  pub trees : Values
  pub valid : AreValid trees
  pub nested : values_depth trees < depth
  pub text : bytes ≡ values_text trees ++ 101 ∷ rest

-- the entries of a dictionary after its last key so far, and its `e`
pub record ReadsEntries (depth : ℕ) (last : Option (List ℕ)) (bytes rest : List ℕ) : Type 0 where
  pub trees : Entries
  pub valid : Ascend trees last
  pub nested : entries_depth trees < depth
  pub text : bytes ≡ entries_text trees ++ 101 ∷ rest

-- a string whose bytes are greater than those of the last key, if there is one
pub record ReadsKey (last : Option (List ℕ)) (bytes key rest : List ℕ) : Type 0 where
  pub string : ReadsString bytes key rest
  pub above : IsTrue (is_above last key)

-- the first byte is a decimal digit
abbrev pub BeginsWithDigit : List ℕ → Type 0
BeginsWithDigit [] = ⊥
BeginsWithDigit (byte ∷ bytes) = digit_value byte < 10
