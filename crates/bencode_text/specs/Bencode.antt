-- Bencode (BEP 3): a value is a tree, a printer from the tree to its bytes, and a fact that says
-- which trees are valid.
use Rattle.std.specs.Prelude.{◌≡◌, ◌≢◌, ◌≤◌, ℕ, suc, max, Bool, true, if◌then◌else◌, IsTrue, List, [], ◌∷◌, ◌++◌, length, slice_index, Option, Some, None, ⊤}
use Rattle.std.specs.Ordering.{is_lt, nat_cmp}
use Rattle.std.specs.Cmp.Lexicographic.{slice_cmp}
use Rattle.std.specs.Str.Parse.{IsNumeral, digits_value}

-- decimal digits with no leading zero (48) except `0` itself
pub record IsNumber (digits : List ℕ) : Type 0 where
  pub numeral : IsNumeral 10 digits
  pub plain : slice_index digits 0 ≡ 48 → length digits ≡ 1

-- the digits of a length, and as many bytes
pub record IsString (digits bytes : List ℕ) : Type 0 where
  pub number : IsNumber digits
  pub length_of_bytes : digits_value 10 digits ≡ length bytes

-- a length, `:`, the bytes
abbrev pub string_text : List ℕ → List ℕ → List ℕ
string_text digits bytes = digits ++ 58 ∷ bytes

-- an optional `-`, the digits
abbrev pub integer_text : Bool → List ℕ → List ℕ
integer_text minus digits = if minus then 45 ∷ digits else digits

-- digits without a leading zero, and no `-0`
pub record IsInteger (minus : Bool) (digits : List ℕ) : Type 0 where
  pub number : IsNumber digits
  pub no_minus_zero : minus ≡ true → digits ≢ 48 ∷ []

mutual
  pub data Value : Type 0 where
    integer : Bool → List ℕ → Value
    string : List ℕ → List ℕ → Value
    sequence : Values → Value
    dictionary : Entries → Value

  pub data Values : Type 0 where
    no_values : Values
    value : Value → Values → Values

  -- the digits of the key's length, the key, its value
  pub data Entries : Type 0 where
    no_entries : Entries
    entry : List ℕ → List ℕ → Value → Entries → Entries

-- the bytes: `i` integer `e`, a string, `l` values `e`, `d` entries `e`
abbrev mutual
  pub value_text : Value → List ℕ
  value_text (integer minus digits) = 105 ∷ (integer_text minus digits ++ 101 ∷ [])
  value_text (string digits bytes) = string_text digits bytes
  value_text (sequence values) = 108 ∷ (values_text values ++ 101 ∷ [])
  value_text (dictionary entries) = 100 ∷ (entries_text entries ++ 101 ∷ [])

  pub values_text : Values → List ℕ
  values_text no_values = []
  values_text (value v more) = value_text v ++ values_text more

  pub entries_text : Entries → List ℕ
  entries_text no_entries = []
  entries_text (entry digits key v more) =
      string_text digits key ++ (value_text v ++ entries_text more)

-- how many lists and dictionaries are open at once
abbrev mutual
  pub value_depth : Value → ℕ
  value_depth (integer minus digits) = 0
  value_depth (string digits bytes) = 0
  value_depth (sequence values) = suc (values_depth values)
  value_depth (dictionary entries) = suc (entries_depth entries)

  pub values_depth : Values → ℕ
  values_depth no_values = 0
  values_depth (value v more) = max (value_depth v) (values_depth more)

  pub entries_depth : Entries → ℕ
  entries_depth no_entries = 0
  entries_depth (entry digits key v more) = max (value_depth v) (entries_depth more)

-- a key is greater by raw bytes than the last one, if there is one
abbrev pub is_above : Option (List ℕ) → List ℕ → Bool
is_above None key = true
is_above (Some last) key = is_lt (slice_cmp nat_cmp last key)

-- each string and integer is one, and the keys of each dictionary ascend; those of entries ascend
-- from the last key before them
abbrev mutual
  pub IsValid : Value → Type 0
  IsValid (integer minus digits) = IsInteger minus digits
  IsValid (string digits bytes) = IsString digits bytes
  IsValid (sequence values) = AreValid values
  IsValid (dictionary entries) = Ascend entries None

  pub AreValid : Values → Type 0
  AreValid no_values = ⊤
  AreValid (value v more) = IsValid v × AreValid more

  pub Ascend : Entries → Option (List ℕ) → Type 0
  Ascend no_entries last = ⊤
  Ascend (entry digits key v more) last =
      IsString digits key × IsTrue (is_above last key) × IsValid v × Ascend more (Some key)

-- how many lists and dictionaries a canonical text has open at once, at most
abbrev pub deepest : ℕ
deepest = 64

-- all of the bytes are one value, nested at most 64 deep
pub record IsCanonical (bytes : List ℕ) : Type 0 where
  pub tree : Value
  pub valid : IsValid tree
  pub depth : value_depth tree ≤ deepest
  pub text : bytes ≡ value_text tree
