-- A text of bencode as far as it is written.
use Rattle.std.specs.Prelude.{ℕ, Bool, true, false, not, ◌&&◌, List, [], ◌∷◌, ◌++◌, length, decimal, Option, Some, None}
use Rattle.bencode_text.specs.Bencode.{string_text, is_above}

-- a dictionary that is open: its last key, and whether the value of that key is due
pub record Dict : Type 0 where
  pub last : Option (List ℕ)
  pub value_due : Bool

-- the text so far, the open dictionaries, innermost first, and whether one value stands there
pub record Draft : Type 0 where
  pub text : List ℕ
  pub dicts : List Dict
  pub whole : Bool

abbrev pub nothing : Draft
nothing = record { text = []; dicts = []; whole = false }

-- whether a value is due: at the start, and after a key
abbrev pub takes_value : List Dict → Bool → Bool
takes_value [] whole = not whole
takes_value (dict ∷ outer) whole = dict.value_due

-- whether a key is due, which may also be the end of the dictionary
abbrev pub takes_end : List Dict → Bool
takes_end [] = false
takes_end (dict ∷ outer) = not dict.value_due

-- whether this key is due, which is greater than the last
abbrev pub takes_key : List Dict → List ℕ → Bool
takes_key [] key = false
takes_key (dict ∷ outer) key = not dict.value_due && is_above dict.last key

-- after a value no value is due
abbrev pub dicts_after_value : List Dict → List Dict
dicts_after_value [] = []
dicts_after_value (dict ∷ outer) = record dict { value_due = false } ∷ outer

abbrev pub whole_after_value : List Dict → Bool
whole_after_value [] = true
whole_after_value (dict ∷ outer) = false

-- with a value of this text
abbrev pub with_value : Draft → List ℕ → Draft
with_value draft text = record {
  text = draft.text ++ text;
  dicts = dicts_after_value draft.dicts;
  whole = whole_after_value draft.dicts;
}

-- with a key
abbrev pub dicts_after_key : List Dict → List ℕ → List Dict
dicts_after_key [] key = []
dicts_after_key (dict ∷ outer) key = record { last = Some key; value_due = true } ∷ outer

abbrev pub with_key : Draft → List ℕ → Draft
with_key draft key = record draft {
  text = draft.text ++ string_text (decimal (length key)) key;
  dicts = dicts_after_key draft.dicts key;
}

-- with a dictionary begun
abbrev pub with_dict : Draft → Draft
with_dict draft = record draft {
  text = draft.text ++ 100 ∷ [];
  dicts = record { last = None; value_due = false } ∷ draft.dicts;
}

-- with the innermost dictionary ended
abbrev pub outer_dicts : List Dict → List Dict
outer_dicts [] = []
outer_dicts (dict ∷ outer) = outer

abbrev pub with_end : Draft → Draft
with_end draft = with_value (record draft { dicts = outer_dicts draft.dicts }) (101 ∷ [])
