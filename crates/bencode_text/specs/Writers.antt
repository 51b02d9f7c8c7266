-- What a writer holds, and what stays so.
use Rattle.std.specs.Prelude.{◌≡◌, ◌≤◌, ℕ, suc, ◌+◌, Bool, true, false, IsTrue, List, [], ◌∷◌, ◌++◌, length, map, reverse, slice_range, Option, Some, None, MatchBool, ⊤}
use Rattle.std.specs.List.{AllByRecursion}
use Rattle.bencode_text.specs.Bencode.{IsString, string_text, is_above, Entries, no_entries, entry, entries_text, entries_depth, Ascend, deepest, IsCanonical}
use Rattle.bencode_text.specs.Draft.{Dict, Draft}
use Rattle.bencode_text.specs.declared.writer.KeyPlace.{KeyPlace}
use Rattle.bencode_text.specs.declared.writer.OpenDict.{OpenDict}
use Rattle.bencode_text.specs.declared.writer.Place.{Place}
use Rattle.bencode_text.specs.declared.writer.Place.TheVariants as place
use Rattle.bencode_text.specs.declared.writer.Writer.TheInside.{Inside}

-- the key that stands at a place of the text
abbrev pub key_at : List ℕ → Option KeyPlace → Option (List ℕ)
key_at text None = None
key_at text (Some key) = Some (slice_range text key.from key.to)

abbrev pub dict_at : List ℕ → OpenDict → Dict
dict_at text dict = record { last = key_at text dict.last; value_due = dict.value_due }

-- the open dictionaries, innermost first
abbrev pub dicts_at : List ℕ → Place → List OpenDict → List Dict
dicts_at text place.Start outer = []
dicts_at text (place.Dict dict) outer = dict_at text dict ∷ reverse (map (dict_at text) outer)
dicts_at text place.Whole outer = []

abbrev pub is_whole : Place → Bool
is_whole place.Start = false
is_whole (place.Dict dict) = false
is_whole place.Whole = true

abbrev pub draft_of : Inside → Draft
draft_of w = record {
  text = w.text.items;
  dicts = dicts_at w.text.items w.place w.outer.items;
  whole = is_whole w.place;
}

abbrev pub place_after_value : Place → Place
place_after_value place.Start = place.Whole
place_after_value (place.Dict dict) = place.Dict (record { last = dict.last; value_due = false })
place_after_value place.Whole = place.Whole

-- the place after a dictionary that stood in this one, or in none
abbrev pub place_outside : Option OpenDict → Place
place_outside None = place.Whole
place_outside (Some dict) = place_after_value (place.Dict dict)

-- the dictionary of a place, if it is in one
abbrev pub dict_here : Place → List OpenDict
dict_here place.Start = []
dict_here (place.Dict dict) = dict ∷ []
dict_here place.Whole = []

-- a key stands in the first `len` bytes
abbrev pub IsKeyWithin : ℕ → Option KeyPlace → Type 0
IsKeyWithin len None = ⊤
IsKeyWithin len (Some key) = (key.from ≤ key.to) × (key.to ≤ len)

abbrev pub IsDictWithin : ℕ → OpenDict → Type 0
IsDictWithin len dict = IsKeyWithin len dict.last

-- outside of all dictionaries none is round it
abbrev pub IsPlaceWithin : ℕ → Place → List OpenDict → Type 0
IsPlaceWithin len place.Start outer = outer ≡ []
IsPlaceWithin len (place.Dict dict) outer = IsDictWithin len dict
IsPlaceWithin len place.Whole outer = outer ≡ []

-- the last key of some entries after another
abbrev pub last_key : Entries → Option (List ℕ) → Option (List ℕ)
last_key no_entries last = last
last_key (entry digits key v more) last = last_key more (Some key)

-- a key whose value is due, after some entries
pub record IsPending (last : Option (List ℕ)) (entries : Entries) (text : List ℕ) : Type 0 where
  pub digits : List ℕ
  pub key : List ℕ
  pub string : IsString digits key
  pub above : IsTrue (is_above (last_key entries None) key)
  pub last_is : last ≡ Some key
  pub text_is : text ≡ 100 ∷ (entries_text entries ++ string_text digits key)

-- no value is due, after some entries
pub record IsIdle (last : Option (List ℕ)) (entries : Entries) (text : List ℕ) : Type 0 where
  pub last_is : last ≡ last_key entries None
  pub text_is : text ≡ 100 ∷ entries_text entries

-- the text of an open dictionary with so many round it
pub record IsOpen (outside : ℕ) (dict : Dict) (text : List ℕ) : Type 0 where
  pub entries : Entries
  pub valid : Ascend entries None
  pub nested : entries_depth entries + suc outside ≤ deepest
  pub pending :
      MatchBool dict.value_due (IsPending dict.last entries text) (IsIdle dict.last entries text)

-- whether a value is due outside of a dictionary
abbrev pub awaits_value : List Dict → Bool
awaits_value [] = true
awaits_value (dict ∷ outer) = dict.value_due

-- the text of the open dictionaries
abbrev pub AreOpen : List Dict → List ℕ → Type 0
AreOpen [] text = text ≡ []
AreOpen (dict ∷ outer) text =
    (before : List ℕ) × (inner : List ℕ) × (text ≡ before ++ inner) × IsTrue (awaits_value outer)
    × AreOpen outer before × IsOpen (length outer) dict inner

-- a text that is whole is canonical; any other is that of its open dictionaries
abbrev pub IsSound : Draft → Type 0
IsSound draft =
    MatchBool draft.whole
    ((draft.dicts ≡ []) × IsCanonical draft.text)
    (AreOpen draft.dicts draft.text)

pub record IsWriter (w : Inside) : Type 0 where
  pub place : IsPlaceWithin (length w.text.items) w.place w.outer.items
  pub outer : AllByRecursion (IsDictWithin (length w.text.items)) w.outer.items
  pub sound : IsSound (draft_of w)
