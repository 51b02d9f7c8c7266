-- What is written stays sound.
use Rattle.std.proofs.Common.{◌≡◌, ℕ, suc, ◌+◌, ◌-◌, ◌^◌, ◌<◌, ◌≤◌, Bool, true, false, List, [], ◌∷◌, ◌++◌, length, get_or, Option, Some, None, refl, sym, ap, ◌∙◌, subst, inl, inr, arith}
use Rattle.std.specs.Prelude.{not, IsTrue, MatchBool, decimal}
use Rattle.std.proofs.lemmas.Bool.{false≢true, and_parts, cases_eq}
use Rattle.std.proofs.lemmas.Fmt.{decimal_is_IsNumeral, first_decimal, decimal_digit}
use Rattle.std.proofs.lemmas.List.{append_assoc, append-nil}
use Rattle.bencode_text.specs.Bencode.{IsNumber, IsString, string_text, is_above, IsInteger, Value, dictionary, Entries, no_entries, entry, value_text, entries_text, value_depth, entries_depth, IsValid, Ascend}
use Rattle.bencode_text.specs.Draft.{Dict, Draft, dicts_after_value, whole_after_value, takes_value, takes_end, takes_key, with_value, with_key, with_dict, with_end}
use Rattle.bencode_text.specs.Writers.{last_key, IsPending, IsIdle, IsOpen, awaits_value, IsSound}

-- the decimal digits of a number have no leading zero
plain_decimal : (n : ℕ) → n < 2 ^ 64 → get_or (decimal n) 0 0 ≡ 48 → length (decimal n) ≡ 1
plain_decimal n small zero = elim (cases_eq n 0) [
  | inl none ↦ ap (λ k. length (decimal k)) none ∙ ap length (decimal_digit 0 (omega arith))
  | inr some ↦ let first = first_decimal n (omega arith) small in absurd (omega arith)
]

pub IsNumber-decimal : (n : ℕ) → n < 2 ^ 64 → IsNumber (decimal n)
IsNumber-decimal n small = record { numeral = (decimal_is_IsNumeral n small).0; plain = plain_decimal n small }

pub IsString-decimal : (bytes : List ℕ) → length bytes < 2 ^ 64 → IsString (decimal (length bytes)) bytes
IsString-decimal bytes small = record {
  number = IsNumber-decimal (length bytes) small;
  length_of_bytes = (decimal_is_IsNumeral (length bytes) small).1;
}

pub IsInteger-decimal : (n : ℕ) → n < 2 ^ 64 → IsInteger false (decimal n)
IsInteger-decimal n small = record { number = IsNumber-decimal n small; no_minus_zero = λ e. absurd (false≢true e) }

-- ---- one more entry

with_entry : Entries → List ℕ → List ℕ → Value → Entries
with_entry no_entries digits key v = entry digits key v no_entries
with_entry (entry e l w more) digits key v = entry e l w (with_entry more digits key v)

entries_text-with_entry : (es : Entries) (d k : List ℕ) (v : Value)
    → entries_text (with_entry es d k v) ≡ entries_text es ++ (string_text d k ++ value_text v)
unfolding with_entry
entries_text-with_entry no_entries d k v = ap (λ t. string_text d k ++ t) (append-nil (value_text v))
entries_text-with_entry (entry e l w more) d k v =
    let tail = string_text d k ++ value_text v in
    ap (λ t. string_text e l ++ (value_text w ++ t)) (entries_text-with_entry more d k v)
    ∙ ap (λ t. string_text e l ++ t) (sym (append_assoc (value_text w) (entries_text more) tail))
    ∙ sym (append_assoc (string_text e l) (value_text w ++ entries_text more) tail)

Ascend-with_entry : (es : Entries) (last : Option (List ℕ)) (d k : List ℕ) (v : Value) → Ascend es last → IsString d k
    → IsTrue (is_above (last_key es last) k) → IsValid v → Ascend (with_entry es d k v) last
unfolding with_entry
Ascend-with_entry no_entries last d k v h s above valid = (s, above, valid, tt)
Ascend-with_entry (entry e l w more) last d k v h s above valid =
    (h.0, h.1, h.2, Ascend-with_entry more (Some l) d k v h.3 s above valid)

entries_depth-with_entry : (es : Entries) (d k : List ℕ) (v : Value) (n : ℕ) → entries_depth es ≤ n → value_depth v ≤ n
    → entries_depth (with_entry es d k v) ≤ n
unfolding with_entry
entries_depth-with_entry no_entries d k v n p q = omega arith
entries_depth-with_entry (entry e l w more) d k v n p q =
    let rest = entries_depth-with_entry more d k v n (omega arith) q in omega arith

last_key-with_entry : (es : Entries) (last : Option (List ℕ)) (d k : List ℕ) (v : Value) → last_key (with_entry es d k v) last ≡ Some k
unfolding with_entry
last_key-with_entry no_entries last d k v = refl
last_key-with_entry (entry e l w more) last d k v = last_key-with_entry more (Some l) d k v

-- ---- the innermost dictionary

open_value : (outside : ℕ) (dict : Dict) (inner : List ℕ) (v : Value) → dict.value_due ≡ true → IsValid v → value_depth v + suc outside ≤ 64
    → IsOpen outside dict inner → IsOpen outside (record dict { value_due = false }) (inner ++ value_text v)
open_value outside dict inner v due valid nested o =
    let p : IsPending dict.last o.entries inner =
    subst (λ b. MatchBool b (IsPending dict.last o.entries inner) (IsIdle dict.last o.entries inner)) due o.pending in
    let more : entries_depth (with_entry o.entries p.digits p.key v) ≤ 63 - outside =
    entries_depth-with_entry o.entries p.digits p.key v (63 - outside) (omega (arith, o.nested)) (omega arith) in
    record {
      entries = with_entry o.entries p.digits p.key v;
      valid = Ascend-with_entry o.entries None p.digits p.key v o.valid p.string p.above valid;
      nested = omega (arith, o.nested, more);
      pending = record {
        last_is = p.last_is ∙ sym (last_key-with_entry o.entries None p.digits p.key v);
        text_is =
            ap (λ t. t ++ value_text v) p.text_is
            ∙ ap (λ t. 100 ∷ t)
            (append_assoc (entries_text o.entries) (string_text p.digits p.key) (value_text v)
            ∙ sym (entries_text-with_entry o.entries p.digits p.key v));
      };
    }

idle_of : (outside : ℕ) (dict : Dict) (inner : List ℕ) → dict.value_due ≡ false → (o : IsOpen outside dict inner) → IsIdle dict.last o.entries inner
idle_of outside dict inner due o =
    subst (λ b. MatchBool b (IsPending dict.last o.entries inner) (IsIdle dict.last o.entries inner)) due o.pending

open_key : (outside : ℕ) (dict : Dict) (inner digits key : List ℕ) → dict.value_due ≡ false → IsTrue (is_above dict.last key)
    → IsString digits key → IsOpen outside dict inner
    → IsOpen outside (record { last = Some key; value_due = true }) (inner ++ string_text digits key)
open_key outside dict inner digits key due above s o =
    let p = idle_of outside dict inner due o in
    record {
      entries = o.entries;
      valid = o.valid;
      nested = o.nested;
      pending = record {
        digits = digits;
        key = key;
        string = s;
        above = subst (λ l. IsTrue (is_above l key)) p.last_is above;
        last_is = refl;
        text_is = ap (λ t. t ++ string_text digits key) p.text_is;
      };
    }

-- ---- the whole draft

abbrev pub draft : List ℕ → List Dict → Bool → Draft
draft text dicts whole = record { text = text; dicts = dicts; whole = whole }

no_whole_inside : (dict : Dict) (outer : List Dict) → dict ∷ outer ≡ [] → ⊥
no_whole_inside dict outer e = let l = ap length e in omega arith

false_from_not : (b : Bool) → not b ≡ true → b ≡ false
false_from_not true h = sym h
false_from_not false h = refl

pub sound_value : (text : List ℕ) (dicts : List Dict) (whole : Bool) (v : Value) → IsTrue (takes_value dicts whole) → IsValid v
    → value_depth v + length dicts ≤ 64 → IsSound (draft text dicts whole) → IsSound (with_value (draft text dicts whole) (value_text v))
sound_value text [] true v due valid nested h = absurd (false≢true due)
sound_value text [] false v due valid nested h =
    (refl, record { tree = v; valid = valid; depth = omega arith; text = ap (λ t. t ++ value_text v) h })
sound_value text (dict ∷ outer) true v due valid nested h = absurd (no_whole_inside dict outer h.0)
sound_value text (dict ∷ outer) false v due valid nested h = (
  h.0,
  h.1 ++ value_text v,
  ap (λ t. t ++ value_text v) h.2 ∙ append_assoc h.0 h.1 (value_text v),
  h.3,
  h.4,
  open_value (length outer) dict h.1 v due valid (omega arith) h.5,
)

pub sound_key : (text : List ℕ) (dicts : List Dict) (whole : Bool) (key : List ℕ) → IsTrue (takes_key dicts key) → length key < 2 ^ 64
    → IsSound (draft text dicts whole) → IsSound (with_key (draft text dicts whole) key)
sound_key text [] whole key due small h = absurd (false≢true due)
sound_key text (dict ∷ outer) true key due small h = absurd (no_whole_inside dict outer h.0)
sound_key text (dict ∷ outer) false key due small h =
    let parts = and_parts (not dict.value_due) (is_above dict.last key) due in
    let written = string_text (decimal (length key)) key in (
      h.0,
      h.1 ++ written,
      ap (λ t. t ++ written) h.2 ∙ append_assoc h.0 h.1 written,
      h.3,
      h.4,
      open_key (length outer) dict h.1 (decimal (length key)) key (false_from_not dict.value_due parts.0) parts.1 (IsString-decimal key small) h.5,
    )

pub sound_dict : (text : List ℕ) (dicts : List Dict) (whole : Bool) → IsTrue (takes_value dicts whole) → length dicts < 64
    → IsSound (draft text dicts whole) → IsSound (with_dict (draft text dicts whole))
sound_dict text [] true due room h = absurd (false≢true due)
sound_dict text [] false due room h =
    (text, 100 ∷ [], refl, refl, h, record { entries = no_entries; valid = tt; nested = omega arith; pending = record { last_is = refl; text_is = refl } })
sound_dict text (dict ∷ outer) true due room h = absurd (no_whole_inside dict outer h.0)
sound_dict text (dict ∷ outer) false due room h =
    (text, 100 ∷ [], refl, due, h, record { entries = no_entries; valid = tt; nested = omega arith; pending = record { last_is = refl; text_is = refl } })

-- after a value inside of these dictionaries
abbrev with_text : List ℕ → List Dict → Draft
with_text text outer = record { text = text; dicts = dicts_after_value outer; whole = whole_after_value outer }

-- outside of a dictionary a value is due
due_outside : (outer : List Dict) → IsTrue (awaits_value outer) → IsTrue (takes_value outer false)
due_outside [] h = refl
due_outside (dict ∷ outer) h = h

pub sound_end : (text : List ℕ) (dicts : List Dict) (whole : Bool) → IsTrue (takes_end dicts)
    → IsSound (draft text dicts whole) → IsSound (with_end (draft text dicts whole))
sound_end text [] whole due h = absurd (false≢true due)
sound_end text (dict ∷ outer) true due h = absurd (no_whole_inside dict outer h.0)
sound_end text (dict ∷ outer) false due h =
    let o = h.5 in
    let p = idle_of (length outer) dict h.1 (false_from_not dict.value_due due) o in
    let v = dictionary o.entries in
    let same : h.0 ++ value_text v ≡ text ++ 101 ∷ [] =
    sym (ap (λ t. t ++ 101 ∷ []) h.2 ∙ append_assoc h.0 h.1 (101 ∷ []) ∙ ap (λ t. h.0 ++ (t ++ 101 ∷ [])) p.text_is) in
    subst (λ t. IsSound (with_text t outer)) same
    (sound_value h.0 outer false v (due_outside outer h.3) o.valid (omega (arith, o.nested)) h.4)
