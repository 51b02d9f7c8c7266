-- What each call does to what a writer holds.
use Rattle.std.proofs.Common.{◌≡◌, ℕ, ◌+◌, ◌-◌, ◌^◌, ◌<◌, ◌≤◌, Bool, true, false, List, [], ◌∷◌, ◌++◌, length, take, drop, map, reverse, MatchOption, Option, Some, None, refl, sym, ap, ◌∙◌, subst, arith}
use Rattle.std.specs.Prelude.{IsTrue, decimal, slice_range}
use Rattle.std.specs.List.{AllByRecursion}
use Rattle.std.specs.Option.{option_to_list}
use Rattle.std.proofs.lemmas.Bool.{false≢true}
use Rattle.std.proofs.lemmas.Option.{MatchOption-at_none}
use Rattle.std.proofs.lemmas.List.{append_assoc, append-nil, length-append, length-drop, drop-append-le, take-append-le, take_all, map-append, reverse-append}
use Rattle.std.proofs.Math.Seq.{drop-append_seam}
use Rattle.bencode_text.specs.Bencode.{string_text, Value, value_text, value_depth, IsValid}
use Rattle.bencode_text.specs.Draft.{Dict, Draft, dicts_after_key, dicts_after_value, whole_after_value, takes_value, takes_end, takes_key, with_value, with_key, with_dict, with_end}
use Rattle.bencode_text.specs.Writers.{key_at, dict_at, dicts_at, is_whole, draft_of, place_after_value, place_outside, dict_here, IsKeyWithin, IsDictWithin, IsPlaceWithin, IsSound, IsWriter}
use Rattle.bencode_text.specs.declared.writer.KeyPlace.{KeyPlace}
use Rattle.bencode_text.specs.declared.writer.OpenDict.{OpenDict}
use Rattle.bencode_text.specs.declared.writer.Place.{Place}
use Rattle.bencode_text.specs.declared.writer.Place.TheVariants as place
use Rattle.bencode_text.specs.declared.writer.Writer.TheInside.{Inside}
use Rattle.bencode_text.proofs.DraftLemmas.{draft, sound_value, sound_key, sound_dict, sound_end}

-- ---- places in a text that grows

range_stays : (text more : List ℕ) (i j : ℕ) → i ≤ j → j ≤ length text → slice_range (text ++ more) i j ≡ slice_range text i j
range_stays text more i j h k =
    let inside : i ≤ length text = omega arith in
    let enough : j - i ≤ length (drop i text) = omega (arith, length-drop i text) in
    ap (take (j - i)) (drop-append-le i text more inside) ∙ take-append-le (j - i) (drop i text) more enough

key_stays : (text more : List ℕ) (last : Option KeyPlace) → IsKeyWithin (length text) last → key_at (text ++ more) last ≡ key_at text last
key_stays text more None h = refl
key_stays text more (Some k) h = ap Some (range_stays text more k.from k.to h.0 h.1)

dict_stays : (text more : List ℕ) (d : OpenDict) → IsDictWithin (length text) d → dict_at (text ++ more) d ≡ dict_at text d
dict_stays text more d h =
    ap (λ l. let x : Dict = record { last = l; value_due = d.value_due } in x) (key_stays text more d.last h)

map_stays : (text more : List ℕ) (ds : List OpenDict) → AllByRecursion (IsDictWithin (length text)) ds
    → map (dict_at (text ++ more)) ds ≡ map (dict_at text) ds
map_stays text more [] h = refl
map_stays text more (d ∷ ds) h =
    ap (λ x. x ∷ map (dict_at (text ++ more)) ds) (dict_stays text more d h.0) ∙ ap (λ l. dict_at text d ∷ l) (map_stays text more ds h.1)

key_later : (m n : ℕ) (last : Option KeyPlace) → m ≤ n → IsKeyWithin m last → IsKeyWithin n last
key_later m n None le h = tt
key_later m n (Some k) le h = (h.0, omega (arith, h.1))

outer_later : (m n : ℕ) (ds : List OpenDict) → m ≤ n → AllByRecursion (IsDictWithin m) ds → AllByRecursion (IsDictWithin n) ds
outer_later m n [] le h = tt
outer_later m n (d ∷ ds) le h = (key_later m n d.last le h.0, outer_later m n ds le h.1)

place_later : (m n : ℕ) (p : Place) (ds : List OpenDict) → m ≤ n → IsPlaceWithin m p ds → IsPlaceWithin n (place_after_value p) ds
place_later m n place.Start ds le h = h
place_later m n (place.Dict d) ds le h = key_later m n d.last le h
place_later m n place.Whole ds le h = h

grows : (text more : List ℕ) → length text ≤ length (text ++ more)
grows text more = omega (arith, length-append text more)

all_front : (n : ℕ) (xs ys : List OpenDict) → AllByRecursion (IsDictWithin n) (xs ++ ys) → AllByRecursion (IsDictWithin n) xs
all_front n [] ys h = tt
all_front n (x ∷ xs) ys h = (h.0, all_front n xs ys h.1)

all_last : (n : ℕ) (xs : List OpenDict) (y : OpenDict) → AllByRecursion (IsDictWithin n) (xs ++ y ∷ []) → IsDictWithin n y
all_last n [] y h = h.0
all_last n (x ∷ xs) y h = all_last n xs y h.1

all_push : (n : ℕ) (xs : List OpenDict) (y : OpenDict) → AllByRecursion (IsDictWithin n) xs → IsDictWithin n y → AllByRecursion (IsDictWithin n) (xs ++ y ∷ [])
all_push n [] y h k = (k, tt)
all_push n (x ∷ xs) y h k = (h.0, all_push n xs y h.1 k)

-- the last of a list, first
reverse_last : (text : List ℕ) (xs : List OpenDict) (y : OpenDict) → reverse (map (dict_at text) (xs ++ y ∷ [])) ≡ dict_at text y ∷ reverse (map (dict_at text) xs)
reverse_last text xs y =
    ap reverse (map-append (dict_at text) xs (y ∷ [])) ∙ reverse-append (map (dict_at text) xs) (dict_at text y ∷ [])

-- ---- what a writer holds, by its parts

abbrev draft_by : List ℕ → Place → List OpenDict → Draft
draft_by text p outer = draft text (dicts_at text p outer) (is_whole p)

record Holds (text : List ℕ) (here : Place) (round : List OpenDict) : Type 0 where
  place : IsPlaceWithin (length text) here round
  outer : AllByRecursion (IsDictWithin (length text)) round
  sound : IsSound (draft_by text here round)

draft_same : (a b : List ℕ) (c d : List Dict) (e f : Bool) → a ≡ b → c ≡ d → e ≡ f → draft a c e ≡ draft b d f
draft_same a b c d e f p q r = ap (λ x. draft x c e) p ∙ ap (λ x. draft b x e) q ∙ ap (λ x. draft b d x) r

few_open : (text : List ℕ) (dicts : List Dict) (whole : Bool) → IsSound (draft text dicts whole) → length dicts ≤ 64
few_open text [] whole h = omega arith
few_open text (dict ∷ outer) true h = let l = ap length h.0 in omega arith
few_open text (dict ∷ outer) false h = omega (arith, h.5.nested)

-- ---- a value

value_dicts : (text t : List ℕ) (p : Place) (outer : List OpenDict) → IsPlaceWithin (length text) p outer → AllByRecursion (IsDictWithin (length text)) outer
    → dicts_at (text ++ t) (place_after_value p) outer ≡ dicts_after_value (dicts_at text p outer)
value_dicts text t place.Start outer h k = refl
value_dicts text t (place.Dict d) outer h k =
    ap (λ (x : Dict). record x { value_due = false } ∷ reverse (map (dict_at (text ++ t)) outer)) (dict_stays text t d h)
    ∙ ap (λ l. record (dict_at text d) { value_due = false } ∷ reverse l) (map_stays text t outer k)
value_dicts text t place.Whole outer h k = refl

value_whole : (text : List ℕ) (p : Place) (outer : List OpenDict) → is_whole (place_after_value p) ≡ whole_after_value (dicts_at text p outer)
value_whole text place.Start outer = refl
value_whole text (place.Dict d) outer = refl
value_whole text place.Whole outer = refl

value_draft : (text t : List ℕ) (p : Place) (outer : List OpenDict) → IsPlaceWithin (length text) p outer → AllByRecursion (IsDictWithin (length text)) outer
    → draft_by (text ++ t) (place_after_value p) outer ≡ with_value (draft_by text p outer) t
value_draft text t p outer h k =
    draft_same (text ++ t) (text ++ t) (dicts_at (text ++ t) (place_after_value p) outer) (dicts_after_value (dicts_at text p outer))
    (is_whole (place_after_value p)) (whole_after_value (dicts_at text p outer)) refl (value_dicts text t p outer h k) (value_whole text p outer)

value_holds : (text : List ℕ) (p : Place) (outer : List OpenDict) (v : Value) → Holds text p outer
    → IsTrue (takes_value (dicts_at text p outer) (is_whole p)) → IsValid v → value_depth v ≡ 0
    → Holds (text ++ value_text v) (place_after_value p) outer
value_holds text p outer v h due valid flat =
    let le = grows text (value_text v) in
    let few = few_open text (dicts_at text p outer) (is_whole p) h.sound in
    record {
      place = place_later (length text) (length (text ++ value_text v)) p outer le h.place;
      outer = outer_later (length text) (length (text ++ value_text v)) outer le h.outer;
      sound = subst IsSound (sym (value_draft text (value_text v) p outer h.place h.outer))
          (sound_value text (dicts_at text p outer) (is_whole p) v due valid (omega arith) h.sound);
    }

-- ---- a key

key_range : (text front key : List ℕ) (from to : ℕ) → to ≡ length (text ++ (front ++ key)) → from ≡ to - length key
    → slice_range (text ++ (front ++ key)) from to ≡ key
key_range text front key from to e f =
    let whole = append_assoc text front key in
    let long = length-append (text ++ front) key in
    let start : from ≡ length (text ++ front) = omega (arith, ap length whole) in
    let size : to - from ≡ length key = omega (arith, ap length whole) in
    ap (λ l. slice_range l from to) (sym whole)
    ∙ ap (λ n. take (to - from) (drop n ((text ++ front) ++ key))) start
    ∙ ap (take (to - from)) (drop-append_seam (text ++ front) key)
    ∙ take_all (to - from) key (omega arith)

abbrev keyed : List ℕ → Dict
keyed key = record { last = Some key; value_due = true }

key_place : (text front key : List ℕ) (from to : ℕ) (p : Place) (outer : List OpenDict)
    → IsTrue (takes_key (dicts_at text p outer) key) → IsPlaceWithin (length text) p outer → AllByRecursion (IsDictWithin (length text)) outer
    → to ≡ length (text ++ (front ++ key)) → from ≡ to - length key
    → draft_by (text ++ (front ++ key)) (place.Dict (record { last = Some (record { from = from; to = to }); value_due = true })) outer
    ≡ draft (text ++ (front ++ key)) (dicts_after_key (dicts_at text p outer) key) (is_whole p)
key_place text front key from to place.Start outer due h k e f = absurd (false≢true due)
key_place text front key from to place.Whole outer due h k e f = absurd (false≢true due)
key_place text front key from to (place.Dict d) outer due h k e f =
    let t = text ++ (front ++ key) in
    ap (λ l. draft t (keyed l ∷ reverse (map (dict_at t) outer)) false) (key_range text front key from to e f)
    ∙ ap (λ l. draft t (keyed key ∷ reverse l) false) (map_stays text (front ++ key) outer k)

key_holds : (text front key : List ℕ) (from to : ℕ) (p : Place) (outer : List OpenDict) → Holds text p outer
    → IsTrue (takes_key (dicts_at text p outer) key) → length key < 2 ^ 64
    → front ++ key ≡ string_text (decimal (length key)) key
    → to ≡ length (text ++ (front ++ key)) → from ≡ to - length key
    → Holds (text ++ (front ++ key)) (place.Dict (record { last = Some (record { from = from; to = to }); value_due = true })) outer
key_holds text front key from to p outer h due small written e f =
    let le = grows text (front ++ key) in
    let sound = sound_key text (dicts_at text p outer) (is_whole p) key due small h.sound in
    record {
      place = (omega arith, omega arith);
      outer = outer_later (length text) (length (text ++ (front ++ key))) outer le h.outer;
      sound = subst IsSound
          (ap (λ t. draft (text ++ t) (dicts_after_key (dicts_at text p outer) key) (is_whole p)) (sym written)
          ∙ sym (key_place text front key from to p outer due h.place h.outer e f)) sound;
    }

-- ---- a dictionary begun

begun_draft : (text : List ℕ) (p : Place) (outer : List OpenDict) → IsTrue (takes_value (dicts_at text p outer) (is_whole p))
    → IsPlaceWithin (length text) p outer → AllByRecursion (IsDictWithin (length text)) outer
    → draft_by (text ++ 100 ∷ []) (place.Dict (record { last = None; value_due = false })) (outer ++ dict_here p) ≡ with_dict (draft_by text p outer)
begun_draft text place.Whole outer due h k = absurd (false≢true due)
begun_draft text place.Start outer due h k =
    let t = text ++ 100 ∷ [] in
    ap (λ o. draft t (record { last = None; value_due = false } ∷ reverse (map (dict_at t) (o ++ []))) false) h
begun_draft text (place.Dict d) outer due h k =
    let t = text ++ 100 ∷ [] in
    ap (λ l. draft t (record { last = None; value_due = false } ∷ l) false)
    (reverse_last t outer d
    ∙ ap (λ x. x ∷ reverse (map (dict_at t) outer)) (dict_stays text (100 ∷ []) d h)
    ∙ ap (λ l. dict_at text d ∷ reverse l) (map_stays text (100 ∷ []) outer k))

begun_outer : (n : ℕ) (p : Place) (outer : List OpenDict) → IsPlaceWithin n p outer → AllByRecursion (IsDictWithin n) outer
    → AllByRecursion (IsDictWithin n) (outer ++ dict_here p)
begun_outer n place.Start outer h k = subst (AllByRecursion (IsDictWithin n)) (sym (append-nil outer)) k
begun_outer n place.Whole outer h k = subst (AllByRecursion (IsDictWithin n)) (sym (append-nil outer)) k
begun_outer n (place.Dict d) outer h k = all_push n outer d k h

begun_holds : (text : List ℕ) (p : Place) (outer : List OpenDict) → Holds text p outer
    → IsTrue (takes_value (dicts_at text p outer) (is_whole p)) → length (dicts_at text p outer) < 64
    → Holds (text ++ 100 ∷ []) (place.Dict (record { last = None; value_due = false })) (outer ++ dict_here p)
begun_holds text p outer h due room =
    let le = grows text (100 ∷ []) in
    record {
      place = tt;
      outer = outer_later (length text) (length (text ++ 100 ∷ [])) (outer ++ dict_here p) le (begun_outer (length text) p outer h.place h.outer);
      sound = subst IsSound (sym (begun_draft text p outer due h.place h.outer))
          (sound_dict text (dicts_at text p outer) (is_whole p) due room h.sound);
    }

-- ---- a dictionary ended

end_dicts : (text t : List ℕ) (o : Option OpenDict) (old new : List OpenDict) → old ≡ new ++ option_to_list o → (o ≡ None → new ≡ [])
    → AllByRecursion (IsDictWithin (length text)) old
    → dicts_at (text ++ t) (place_outside o) new ≡ dicts_after_value (reverse (map (dict_at text) old))
end_dicts text t None old new e none k =
    ap (λ l. dicts_after_value (reverse (map (dict_at text) l))) (sym (e ∙ append-nil new ∙ none refl))
end_dicts text t (Some d) old new e none k =
    let all = subst (AllByRecursion (IsDictWithin (length text))) e k in
    value_dicts text t (place.Dict d) new (all_last (length text) new d all) (all_front (length text) new (d ∷ []) all)
    ∙ ap dicts_after_value (sym (ap (λ l. reverse (map (dict_at text) l)) e ∙ reverse_last text new d))

end_whole : (text : List ℕ) (o : Option OpenDict) (old new : List OpenDict) → old ≡ new ++ option_to_list o → (o ≡ None → new ≡ [])
    → is_whole (place_outside o) ≡ whole_after_value (reverse (map (dict_at text) old))
end_whole text None old new e none = ap (λ l. whole_after_value (reverse (map (dict_at text) l))) (sym (e ∙ append-nil new ∙ none refl))
end_whole text (Some d) old new e none = ap whole_after_value (sym (ap (λ l. reverse (map (dict_at text) l)) e ∙ reverse_last text new d))

end_draft : (text : List ℕ) (p : Place) (o : Option OpenDict) (old new : List OpenDict) → IsTrue (takes_end (dicts_at text p old))
    → old ≡ new ++ option_to_list o → (o ≡ None → new ≡ []) → AllByRecursion (IsDictWithin (length text)) old
    → draft_by (text ++ 101 ∷ []) (place_outside o) new ≡ with_end (draft_by text p old)
end_draft text place.Start o old new due e none k = absurd (false≢true due)
end_draft text place.Whole o old new due e none k = absurd (false≢true due)
end_draft text (place.Dict d) o old new due e none k =
    draft_same (text ++ 101 ∷ []) (text ++ 101 ∷ []) (dicts_at (text ++ 101 ∷ []) (place_outside o) new) (dicts_after_value (reverse (map (dict_at text) old)))
    (is_whole (place_outside o)) (whole_after_value (reverse (map (dict_at text) old))) refl (end_dicts text (101 ∷ []) o old new e none k) (end_whole text o old new e none)

end_place : (n : ℕ) (o : Option OpenDict) (old new : List OpenDict) → old ≡ new ++ option_to_list o → (o ≡ None → new ≡ [])
    → AllByRecursion (IsDictWithin n) old → IsPlaceWithin n (place_outside o) new
end_place n None old new e none k = none refl
end_place n (Some d) old new e none k = all_last n new d (subst (AllByRecursion (IsDictWithin n)) e k)

end_holds : (text : List ℕ) (p : Place) (o : Option OpenDict) (old new : List OpenDict) → Holds text p old → IsTrue (takes_end (dicts_at text p old))
    → old ≡ new ++ option_to_list o → (o ≡ None → new ≡ []) → Holds (text ++ 101 ∷ []) (place_outside o) new
end_holds text p o old new h due e none =
    let le = grows text (101 ∷ []) in
    let later = outer_later (length text) (length (text ++ 101 ∷ [])) old le h.outer in
    record {
      place = end_place (length (text ++ 101 ∷ [])) o old new e none later;
      outer = all_front (length (text ++ 101 ∷ [])) new (option_to_list o) (subst (AllByRecursion (IsDictWithin (length (text ++ 101 ∷ [])))) e later);
      sound = subst IsSound (sym (end_draft text p o old new due e none h.outer))
          (sound_end text (dicts_at text p old) (is_whole p) due h.sound);
    }

-- ---- the writer itself

held : (w : Inside) → IsWriter w → Holds w.text.items w.place w.outer.items
held w h = record { place = h.place; outer = h.outer; sound = h.sound }

-- what is held by parts is what the writer holds, whose parts are these
writer_of : (n : Inside) (text : List ℕ) (p : Place) (outer : List OpenDict) (new : Draft) → n.text.items ≡ text → n.place ≡ p → n.outer.items ≡ outer
    → Holds text p outer → draft_by text p outer ≡ new → IsWriter n × (draft_of n ≡ new)
writer_of n text p outer new e f g h d = (
  record { place = rw (e, f, g) h.place; outer = rw (e, g) h.outer; sound = rw (e, f, g) h.sound },
  rw (e, f, g) d,
)

pub value_step : (w n : Inside) (v : Value) → IsWriter w → IsTrue (takes_value (draft_of w).dicts (draft_of w).whole) → IsValid v → value_depth v ≡ 0
    → n.text.items ≡ w.text.items ++ value_text v → n.place ≡ place_after_value w.place → n.outer.items ≡ w.outer.items
    → IsWriter n × (draft_of n ≡ with_value (draft_of w) (value_text v))
value_step w n v h due valid flat e f g =
    writer_of n (w.text.items ++ value_text v) (place_after_value w.place) w.outer.items _ e f g
    (value_holds w.text.items w.place w.outer.items v (held w h) due valid flat)
    (value_draft w.text.items (value_text v) w.place w.outer.items h.place h.outer)

pub begun_step : (w n : Inside) → IsWriter w → IsTrue (takes_value (draft_of w).dicts (draft_of w).whole) → length (draft_of w).dicts < 64
    → n.text.items ≡ w.text.items ++ 100 ∷ [] → n.place ≡ place.Dict (record { last = None; value_due = false })
    → n.outer.items ≡ w.outer.items ++ dict_here w.place
    → IsWriter n × (draft_of n ≡ with_dict (draft_of w))
begun_step w n h due room e f g =
    writer_of n (w.text.items ++ 100 ∷ []) (place.Dict (record { last = None; value_due = false })) (w.outer.items ++ dict_here w.place) _ e f g
    (begun_holds w.text.items w.place w.outer.items (held w h) due room)
    (begun_draft w.text.items w.place w.outer.items due h.place h.outer)

pub end_step : (w n : Inside) (o : Option OpenDict) → IsWriter w → IsTrue (takes_end (draft_of w).dicts)
    → n.text.items ≡ w.text.items ++ 101 ∷ [] → n.place ≡ place_outside o → w.outer.items ≡ n.outer.items ++ option_to_list o
    → (o ≡ None → n.outer.items ≡ []) → IsWriter n × (draft_of n ≡ with_end (draft_of w))
end_step w n o h due e f g none =
    writer_of n (w.text.items ++ 101 ∷ []) (place_outside o) n.outer.items _ e f refl
    (end_holds w.text.items w.place o w.outer.items n.outer.items (held w h) due g none)
    (end_draft w.text.items w.place o w.outer.items n.outer.items due g none h.outer)

pub key_step : (w n : Inside) (key : List ℕ) (from to : ℕ) → IsWriter w → IsTrue (takes_key (draft_of w).dicts key) → length key < 2 ^ 64
    → n.text.items ≡ w.text.items ++ string_text (decimal (length key)) key
    → n.place ≡ place.Dict (record { last = Some (record { from = from; to = to }); value_due = true }) → n.outer.items ≡ w.outer.items
    → to ≡ length n.text.items → from ≡ to - length key → IsWriter n × (draft_of n ≡ with_key (draft_of w) key)
key_step w n key from to h due small e f g last first =
    let front = decimal (length key) ++ 58 ∷ [] in
    let written : front ++ key ≡ string_text (decimal (length key)) key = append_assoc (decimal (length key)) (58 ∷ []) key in
    let long : n.text.items ≡ w.text.items ++ (front ++ key) = e ∙ ap (λ t. w.text.items ++ t) (sym written) in
    let last_is : to ≡ length (w.text.items ++ (front ++ key)) = last ∙ ap length long in
    writer_of n (w.text.items ++ (front ++ key)) (place.Dict (record { last = Some (record { from = from; to = to }); value_due = true })) w.outer.items _ long f g
    (key_holds w.text.items front key from to w.place w.outer.items (held w h) due small written last_is first)
    (key_place w.text.items front key from to w.place w.outer.items due h.place h.outer last_is first
    ∙ ap (λ t. draft (w.text.items ++ t) (dicts_after_key (draft_of w).dicts key) (is_whole w.place)) written)

-- where nothing was popped nothing is left
pub popped_none : (o : Option OpenDict) (was len : ℕ) (left : List OpenDict) → length left ≡ len
    → MatchOption o ((was ≡ 0) × (len ≡ 0)) (λ _. len + 1 ≡ was) → o ≡ None → left ≡ []
popped_none o was len [] e h none = refl
popped_none o was len (d ∷ left) e h none =
    let empty = MatchOption-at_none ((was ≡ 0) × (len ≡ 0)) (λ _. len + 1 ≡ was) none h in absurd (omega arith)
