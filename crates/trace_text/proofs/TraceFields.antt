-- Cutting a text at a separator, and what the number of fields says of a line.
use Rattle.std.proofs.Common.{◌≡◌, ◌≢◌, ℕ, ◌+◌, ◌<◌, false, List, [], ◌∷◌, ◌++◌, length, get_or, take, drop, Some, None, Err, refl, sym, ap, ◌∙◌, arith}
use Rattle.std.specs.Prelude.{codes}
use Rattle.std.specs.List.{All}
use Rattle.std.proofs.lemmas.Bool.{false_from_ne_true}
use Rattle.std.proofs.lemmas.List.{take-append-drop, drop_more, get_or-take, get_or_default, length-take}
use Rattle.std.proofs.lemmas.List.Splits.{slice_split_at, slice_split_none, length-slice_split}
use Rattle.memchr.specs.Find.{IsFirstByte, is_byte}
use Rattle.ot_base.specs.declared.fault.TraceFault.TheVariants.{Form}
use Rattle.trace_text.specs.Trace.{fields_line, parts_of}

-- a text in which the separator doesn't stand is one part
pub parts_of-none : (separator : ℕ) (text : List ℕ) → IsFirstByte (is_byte separator) text None
    → parts_of separator text ≡ text ∷ []
parts_of-none separator text absent =
    slice_split_none _ text
    (λ k d h. false_from_ne_true _ (rw (get_or_default text k d 0 h) (absent k (omega arith) h)))

-- the first part ends at the first separator
pub parts_of-first : (separator : ℕ) (text : List ℕ) (place : ℕ) → IsFirstByte (is_byte separator) text (Some place)
    → parts_of separator text ≡ take place text ∷ parts_of separator (drop (place + 1) text)
parts_of-first separator text place h =
    let inside : place < length text = h.0.high in
    let whole : take place text ++ (get_or text place 0 ∷ drop (place + 1) text) ≡ text =
    rw (← drop_more text place 0 inside) (take-append-drop place text) in
    let before : All (λ (b : ℕ). is_byte separator b ≡ false) (take place text) =
    λ k d lt.
    let below : k < place = omega (arith, length-take place text) in
    let same : get_or (take place text) k d ≡ get_or text k 0 =
    get_or-take place text k d below ∙ get_or_default text k d 0 (omega arith) in
    false_from_ne_true _ (λ yes. h.0.before k (omega arith) below (rw same at yes)) in
    ap (parts_of separator) (sym whole)
    ∙ slice_split_at (is_byte separator) (take place text) (get_or text place 0) (drop (place + 1) text) before h.1

-- a text has a part
pub parts_of-some : (separator : ℕ) (text : List ℕ) → 0 < length (parts_of separator text)
parts_of-some separator text = omega (arith, length-slice_split (is_byte separator) text)

-- a text that is cut four times and more hasn't four parts
pub parts_of-many : (separator : ℕ) (text first rest second rest' third rest'' fourth more : List ℕ)
    → parts_of separator text ≡ first ∷ parts_of separator rest → parts_of separator rest ≡ second ∷ parts_of separator rest'
    → parts_of separator rest' ≡ third ∷ parts_of separator rest'' → parts_of separator rest'' ≡ fourth ∷ parts_of separator more
    → length (parts_of separator text) ≢ 4
parts_of-many separator text first rest second rest' third rest'' fourth more e1 e2 e3 e4 four =
    let some = parts_of-some separator more in
    let five = rw (e1, e2, e3, e4) at four in
    omega arith

-- a cleaner's record has no further field
pub fields_line-cleaner : (time : List ℕ) (more : List (List ℕ)) → 0 < length more
    → fields_line (codes "C" ∷ time ∷ more) ≡ Err Form
fields_line-cleaner time [] h = absurd (omega arith)
fields_line-cleaner time (a ∷ []) h = refl
fields_line-cleaner time (a ∷ b ∷ []) h = refl
fields_line-cleaner time (a ∷ b ∷ c ∷ []) h = refl
fields_line-cleaner time (a ∷ b ∷ c ∷ d ∷ more) h = refl
