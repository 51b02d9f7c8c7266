-- Lines of bytes that come one after another.
use Rattle.std.proofs.Common.{◌≡◌, ℕ, ◌<◌, zero, suc, Bool, true, false, ◌||◌, cond, List, [], ◌∷◌, ◌++◌, length, take, drop, get_or, refl, sym, ap, ◌∙◌, take-append-drop, take_all, arith}
use Rattle.std.specs.Bool.{◌==◌}
use Rattle.std.proofs.Math.Seq.{take-nil, drop-cons}
use Rattle.std.proofs.lemmas.Bool.{false_from_ne_true, eqb-true}
use Rattle.memchr.specs.Find.{Nowhere, Passes, is_byte}
use Rattle.lines.specs.Text.{line_end, has_end, onto_first, whole_lines, unfinished}

-- an end in one part or in the other
pub has_end-append : (xs ys : List ℕ) → has_end (xs ++ ys) ≡ (has_end xs || has_end ys)
has_end-append [] ys = refl
has_end-append (x ∷ xs) ys = elim (x == line_end) as (λ b. (b || has_end (xs ++ ys)) ≡ ((b || has_end xs) || has_end ys)) [
  | true ↦ refl
  | false ↦ has_end-append xs ys
]

-- where no line ends there is none
pub whole_lines-none : (xs : List ℕ) → has_end xs ≡ false → whole_lines xs ≡ []
whole_lines-none [] h = refl
whole_lines-none (x ∷ xs) h = elim (x == line_end) as (λ b. (b || has_end xs) ≡ false → cond b ([] ∷ whole_lines xs) (onto_first x (whole_lines xs)) ≡ []) [
  | true ↦ λ e. cc
  | false ↦ λ e. ap (onto_first x) (whole_lines-none xs e)
] h

pub unfinished-none : (xs : List ℕ) → has_end xs ≡ false → unfinished xs ≡ xs
unfinished-none [] h = refl
unfinished-none (x ∷ xs) h = ap (λ b. cond b (unfinished xs) (x ∷ xs)) h

-- the first line to end, and what comes after it
pub whole_lines-first : (line more : List ℕ) → has_end line ≡ false
    → whole_lines (line ++ line_end ∷ more) ≡ line ∷ whole_lines more
whole_lines-first [] more h = refl
whole_lines-first (x ∷ xs) more h = elim (x == line_end) as (λ b. (b || has_end xs) ≡ false → cond b ([] ∷ whole_lines (xs ++ line_end ∷ more)) (onto_first x (whole_lines (xs ++ line_end ∷ more))) ≡ (x ∷ xs) ∷ whole_lines more) [
  | true ↦ λ e. cc
  | false ↦ λ e. ap (onto_first x) (whole_lines-first xs more e)
] h

pub has_end-ended : (line more : List ℕ) → has_end (line ++ line_end ∷ more) ≡ true
has_end-ended [] more = refl
has_end-ended (x ∷ xs) more = elim (x == line_end) as (λ b. (b || has_end (xs ++ line_end ∷ more)) ≡ true) [
  | true ↦ refl
  | false ↦ has_end-ended xs more
]

pub unfinished-after : (line more : List ℕ) → unfinished (line ++ line_end ∷ more) ≡ unfinished more
unfinished-after [] more = refl
unfinished-after (x ∷ xs) more = ap (λ b. cond b (unfinished (xs ++ line_end ∷ more)) (x ∷ (xs ++ line_end ∷ more))) (has_end-ended (x ∷ xs) more) ∙ unfinished-after xs more

-- no line ends in what is unfinished
pub has_end-unfinished : (xs : List ℕ) → has_end (unfinished xs) ≡ false
has_end-unfinished [] = refl
has_end-unfinished (x ∷ xs) = elim (has_end (x ∷ xs)) as (λ b. has_end (x ∷ xs) ≡ b → has_end (cond b (unfinished xs) (x ∷ xs)) ≡ false) [
  | true ↦ λ e. has_end-unfinished xs
  | false ↦ λ e. e
] refl

-- more bytes go on with what is unfinished
pub unfinished-append : (xs ys : List ℕ) → unfinished (xs ++ ys) ≡ unfinished (unfinished xs ++ ys)
unfinished-append [] ys = refl
unfinished-append (x ∷ xs) ys = elim (has_end (x ∷ xs)) as (λ b. has_end (x ∷ xs) ≡ b → unfinished (x ∷ (xs ++ ys)) ≡ unfinished (cond b (unfinished xs) (x ∷ xs) ++ ys)) [
  | true ↦ λ e. ap (λ b. cond b (unfinished (xs ++ ys)) (x ∷ (xs ++ ys))) (has_end-append (x ∷ xs) ys ∙ ap (λ b. b || has_end ys) e) ∙ unfinished-append xs ys
  | false ↦ λ e. refl
] refl

any_line : List (List ℕ) → Bool
any_line [] = false
any_line (line ∷ lines) = true

any_line-onto_first : (x : ℕ) (lines : List (List ℕ))
    → any_line (onto_first x lines) ≡ any_line lines
unfolding any_line
any_line-onto_first x [] = refl
any_line-onto_first x (line ∷ lines) = refl

-- there is a line exactly where one ends
any_line-whole_lines : (xs : List ℕ) → any_line (whole_lines xs) ≡ has_end xs
unfolding any_line
any_line-whole_lines [] = refl
any_line-whole_lines (x ∷ xs) = elim (x == line_end) as (λ b. any_line (cond b ([] ∷ whole_lines xs) (onto_first x (whole_lines xs))) ≡ (b || has_end xs)) [
  | true ↦ refl
  | false ↦ any_line-onto_first x (whole_lines xs) ∙ any_line-whole_lines xs
]

onto_first-append : (x : ℕ) (lines more : List (List ℕ)) → any_line lines ≡ true
    → onto_first x (lines ++ more) ≡ onto_first x lines ++ more
unfolding any_line
onto_first-append x [] more h = cc
onto_first-append x (line ∷ lines) more h = refl

goes_on : (x : ℕ) (xs ys : List ℕ) → (x == line_end) ≡ false
    → whole_lines (xs ++ ys) ≡ whole_lines xs ++ whole_lines (unfinished xs ++ ys)
    → onto_first x (whole_lines (xs ++ ys)) ≡ onto_first x (whole_lines xs) ++ whole_lines (cond (has_end xs) (unfinished xs) (x ∷ xs) ++ ys)
goes_on x xs ys e ih = elim (has_end xs) as (λ b. has_end xs ≡ b → onto_first x (whole_lines (xs ++ ys)) ≡ onto_first x (whole_lines xs) ++ whole_lines (cond b (unfinished xs) (x ∷ xs) ++ ys)) [
  | true ↦ λ h. ap (onto_first x) ih ∙ onto_first-append x (whole_lines xs) (whole_lines (unfinished xs ++ ys)) (any_line-whole_lines xs ∙ h)
  | false ↦ λ h.
      sym (ap (λ ls. onto_first x ls ++ whole_lines (x ∷ (xs ++ ys))) (whole_lines-none xs h)
      ∙ ap (λ b. cond b ([] ∷ whole_lines (xs ++ ys)) (onto_first x (whole_lines (xs ++ ys)))) e)
] refl

-- more bytes end the line that is unfinished first
pub whole_lines-append : (xs ys : List ℕ)
    → whole_lines (xs ++ ys) ≡ whole_lines xs ++ whole_lines (unfinished xs ++ ys)
whole_lines-append [] ys = refl
whole_lines-append (x ∷ xs) ys = elim (x == line_end) as (λ b. (x == line_end) ≡ b → cond b ([] ∷ whole_lines (xs ++ ys)) (onto_first x (whole_lines (xs ++ ys))) ≡ cond b ([] ∷ whole_lines xs) (onto_first x (whole_lines xs)) ++ whole_lines (cond (b || has_end xs) (unfinished xs) (x ∷ xs) ++ ys)) [
  | true ↦ λ e. ap (λ ls. [] ∷ ls) (whole_lines-append xs ys)
  | false ↦ λ e. goes_on x xs ys e (whole_lines-append xs ys)
] refl

-- no line ends where a search for an end has passed
pub has_end-passed : (xs : List ℕ) (k : ℕ) → Nowhere (Passes (is_byte line_end) xs) 0 k
    → has_end (take k xs) ≡ false
has_end-passed [] k none = ap has_end (take-nil k)
has_end-passed (x ∷ xs) zero none = refl
has_end-passed (x ∷ xs) (suc k) none =
    ap (λ b. b || has_end (take k xs)) (false_from_ne_true (x == line_end) (none 0 (omega arith) (omega arith)))
    ∙ has_end-passed xs k (λ j low high. none (suc j) (omega arith) (omega arith))

pub cut_at_end : (xs : List ℕ) (k : ℕ) → k < length xs → Passes (is_byte line_end) xs k
    → xs ≡ take k xs ++ line_end ∷ drop 1 (drop k xs)
cut_at_end xs k h passes =
    let found : drop k xs ≡ line_end ∷ drop (suc k) xs = drop-cons xs k 0 h ∙ ap (λ b. b ∷ drop (suc k) xs) (eqb-true (get_or xs k 0) line_end passes) in
    sym (take-append-drop k xs) ∙ ap (λ l. take k xs ++ l) found ∙ sym (ap (λ l. take k xs ++ line_end ∷ drop 1 l) found)

pub has_end-passed_all : (xs : List ℕ) → Nowhere (Passes (is_byte line_end) xs) 0 (length xs)
    → has_end xs ≡ false
has_end-passed_all xs none = sym (ap has_end (take_all (length xs) xs (omega arith))) ∙ has_end-passed xs (length xs) none

or_left : (a b : Bool) → (a || b) ≡ false → a ≡ false
or_left true b h = cc
or_left false b h = refl

-- no line ends in a front of bytes where none ends
pub has_end-take : (n : ℕ) (xs : List ℕ) → has_end xs ≡ false → has_end (take n xs) ≡ false
has_end-take n xs h =
    or_left (has_end (take n xs)) (has_end (drop n xs)) (sym (has_end-append (take n xs) (drop n xs)) ∙ ap has_end (take-append-drop n xs) ∙ h)

pub has_end-joined : (xs ys : List ℕ) → has_end xs ≡ false → has_end ys ≡ false
    → has_end (xs ++ ys) ≡ false
has_end-joined xs ys p q = has_end-append xs ys ∙ ap (λ b. b || has_end ys) p ∙ q
