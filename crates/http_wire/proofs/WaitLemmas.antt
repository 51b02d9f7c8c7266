-- Bytes without a line end change nothing where there was no head yet.
use Rattle.std.proofs.Common.{◌≡◌, ℕ, suc, ◌+◌, ◌==◌, ◌<◌, Bool, true, false, cond, ◌&&◌, List, [], ◌∷◌, ◌++◌, length, take, refl, sym, ap, ◌∙◌, subst, arith}
use Rattle.std.specs.Prelude.{if◌then◌else◌, not, nat_le, ◌||◌, count_by}
use Rattle.std.specs.List.{position_or_len, list_any}
use Rattle.std.proofs.lemmas.Bool.{false≢true}
use Rattle.std.proofs.lemmas.List.{append_assoc, append-nil, take-append-le}
use Rattle.std.proofs.lemmas.List.Folds.{list_any-append}
use Rattle.std.proofs.lemmas.List.Sums.{sum_by-append}
use Rattle.httparse.specs.Grammar.{LineEnd, crlf, lf, print_end, RequestHead, print_request, print_blank, print_version, print_section}
use Rattle.httparse.proofs.GrammarLemmas.{print_request-append}
use Rattle.http_wire.specs.Head.{after_empty_lines, has_line_end, first_line, without_return, has_version, is_bad, is_many, answer_without_head, HasNoHead, IsAnswer}
use Rattle.http_wire.specs.declared.head.Head.TheVariants.{More, Bad, Many}

abbrev is_end : ℕ → Bool
is_end b = b == 10

-- ---- a head ends in a line end

record EndsLine (text : List ℕ) : Type 0 where
  front : List ℕ
  text_is : text ≡ front ++ 10 ∷ []

ends_after : (a x : List ℕ) → EndsLine x → EndsLine (a ++ x)
ends_after a x h = record { front = a ++ h.front; text_is = ap (λ t. a ++ t) h.text_is ∙ sym (append_assoc a h.front (10 ∷ [])) }

ends_byte : (b : ℕ) (x : List ℕ) → EndsLine x → EndsLine (b ∷ x)
ends_byte b x h = record { front = b ∷ h.front; text_is = ap (λ t. b ∷ t) h.text_is }

end_ends : (e : LineEnd) → EndsLine (print_end e)
end_ends crlf = record { front = 13 ∷ []; text_is = refl }
end_ends lf = record { front = []; text_is = refl }

head_ends : (h : RequestHead) → EndsLine (print_request h)
head_ends h =
    let section : EndsLine (print_section h.fields h.last ++ []) =
    subst EndsLine (sym (append-nil (print_section h.fields h.last))) (ends_after _ (print_end h.last) (end_ends h.last)) in
    subst EndsLine (sym (print_request-append h []) ∙ append-nil (print_request h))
    (ends_after (print_blank h.blank) _
    (ends_after h.method _ (ends_byte 32 _ (ends_after h.target _ (ends_byte 32 _
    (ends_after (print_version h.minor) _ (ends_after (print_end h.line_end) _ section)))))))

first_same : (a b : ℕ) (x y : List ℕ) → a ∷ x ≡ b ∷ y → a ≡ b
first_same a b x y e = cc

rest_same : (a b : ℕ) (x y : List ℕ) → a ∷ x ≡ b ∷ y → x ≡ y
rest_same a b x y e = cc

or_true : (b : Bool) → (b || true) ≡ true
or_true true = refl
or_true false = refl

or_first : (a b : Bool) → (a || b) ≡ false → a ≡ false
or_first true b h = h
or_first false b h = refl

or_second : (a b : Bool) → (a || b) ≡ false → b ≡ false
or_second true b h = absurd (false≢true (sym h))
or_second false b h = h

any-there : (front rest : List ℕ) → list_any is_end (front ++ 10 ∷ rest) ≡ true
any-there [] rest = refl
any-there (f ∷ front) rest = ap (λ b. (f == 10) || b) (any-there front rest) ∙ or_true (f == 10)

-- a line end in the whole stands in the part before bytes without one
end_before : (before new front rest : List ℕ) → list_any is_end new ≡ false → before ++ new ≡ front ++ 10 ∷ rest
    → (left : List ℕ) × (before ≡ front ++ 10 ∷ left)
end_before [] new front rest none e =
    absurd (false≢true (sym none ∙ ap (list_any is_end) e ∙ any-there front rest))
end_before (b ∷ before) new [] rest none e = (before, ap (λ x. x ∷ before) (first_same b 10 (before ++ new) rest e))
end_before (b ∷ before) new (f ∷ front) rest none e =
    let tails : before ++ new ≡ front ++ 10 ∷ rest = rest_same b f (before ++ new) (front ++ 10 ∷ rest) e in
    let heads : b ≡ f = first_same b f (before ++ new) (front ++ 10 ∷ rest) e in
    let left = end_before before new front rest none tails in
    (left.0, ap (λ x. x ∷ before) heads ∙ ap (λ t. f ∷ t) left.1)

no_head-append : (before new : List ℕ) → list_any is_end new ≡ false → HasNoHead before → HasNoHead (before ++ new)
no_head-append before new none h = λ head rest reads few.
    let ends = head_ends head in
    let whole : before ++ new ≡ ends.front ++ 10 ∷ rest =
    reads.1 ∙ ap (λ t. t ++ rest) ends.text_is ∙ append_assoc ends.front (10 ∷ []) rest in
    let left = end_before before new ends.front rest none whole in
    let same : before ≡ print_request head ++ left.0 =
    left.1 ∙ sym (append_assoc ends.front (10 ∷ []) left.0) ∙ ap (λ t. t ++ left.0) (sym ends.text_is) in
    h head left.0 (reads.0, same) few

-- ---- the other answers

-- a choice whose first and last tests fail
choice_last : (p q r : Bool) (x y z : List ℕ) → p ≡ false → r ≡ false → (if p then x else (if q then (if r then y else z) else z)) ≡ z
choice_last true q r x y z e f = absurd (false≢true (sym e))
choice_last false true true x y z e f = absurd (false≢true (sym f))
choice_last false true false x y z e f = refl
choice_last false false r x y z e f = refl

-- a choice whose last test fails
choice_first : (p q r : Bool) (x y z : List ℕ) → r ≡ false → (if p then x else (if q then (if r then y else z) else z)) ≡ (if p then x else z)
choice_first true q r x y z f = refl
choice_first false true true x y z f = absurd (false≢true (sym f))
choice_first false true false x y z f = refl
choice_first false false r x y z f = refl

choice_append : (p q r : Bool) (x y z x' y' z' new : List ℕ) → x' ≡ x ++ new → y' ≡ y ++ new → z' ≡ z ++ new
    → (if p then x' else (if q then (if r then y' else z') else z')) ≡ (if p then x else (if q then (if r then y else z) else z)) ++ new
choice_append true q r x y z x' y' z' new e f g = e
choice_append false true true x y z x' y' z' new e f g = f
choice_append false true false x y z x' y' z' new e f g = g
choice_append false false r x y z x' y' z' new e f g = g

one_append : (p : Bool) (b : ℕ) (new : List ℕ) → (if p then new else b ∷ new) ≡ (if p then [] else b ∷ []) ++ new
one_append true b new = refl
one_append false b new = refl

-- bytes without a line end are no empty line, and begin none
after-none : (new : List ℕ) → list_any is_end new ≡ false → after_empty_lines new ≡ new
after-none [] none = refl
after-none (b ∷ []) none = ap (λ p. if p then [] else b ∷ []) (or_first (b == 10) false none)
after-none (b ∷ c ∷ bytes) none =
    choice_last (b == 10) (b == 13) (c == 10) (after_empty_lines (c ∷ bytes)) (after_empty_lines bytes) (b ∷ c ∷ bytes)
    (or_first (b == 10) (list_any is_end (c ∷ bytes)) none)
    (or_first (c == 10) (list_any is_end bytes) (or_second (b == 10) (list_any is_end (c ∷ bytes)) none))

one-append : (b : ℕ) (new : List ℕ) → list_any is_end new ≡ false → after_empty_lines (b ∷ new) ≡ (if b == 10 then [] else b ∷ []) ++ new
one-append b [] none = sym (append-nil (if b == 10 then [] else b ∷ []))
one-append b (n ∷ rest) none =
    choice_first (b == 10) (b == 13) (n == 10) (after_empty_lines (n ∷ rest)) (after_empty_lines rest) (b ∷ n ∷ rest)
    (or_first (n == 10) (list_any is_end rest) none)
    ∙ ap (λ l. if b == 10 then l else b ∷ n ∷ rest) (after-none (n ∷ rest) none)
    ∙ one_append (b == 10) b (n ∷ rest)

after-append : (before new : List ℕ) → list_any is_end new ≡ false → after_empty_lines (before ++ new) ≡ after_empty_lines before ++ new
after-append [] new none = after-none new none
after-append (b ∷ []) new none = one-append b new none
after-append (b ∷ c ∷ bytes) new none =
    choice_append (b == 10) (b == 13) (c == 10) (after_empty_lines (c ∷ bytes)) (after_empty_lines bytes) (b ∷ c ∷ bytes)
    (after_empty_lines (c ∷ (bytes ++ new))) (after_empty_lines (bytes ++ new)) (b ∷ c ∷ (bytes ++ new)) new
    (after-append (c ∷ bytes) new none) (after-append bytes new none) refl

or_none : (a : Bool) → (a || false) ≡ a
or_none true = refl
or_none false = refl

line_end-append : (lines new : List ℕ) → list_any is_end new ≡ false → has_line_end (lines ++ new) ≡ has_line_end lines
line_end-append lines new none =
    list_any-append is_end lines new ∙ ap (λ b. list_any is_end lines || b) none ∙ or_none (list_any is_end lines)

place-append : (lines new : List ℕ) → list_any is_end lines ≡ true
    → (position_or_len is_end (lines ++ new) ≡ position_or_len is_end lines) × (position_or_len is_end lines < length lines)
place-append [] new some = absurd (false≢true some)
place-append (b ∷ lines) new some =
    elim (b == 10) as (λ p. (p || list_any is_end lines) ≡ true
    → (cond (not p) (1 + position_or_len is_end (lines ++ new)) 0 ≡ cond (not p) (1 + position_or_len is_end lines) 0)
    × (cond (not p) (1 + position_or_len is_end lines) 0 < suc (length lines))) [
      | true ↦ λ h. (refl, omega arith)
      | false ↦ λ h. let rest = place-append lines new h in (ap (λ n. 1 + n) rest.0, omega (arith, rest.1))
    ] some

first_line-append : (lines new : List ℕ) → list_any is_end lines ≡ true → first_line (lines ++ new) ≡ first_line lines
first_line-append lines new some =
    let place = place-append lines new some in
    ap without_return
    (ap (λ n. take n (lines ++ new)) place.0 ∙ take-append-le (position_or_len is_end lines) lines new (omega (arith, place.1)))

bad_by : (ends : Bool) (a b : List ℕ) → (ends ≡ true → a ≡ b) → (ends && not (has_version a)) ≡ (ends && not (has_version b))
bad_by true a b same = ap (λ l. not (has_version l)) (same refl)
bad_by false a b same = refl

is_bad-append : (lines new : List ℕ) → list_any is_end new ≡ false → is_bad (lines ++ new) ≡ is_bad lines
is_bad-append lines new none =
    ap (λ p. p && not (has_version (first_line (lines ++ new)))) (line_end-append lines new none)
    ∙ bad_by (list_any is_end lines) (first_line (lines ++ new)) (first_line lines) (first_line-append lines new)

count-none : (new : List ℕ) → list_any is_end new ≡ false → count_by is_end new ≡ 0
count-none [] none = refl
count-none (b ∷ new) none =
    let first : ◌≡◌ {A = ℕ} (cond (b == 10) 1 0) 0 = ap (λ p. cond p 1 0) (or_first (b == 10) (list_any is_end new) none) in
    omega (arith, sum_by-append (λ x. cond (x == 10) 1 0) (b ∷ []) new, first, count-none new (or_second (b == 10) (list_any is_end new) none))

count-append : (lines new : List ℕ) → list_any is_end new ≡ false → count_by is_end (lines ++ new) ≡ count_by is_end lines
count-append lines new none = omega (arith, sum_by-append (λ x. cond (x == 10) 1 0) lines new, count-none new none)

answer-append : (before new : List ℕ) → list_any is_end new ≡ false → answer_without_head (before ++ new) ≡ answer_without_head before
answer-append before new none =
    let lines = after_empty_lines before in
    ap (λ l. if is_bad l then Bad else if is_many l then Many else More) (after-append before new none)
    ∙ ap (λ p. if p then Bad else if is_many (lines ++ new) then Many else More) (is_bad-append lines new none)
    ∙ ap (λ n. if is_bad lines then Bad else if nat_le 67 n then Many else More) (count-append lines new none)

-- more bytes without a line end leave the answer as it is
pub waits : (before new : List ℕ) → list_any is_end new ≡ false → IsAnswer before More → IsAnswer (before ++ new) More
waits before new none h = (no_head-append before new none h.0, answer-append before new none ∙ h.1)
