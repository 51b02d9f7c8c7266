-- Lines, and the head that a parser found.
use Rattle.std.proofs.Common.{◌≡◌, ℕ, suc, ◌+◌, ◌<◌, ◌≤◌, Bool, true, false, cond, List, [], ◌∷◌, length, take, inl, inr, Some, None, refl, sym, ap, ◌∙◌, subst, arith}
use Rattle.std.specs.Prelude.{not, if◌then◌else◌, position, ◌||◌}
use Rattle.std.specs.List.{position_or_len, list_any, before_first}
use Rattle.std.proofs.lemmas.List.{append-nil}
use Rattle.httparse.specs.Grammar.{ReadsRequest, HasNoRequest}
use Rattle.httparse.specs.Spans.{RequestOverflows}
use Rattle.http_wire.specs.Head.{after_empty_lines, is_bad, is_many, answer_without_head, HasNoHead, IsAnswer}
use Rattle.http_wire.specs.declared.head.Head.{Head}
use Rattle.http_wire.specs.declared.head.Head.TheVariants.{More, Bad, Many}
use Rattle.std.proofs.lemmas.Bool.{cases_lt, lt-ltb, le-ltb}

some_no : (i : ℕ) → None ≡ Some i → ⊥
some_no i h = cc

some_same : (i j : ℕ) → Some i ≡ Some j → i ≡ j
some_same i j h = cc

any-inside : (p : ℕ → Bool) (xs : List ℕ) → position_or_len p xs < length xs → list_any p xs ≡ true
any-inside p [] h = absurd (omega arith)
any-inside p (x ∷ xs) h =
    elim (p x) as (λ b. cond (not b) (1 + position_or_len p xs) 0 < suc (length xs) → (b || list_any p xs) ≡ true) [
      | true ↦ λ e. refl
      | false ↦ λ e. any-inside p xs (omega arith)
    ] h

any-outside : (p : ℕ → Bool) (xs : List ℕ) → length xs ≤ position_or_len p xs → list_any p xs ≡ false
any-outside p [] h = refl
any-outside p (x ∷ xs) h =
    elim (p x) as (λ b. suc (length xs) ≤ cond (not b) (1 + position_or_len p xs) 0 → (b || list_any p xs) ≡ false) [
      | true ↦ λ e. absurd (omega arith)
      | false ↦ λ e. any-outside p xs (omega arith)
    ] h

pub position-none : (p : ℕ → Bool) (xs : List ℕ) → None ≡ position p xs → list_any p xs ≡ false
position-none p xs h =
    elim (cases_lt (position_or_len p xs) (length xs)) [
      | inl inside ↦ absurd (some_no (position_or_len p xs) (h ∙ ap (λ b. cond b (Some (position_or_len p xs)) None) (lt-ltb _ _ inside)))
      | inr outside ↦ any-outside p xs outside
    ]

pub position-some : (p : ℕ → Bool) (xs : List ℕ) (i : ℕ) → Some i ≡ position p xs → (list_any p xs ≡ true) × (take i xs ≡ before_first p xs)
position-some p xs i h =
    elim (cases_lt (position_or_len p xs) (length xs)) [
      | inl inside ↦ (
        any-inside p xs inside,
        ap (λ n. take n xs) (some_same i (position_or_len p xs) (h ∙ ap (λ b. cond b (Some (position_or_len p xs)) None) (lt-ltb _ _ inside))),
      )
      | inr outside ↦ absurd (some_no i (sym (h ∙ ap (λ b. cond b (Some (position_or_len p xs)) None) (le-ltb (position_or_len p xs) (length xs) outside))))
    ]

-- ---- bytes of which no front is a head of at most 64 fields

by_tests : (bad many : Bool) (bytes : List ℕ) → HasNoHead bytes → answer_without_head bytes ≡ (if bad then Bad else if many then Many else More)
    → IsAnswer bytes (if bad then Bad else if many then Many else More)
by_tests true many bytes h e = (h, e)
by_tests false true bytes h e = (h, e)
by_tests false false bytes h e = (h, e)

pub answer-none : (bytes : List ℕ) (answer : Head) → HasNoHead bytes → answer ≡ answer_without_head bytes → IsAnswer bytes answer
answer-none bytes answer h e =
    subst (IsAnswer bytes) (sym e) (by_tests (is_bad (after_empty_lines bytes)) (is_many (after_empty_lines bytes)) bytes h refl)

pub no_head-partial : (bytes : List ℕ) → HasNoRequest bytes → HasNoHead bytes
no_head-partial bytes none = λ head rest reads few. none head rest reads

pub no_head-error : (bytes : List ℕ) → RequestOverflows 64 bytes → HasNoHead bytes
no_head-error bytes over = λ head rest reads few.
    let more = over [] head rest (subst (λ b. ReadsRequest b head rest) (sym (append-nil bytes)) reads) in omega arith
