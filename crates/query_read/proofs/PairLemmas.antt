-- Pieces of a query, and pairs in a buffer that grows.
use Rattle.std.proofs.Common.{◌≡◌, ℕ, suc, ◌+◌, ◌-◌, ◌==◌, ◌<◌, ◌≤◌, Bool, true, false, cond, List, [], ◌∷◌, ◌++◌, length, take, drop, map, refl, sym, ap, ◌∙◌, inl, inr, Some, None, arith}
use Rattle.std.proofs.lemmas.Bool.{false≢true, cases_lt, lt-ltb, le-ltb}
use Rattle.std.proofs.lemmas.List.{append-nil, append_assoc, map-append, length-append, length-drop, take_all, drop-append-le, take-append-le}
use Rattle.std.proofs.lemmas.List.Elements.{All-head, All-tail}
use Rattle.std.proofs.Math.Seq.{drop-append_seam}
use Rattle.query_read.specs.Spans.{pair_at, pairs_at, IsSpan}
use Rattle.query_read.specs.declared.query.PairSpan.{PairSpan}
use Rattle.std.specs.Prelude.{not, position, filter, slice_range, All}
use Rattle.std.specs.List.{before_first, after_first, position_or_len, slice_split, flat_map, onto_first}
use Rattle.std.specs.Str.{bytes_eq}
use Rattle.query_read.specs.Query.{Pair, pair_of, pairs_of, pairs_of_piece, values_of}
use Rattle.std.proofs.lemmas.List.Splits.{slice_split_first}

some_no : (i : ℕ) → None ≡ Some i → ⊥
some_no i h = cc

some_same : (i j : ℕ) → Some i ≡ Some j → i ≡ j
some_same i j h = cc

position_or_len-le : (p : ℕ → Bool) (xs : List ℕ) → position_or_len p xs ≤ length xs
position_or_len-le p [] = omega arith
position_or_len-le p (x ∷ xs) = let rest = position_or_len-le p xs in
    elim (p x) as (λ b. cond (not b) (1 + position_or_len p xs) 0 ≤ suc (length xs)) [ true ↦ omega arith | false ↦ omega arith ]

pub position-none : (p : ℕ → Bool) (xs : List ℕ) → None ≡ position p xs → position_or_len p xs ≡ length xs
position-none p xs h =
    let le = position_or_len-le p xs in
    elim (cases_lt (position_or_len p xs) (length xs)) [
      | inl inside ↦ absurd (some_no (position_or_len p xs) (h ∙ ap (λ b. cond b (Some (position_or_len p xs)) None) (lt-ltb _ _ inside)))
      | inr outside ↦ omega arith
    ]

pub position-some : (p : ℕ → Bool) (xs : List ℕ) (i : ℕ) → Some i ≡ position p xs → (position_or_len p xs < length xs) × (i ≡ position_or_len p xs)
position-some p xs i h =
    elim (cases_lt (position_or_len p xs) (length xs)) [
      | inl inside ↦ (inside, some_same i (position_or_len p xs) (h ∙ ap (λ b. cond b (Some (position_or_len p xs)) None) (lt-ltb _ _ inside)))
      | inr outside ↦ absurd (some_no i (sym (h ∙ ap (λ b. cond b (Some (position_or_len p xs)) None) (le-ltb (position_or_len p xs) (length xs) outside))))
    ]

-- where the separator stands nowhere the text is the one part
slice_split-whole : (p : ℕ → Bool) (xs : List ℕ) → position_or_len p xs ≡ length xs → slice_split p xs ≡ xs ∷ []
slice_split-whole p [] h = refl
slice_split-whole p (x ∷ xs) h =
    elim (p x) as (λ b. cond (not b) (1 + position_or_len p xs) 0 ≡ suc (length xs) → cond b ([] ∷ slice_split p xs) (onto_first x (slice_split p xs)) ≡ (x ∷ xs) ∷ []) [
      | true ↦ λ e. absurd (omega arith)
      | false ↦ λ e. ap (onto_first x) (slice_split-whole p xs (omega arith))
    ] h

pub pairs_of-last : (text : List ℕ) → position_or_len (λ b. b == 38) text ≡ length text → pairs_of text ≡ pairs_of_piece text
pairs_of-last text h =
    ap (flat_map pairs_of_piece) (slice_split-whole (λ b. b == 38) text h) ∙ append-nil (pairs_of_piece text)

pub pairs_of-first : (text : List ℕ) → position_or_len (λ b. b == 38) text < length text
    → pairs_of text ≡ pairs_of_piece (before_first (λ b. b == 38) text) ++ pairs_of (after_first (λ b. b == 38) text)
pairs_of-first text h = ap (flat_map pairs_of_piece) (slice_split_first (λ b. b == 38) text 0 h)

pub values_of-yes : (p : Pair) (ps : List Pair) (name : List ℕ) → bytes_eq p.0 name ≡ true → values_of (p ∷ ps) name ≡ p.1 ∷ values_of ps name
values_of-yes p ps name h = ap (λ b. map (λ (q : Pair). q.1) (cond b (p ∷ filter (λ (q : Pair). bytes_eq q.0 name) ps) (filter (λ (q : Pair). bytes_eq q.0 name) ps))) h

pub values_of-no : (p : Pair) (ps : List Pair) (name : List ℕ) → bytes_eq p.0 name ≡ false → values_of (p ∷ ps) name ≡ values_of ps name
values_of-no p ps name h = ap (λ b. map (λ (q : Pair). q.1) (cond b (p ∷ filter (λ (q : Pair). bytes_eq q.0 name) ps) (filter (λ (q : Pair). bytes_eq q.0 name) ps))) h

-- ---- pairs in a buffer that grows

range_stays : (text more : List ℕ) (i j : ℕ) → i ≤ j → j ≤ length text → slice_range (text ++ more) i j ≡ slice_range text i j
range_stays text more i j h k =
    let inside : i ≤ length text = omega arith in
    let enough : j - i ≤ length (drop i text) = omega (arith, length-drop i text) in
    ap (take (j - i)) (drop-append-le i text more inside) ∙ take-append-le (j - i) (drop i text) more enough

pair_stays : (bytes more : List ℕ) (s : PairSpan) → IsSpan (length bytes) s → pair_at (bytes ++ more) s ≡ pair_at bytes s
pair_stays bytes more s h =
    let pair : List ℕ → List ℕ → Pair = λ a b. (a, b) in
    ap (λ a. pair a (slice_range (bytes ++ more) s.middle s.to)) (range_stays bytes more s.from s.middle h.name (omega (arith, h.value, h.inside)))
    ∙ ap (λ b. pair (slice_range bytes s.from s.middle) b) (range_stays bytes more s.middle s.to h.value h.inside)

pairs_stay : (bytes more : List ℕ) (spans : List PairSpan) → All (IsSpan (length bytes)) spans → pairs_at (bytes ++ more) spans ≡ pairs_at bytes spans
pairs_stay bytes more [] h = refl
pairs_stay bytes more (s ∷ spans) h =
    ap (λ p. p ∷ pairs_at (bytes ++ more) spans) (pair_stays bytes more s (All-head (IsSpan (length bytes)) s spans h))
    ∙ ap (λ ps. pair_at bytes s ∷ ps) (pairs_stay bytes more spans (All-tail (IsSpan (length bytes)) s spans h))

-- what was appended last stands from there on
range_last : (front back : List ℕ) (from to : ℕ) → from ≡ length front → to ≡ length (front ++ back) → slice_range (front ++ back) from to ≡ back
range_last front back from to e f =
    let long = length-append front back in
    let size : to - from ≡ length back = omega arith in
    ap (λ n. take (to - from) (drop n (front ++ back))) e
    ∙ ap (take (to - from)) (drop-append_seam front back)
    ∙ take_all (to - from) back (omega arith)

-- a name and a value appended are a pair more
pub pairs_at-push : (bytes name text : List ℕ) (spans : List PairSpan) (from middle to : ℕ) → All (IsSpan (length bytes)) spans
    → from ≡ length bytes → middle ≡ length (bytes ++ name) → to ≡ length ((bytes ++ name) ++ text)
    → pairs_at ((bytes ++ name) ++ text) (spans ++ record { from = from; middle = middle; to = to } ∷ []) ≡ pairs_at bytes spans ++ (name, text) ∷ []
pairs_at-push bytes name text spans from middle to all e f g =
    let whole = (bytes ++ name) ++ text in
    let span : PairSpan = record { from = from; middle = middle; to = to } in
    let pair : List ℕ → List ℕ → Pair = λ a b. (a, b) in
    let grown = length-append bytes name in
    let first = range_stays (bytes ++ name) text from middle (omega arith) (omega arith) ∙ range_last bytes name from middle e f in
    let second = range_last (bytes ++ name) text middle to f g in
    map-append (pair_at whole) spans (span ∷ [])
    ∙ ap (λ ps. ps ++ pair_at whole span ∷ [])
    (ap (λ b. pairs_at b spans) (append_assoc bytes name text) ∙ pairs_stay bytes (name ++ text) spans all)
    ∙ ap (λ a. pairs_at bytes spans ++ pair a (slice_range whole middle to) ∷ []) first
    ∙ ap (λ b. pairs_at bytes spans ++ pair name b ∷ []) second

-- a piece that isn't empty is a pair
pub pairs_of_piece-some : (piece : List ℕ) → (length piece ≡ 0 → ⊥) → pairs_of_piece piece ≡ pair_of piece ∷ []
pairs_of_piece-some [] h = absurd (h refl)
pairs_of_piece-some (b ∷ piece) h = refl

pub some_length : (n : ℕ) → false ≡ (n == 0) → n ≡ 0 → ⊥
some_length n h e = false≢true (h ∙ ap (λ k. k == 0) e)

-- one more piece is read
pub pieces-more : (pairs next whole : List Pair) (left piece rest : List ℕ) → pairs ++ pairs_of left ≡ whole
    → position_or_len (λ b. b == 38) left < length left → piece ≡ before_first (λ b. b == 38) left → rest ≡ after_first (λ b. b == 38) left
    → next ≡ pairs ++ pairs_of_piece piece → next ++ pairs_of rest ≡ whole
pieces-more pairs next whole left piece rest so_far inside first after added =
    ap (λ x. x ++ pairs_of rest) added
    ∙ append_assoc pairs (pairs_of_piece piece) (pairs_of rest)
    ∙ ap (λ x. pairs ++ x)
    (ap (λ p. pairs_of_piece p ++ pairs_of rest) first
    ∙ ap (λ r. pairs_of_piece (before_first (λ b. b == 38) left) ++ pairs_of r) after
    ∙ sym (pairs_of-first left inside))
    ∙ so_far
