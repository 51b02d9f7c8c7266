-- The later positions are picked among those that the first one leaves.
use Rattle.std.proofs.Common.{◌≡◌, ℕ, ◌+◌, ◌-◌, ◌%◌, ◌<◌, ◌≤◌, Bool, true, false, not, ◌||◌, cond, eqb, nat_eq, List, [], ◌∷◌, ◌++◌, refl, sym, ◌∙◌, ap, subst, zero, suc, inl, inr, length, map, reverse, set, take, drop, get_or, arith, add-one}
use Rattle.std.specs.List.{All, filter, refill, range_with_len, IsDistinct, AllByRecursion}
use Rattle.std.proofs.lemmas.Bool.{cases_lt}
use Rattle.std.proofs.lemmas.Bool.Decides.{nat_tests}
use Rattle.std.proofs.lemmas.List.{append-nil, append_assoc, map-append, map-id, map_push, map_more, drop_more, set_at, get_or_at, get_or-map, length-take-le, length-append, length-drop, length-map, length-reverse, nil_from_length, reverse-append, reverse-reverse, take_at}
use Rattle.std.proofs.lemmas.List.Elements.{filter-append, recursion_from_All, All-cons, All-map}
use Rattle.std.proofs.lemmas.List.FromFn.{map-range_with_len_more, length-range_with_len, get_or-range_with_len}
use Rattle.std.proofs.lemmas.List.Sorted.{All-permutation, IsPermutation-reverse}
use Rattle.std.proofs.lemmas.List.Sums.{fold_more}
use Rattle.std.proofs.lemmas.Map.Keys.{IsDistinct-cons, IsDistinct-head, IsDistinct-tail}
use Rattle.pick.specs.Picks.{is_picked, unpicked, with_pick, picks, AreApart}
use Rattle.pick.specs.Passing.{past}

range_more : (n : ℕ) → range_with_len 0 (n + 1) ≡ range_with_len 0 n ++ n ∷ []
range_more n =
    sym (map-id (range_with_len 0 (n + 1))) ∙ map-range_with_len_more (λ x. x) 0 n n (omega arith) ∙ ap (λ l. l ++ n ∷ []) (map-id (range_with_len 0 n))

filter_more : (p : ℕ → Bool) (n : ℕ) → filter p (range_with_len 0 (n + 1)) ≡ filter p (range_with_len 0 n) ++ cond (p n) (n ∷ []) []
filter_more p n = ap (λ l. filter p l) (range_more n) ∙ filter-append p (range_with_len 0 n) (n ∷ [])

-- a test that agrees with another at each position passed to keeps what that one keeps
kept_more : (p q : ℕ → Bool) (f : ℕ → ℕ) (a m : ℕ) → f m ≡ a → p a ≡ q m → filter p (range_with_len 0 a) ≡ map f (filter q (range_with_len 0 m)) → filter p (range_with_len 0 (a + 1)) ≡ map f (filter q (range_with_len 0 (m + 1)))
kept_more p q f a m at same before =
    let one : (b : Bool) → cond b (f m ∷ []) [] ≡ map f (cond b (m ∷ []) []) = λ b. elim b as (λ b. cond b (f m ∷ []) [] ≡ map f (cond b (m ∷ []) [])) [ true ↦ refl | false ↦ refl ] in
    filter_more p a
    ∙ ap (λ l. l ++ cond (p a) (a ∷ []) []) before
    ∙ ap (λ b. map f (filter q (range_with_len 0 m)) ++ cond b (a ∷ []) []) same
    ∙ ap (λ x. map f (filter q (range_with_len 0 m)) ++ cond (q m) (x ∷ []) []) (sym at)
    ∙ ap (λ l. map f (filter q (range_with_len 0 m)) ++ l) (one (q m))
    ∙ sym (map-append f (filter q (range_with_len 0 m)) (cond (q m) (m ∷ []) []))
    ∙ ap (map f) (sym (filter_more q m))

past_below : (r x : ℕ) → x < r → past r x ≡ x
past_below r x h = grind (arith, nat_tests)

past_from : (r x : ℕ) → r ≤ x → past r x ≡ x + 1
past_from r x h = grind (arith, nat_tests)

never_gap : (r x : ℕ) → eqb r (past r x) ≡ false
never_gap r x = grind (arith, nat_tests)

past_apart : (r x y : ℕ) → eqb (past r y) (past r x) ≡ eqb y x
past_apart r x y = grind (arith, nat_tests)

picked_past : (r x : ℕ) (ps : List ℕ) → is_picked (map (past r) ps) (past r x) ≡ is_picked ps x
picked_past r x [] = refl
picked_past r x (y ∷ ys) = ap (λ b. b || is_picked (map (past r) ys) (past r x)) (past_apart r x y) ∙ ap (λ b. eqb y x || b) (picked_past r x ys)

-- where the first pick was passed over, a position is picked if it was before
same_past : (r x : ℕ) (ps : List ℕ) → not (is_picked (r ∷ map (past r) ps) (past r x)) ≡ not (is_picked ps x)
same_past r x ps = ap (λ b. not (b || is_picked (map (past r) ps) (past r x))) (never_gap r x) ∙ ap not (picked_past r x ps)

same_at : (r x a : ℕ) (ps : List ℕ) → past r x ≡ a → not (is_picked (r ∷ map (past r) ps) a) ≡ not (is_picked ps x)
same_at r x a ps at =
    let P : ℕ → Type 0 = λ m. not (is_picked (r ∷ map (past r) ps) m) ≡ not (is_picked ps x) in
    subst P at (same_past r x ps)

left_before : (r m : ℕ) (ps : List ℕ) → m ≤ r → unpicked m (r ∷ map (past r) ps) ≡ map (past r) (unpicked m ps)
left_before r zero ps within = refl
left_before r (suc m) ps within =
    let P : ℕ → Type 0 = λ x. unpicked x (r ∷ map (past r) ps) ≡ map (past r) (unpicked x ps) in
    let at = past_below r m (omega arith) in
    subst P (add-one m) (kept_more (λ (x : ℕ). not (is_picked (r ∷ map (past r) ps) x)) (λ (x : ℕ). not (is_picked ps x)) (past r) m m at (same_at r m m ps at) (left_before r m ps (omega arith)))

gap_picked : (r : ℕ) (ps : List ℕ) → not (is_picked (r ∷ ps) r) ≡ false
gap_picked r ps =
    let same : eqb r r ≡ true = grind (arith, nat_tests) in
    ap (λ b. not (b || is_picked ps r)) same

left_after : (r d : ℕ) (ps : List ℕ) → unpicked (r + d + 1) (r ∷ map (past r) ps) ≡ map (past r) (unpicked (r + d) ps)
left_after r zero ps =
    let P : ℕ → Type 0 = λ x. unpicked (x + 1) (r ∷ map (past r) ps) ≡ map (past r) (unpicked x ps) in
    let e : r ≡ r + 0 = omega arith in
    let test = λ (x : ℕ). not (is_picked (r ∷ map (past r) ps) x) in
    subst P e (filter_more test r ∙ ap (λ b. unpicked r (r ∷ map (past r) ps) ++ cond b (r ∷ []) []) (gap_picked r (map (past r) ps)) ∙ append-nil (unpicked r (r ∷ map (past r) ps)) ∙ left_before r r ps (omega arith))
left_after r (suc d) ps =
    let P : ℕ → Type 0 = λ x. unpicked (x + 1) (r ∷ map (past r) ps) ≡ map (past r) (unpicked x ps) in
    let e : r + d + 1 ≡ r + suc d = omega arith in
    let at = past_from r (r + d) (omega arith) in
    subst P e (kept_more (λ (x : ℕ). not (is_picked (r ∷ map (past r) ps) x)) (λ (x : ℕ). not (is_picked ps x)) (past r) (r + d + 1) (r + d) at (same_at r (r + d) (r + d + 1) ps at) (left_after r d ps))

-- what is left with a first pick, and others past it, is what the others leave, past the first
pub left_past : (r n : ℕ) (ps : List ℕ) → r ≤ n → unpicked (n + 1) (r ∷ map (past r) ps) ≡ map (past r) (unpicked n ps)
left_past r n ps within =
    let P : ℕ → Type 0 = λ x. unpicked (x + 1) (r ∷ map (past r) ps) ≡ map (past r) (unpicked x ps) in
    let e : r + (n - r) ≡ n = omega arith in
    subst P e (left_after r (n - r) ps)

-- with nothing picked, all are left
all_left : (xs : List ℕ) → filter (λ x. not (is_picked [] x)) xs ≡ xs
all_left [] = refl
all_left (x ∷ xs) = ap (λ l. x ∷ l) (all_left xs)

-- Positions that are picked: beside what tells them apart, the number of those that they leave.
record ArePicked (n k : ℕ) (picked : List ℕ) : Type 0 where
  pub apart : AreApart n k picked
  pub left : length (unpicked n picked) + k ≡ n

none_picked : (n : ℕ) → ArePicked n 0 []
unfolding IsDistinct
none_picked n = record {
  apart = record { count = refl; below = λ i d h. absurd (omega arith); distinct = tt };
  left = omega (arith, ap length (all_left (range_with_len 0 n)), length-range_with_len 0 n);
}

passes_little : (r x : ℕ) → past r x ≤ x + 1
passes_little r x = grind (arith, nat_tests)

differs_past : (r y : ℕ) (ps : List ℕ) → AllByRecursion (λ x. eqb y x ≡ false) ps → AllByRecursion (λ x. eqb (past r y) x ≡ false) (map (past r) ps)
differs_past r y [] all = tt
differs_past r y (x ∷ xs) all = (past_apart r x y ∙ all.0, differs_past r y xs all.1)

distinct_past : (r : ℕ) (ps : List ℕ) → IsDistinct nat_eq ps → IsDistinct nat_eq (map (past r) ps)
distinct_past r [] distinct = distinct
distinct_past r (y ∷ ys) distinct =
    IsDistinct-cons nat_eq (past r y) (map (past r) ys) (differs_past r y ys (IsDistinct-head nat_eq y ys distinct)) (distinct_past r ys (IsDistinct-tail nat_eq y ys distinct))

-- a first pick, and others past it
picked_past_first : (r n k : ℕ) (ps : List ℕ) → r ≤ n → ArePicked n k ps → ArePicked (n + 1) (k + 1) (r ∷ map (past r) ps)
picked_past_first r n k ps within picked =
    let below = picked.apart.below in
    record {
      apart = record {
        count = omega (arith, length-map ps (past r), picked.apart.count);
        below = All-cons (λ x. x < n + 1) r (map (past r) ps) (omega arith) (All-map (λ x. x < n + 1) (past r) ps (λ i d h. omega (arith, passes_little r (get_or ps i d), below i d h)));
        distinct = IsDistinct-cons nat_eq r (map (past r) ps) (recursion_from_All (λ x. eqb r x ≡ false) (map (past r) ps) (All-map (λ x. eqb r x ≡ false) (past r) ps (λ i d h. never_gap r (get_or ps i d)))) (distinct_past r ps picked.apart.distinct);
      };
      left = omega (arith, ap length (left_past r n ps within), length-map (unpicked n ps) (past r), picked.left);
    }

-- the position that a word picks
abbrev picked_by : ℕ → List ℕ → ℕ → ℕ
picked_by n picked word = get_or (unpicked n picked) (word % (n - length picked)) 0

rank_within : (n k word : ℕ) (picked : List ℕ) → ArePicked n k picked → k < n → word % (n - length picked) < length (unpicked n picked)
rank_within n k word picked are few =
    let e : length (unpicked n picked) ≡ n - length picked = omega (arith, are.left, are.apart.count) in
    let P : ℕ → Type 0 = λ m. word % (n - length picked) < m in
    subst P (sym e) (omega (arith, are.apart.count))

-- a pick with a first one before it
pick_past : (r n k word : ℕ) (ps : List ℕ) → r ≤ n → ArePicked n k ps → k < n → with_pick (n + 1) (r ∷ map (past r) ps) word ≡ r ∷ map (past r) (with_pick n ps word)
pick_past r n k word ps within are few =
    let i = word % (n - length ps) in
    let count : n + 1 - length (r ∷ map (past r) ps) ≡ n - length ps = omega (arith, length-map ps (past r)) in
    let found : picked_by (n + 1) (r ∷ map (past r) ps) word ≡ past r (picked_by n ps word) =
    ap (λ m. get_or (unpicked (n + 1) (r ∷ map (past r) ps)) (word % m) 0) count
    ∙ ap (λ l. get_or l i 0) (left_past r n ps within)
    ∙ get_or-map (past r) (unpicked n ps) i 0 0 (rank_within n k word ps are few) in
    ap (λ x. r ∷ map (past r) ps ++ x ∷ []) found ∙ ap (λ l. r ∷ l) (sym (map_push (past r) ps (picked_by n ps word)))

first_pick : (word n : ℕ) → with_pick (n + 1) [] word ≡ word % (n + 1) ∷ []
first_pick word n =
    let small : word % (n + 1) < n + 1 = omega arith in
    let all : n + 1 - 0 ≡ n + 1 = omega arith in
    let found : picked_by (n + 1) [] word ≡ word % (n + 1) = ap (λ m. get_or (unpicked (n + 1) []) (word % m) 0) all ∙ ap (λ l. get_or l (word % (n + 1)) 0) (all_left (range_with_len 0 (n + 1))) ∙ get_or-range_with_len 0 (n + 1) (word % (n + 1)) 0 small ∙ omega arith in
    ap (λ x. x ∷ []) found

picks_more : (words : List ℕ) (n k : ℕ) → k < length words → picks words n (k + 1) ≡ with_pick n (picks words n k) (get_or words k 0)
unfolding picks
picks_more words n k within = fold_more (with_pick n) [] words k 0 within

picks_none : (words : List ℕ) (n : ℕ) → picks words n 0 ≡ []
unfolding picks
picks_none words n = refl

-- k words pick so many positions
abbrev PickApart : ℕ → Type 0
PickApart k = (words : List ℕ) (n : ℕ) → k ≤ n → k ≤ length words → ArePicked n k (picks words n k)

-- before k words, one more picks a position, and they pick among those that it leaves
abbrev PickPast : ℕ → Type 0
PickPast k = (word : ℕ) (words : List ℕ) (n : ℕ) → k ≤ n → k ≤ length words → picks (word ∷ words) (n + 1) (k + 1) ≡ word % (n + 1) ∷ map (past (word % (n + 1))) (picks words n k)

apart_none : PickApart 0
apart_none words n few within =
    let P : List ℕ → Type 0 = λ l. ArePicked n 0 l in
    subst P (sym (picks_none words n)) (none_picked n)

apart_more : (k : ℕ) → PickApart k → PickPast k → PickApart (k + 1)
apart_more k apart law [] n few within = absurd (omega arith)
apart_more k apart law (word ∷ words) n few within =
    let m = n - 1 in
    let P : ℕ → Type 0 = λ m. ArePicked m (k + 1) (picks (word ∷ words) m (k + 1)) in
    let Q : List ℕ → Type 0 = λ l. ArePicked (m + 1) (k + 1) l in
    let all : m + 1 ≡ n = omega arith in
    let r = word % (m + 1) in
    subst P all (subst Q (sym (law word words m (omega arith) (omega arith))) (picked_past_first r m k (picks words m k) (omega arith) (apart words m (omega arith) (omega arith))))

past_none : PickPast 0
past_none word words n few within =
    picks_more (word ∷ words) (n + 1) 0 (omega arith)
    ∙ ap (λ l. with_pick (n + 1) l word) (picks_none (word ∷ words) (n + 1))
    ∙ first_pick word n
    ∙ ap (λ l. word % (n + 1) ∷ map (past (word % (n + 1))) l) (sym (picks_none words n))

past_more : (k : ℕ) → PickApart k → PickPast k → PickPast (k + 1)
past_more k apart law word words n few within =
    let r = word % (n + 1) in
    let next = get_or words k 0 in
    let same : get_or (word ∷ words) (k + 1) 0 ≡ next = rw add-one in
    picks_more (word ∷ words) (n + 1) (k + 1) (omega arith)
    ∙ ap (λ w. with_pick (n + 1) (picks (word ∷ words) (n + 1) (k + 1)) w) same
    ∙ ap (λ l. with_pick (n + 1) l next) (law word words n (omega arith) (omega arith))
    ∙ pick_past r n k next (picks words n k) (omega arith) (apart words n (omega arith) (omega arith)) (omega arith)
    ∙ ap (λ l. r ∷ map (past r) l) (sym (picks_more words n k (omega arith)))

both : (k : ℕ) → PickApart k × PickPast k
both zero = (apart_none, past_none)
both (suc k) =
    let P : ℕ → Type 0 = λ m. PickApart m × PickPast m in
    let before = both k in
    subst P (add-one k) (apart_more k before.0 before.1, past_more k before.0 before.1)

pub picks_apart : (words : List ℕ) (n k : ℕ) → k ≤ n → k ≤ length words → AreApart n k (picks words n k)
picks_apart words n k few within = ((both k).0 words n few within).apart

picks_past : (word : ℕ) (words : List ℕ) (n k : ℕ) → k ≤ n → k ≤ length words → picks (word ∷ words) (n + 1) (k + 1) ≡ word % (n + 1) ∷ map (past (word % (n + 1))) (picks words n k)
picks_past word words n k = (both k).1 word words n

-- the picks of the words from j on
abbrev pub picks_from : List ℕ → ℕ → ℕ → ℕ → List ℕ
picks_from words n j k = picks (drop j words) (n - j) k

-- the same with one word more before them
pub picks_before : (words : List ℕ) (n j k : ℕ) → j + k < n → j + k < length words → picks_from words n j (k + 1) ≡ get_or words j 0 % (n - j) ∷ map (past (get_or words j 0 % (n - j))) (picks_from words n (j + 1) k)
picks_before words n j k few within =
    let word = get_or words j 0 in
    let rest = drop (j + 1) words in
    let left : n - (j + 1) + 1 ≡ n - j = omega arith in
    let P : ℕ → Type 0 = λ m. picks (word ∷ rest) m (k + 1) ≡ word % m ∷ map (past (word % m)) (picks rest (n - (j + 1)) k) in
    ap (λ l. picks l (n - j) (k + 1)) (drop_more words j 0 (omega arith))
    ∙ subst P left (picks_past word rest (n - (j + 1)) k (omega arith) (omega (arith, length-drop (j + 1) words)))

reverse_cons : (x : ℕ) (xs : List ℕ) → reverse (x ∷ xs) ≡ reverse xs ++ x ∷ []
reverse_cons x xs = reverse-append (x ∷ []) xs

map_reverse : (f : ℕ → ℕ) (xs : List ℕ) → map f (reverse xs) ≡ reverse (map f xs)
map_reverse f [] = refl
map_reverse f (x ∷ xs) =
    ap (map f) (reverse_cons x xs) ∙ map-append f (reverse xs) (x ∷ []) ∙ ap (λ l. l ++ f x ∷ []) (map_reverse f xs) ∙ sym (reverse_cons (f x) (map f xs))

-- the last picks, the last one first
abbrev pub IsLate : List ℕ → ℕ → ℕ → ℕ → List ℕ → Type 0
IsLate words n k done later = later ≡ reverse (picks_from words n (k - done) done)

pub late_none : (words : List ℕ) (n k : ℕ) → IsLate words n k 0 []
late_none words n k = ap reverse (sym (picks_none (drop (k - 0) words) (n - (k - 0))))

late_apart : (words : List ℕ) (n k done : ℕ) → done ≤ k → k ≤ n → k ≤ length words → AreApart (n - (k - done)) done (picks_from words n (k - done) done)
late_apart words n k done late few within =
    picks_apart (drop (k - done) words) (n - (k - done)) done (omega arith) (omega (arith, length-drop (k - done) words))

pub late_count : (words : List ℕ) (n k done : ℕ) (later : List ℕ) → IsLate words n k done later → done ≤ k → k ≤ n → k ≤ length words → length later ≡ done
late_count words n k done later is late few within =
    ap length is ∙ length-reverse (picks_from words n (k - done) done) ∙ (late_apart words n k done late few within).count

-- late picks are below n by as many as there are words before theirs
pub late_below : (words : List ℕ) (n k done most : ℕ) (later : List ℕ) → IsLate words n k done later → done < k → k ≤ n → k ≤ length words → n < most → All (λ position. position + 2 < most) later
late_below words n k done most later is late few within small =
    let picked = picks_from words n (k - done) done in
    let below = (late_apart words n k done (omega arith) few within).below in
    let P : List ℕ → Type 0 = λ l. All (λ position. position + 2 < most) l in
    subst P (sym is) (All-permutation (λ position. position + 2 < most) picked (reverse picked) (IsPermutation-reverse picked) (λ i d h. omega (arith, below i d h)))

-- one pick more before the late ones, which pass over it
late_more : (words : List ℕ) (n k done j : ℕ) (later : List ℕ) → IsLate words n k done later → done + j + 1 ≡ k → k ≤ n → k ≤ length words → IsLate words n k (done + 1) (map (past (get_or words j 0 % (n - j))) later ++ (get_or words j 0 % (n - j)) ∷ [])
late_more words n k done j later is late few within =
    let r = get_or words j 0 % (n - j) in
    let f = past r in
    let picked = picks_from words n (j + 1) done in
    let here : k - (done + 1) ≡ j = omega arith in
    let next : j + 1 ≡ k - done = omega arith in
    let turned : map f later ≡ reverse (map f picked) = ap (map f) (is ∙ ap (λ i. reverse (picks_from words n i done)) (sym next)) ∙ map_reverse f picked in
    ap (λ l. l ++ r ∷ []) turned
    ∙ sym (reverse_cons r (map f picked))
    ∙ ap reverse (sym (picks_before words n j done (omega arith) (omega arith)))
    ∙ ap (λ i. reverse (picks_from words n i (done + 1))) (sym here)

-- late picks that were lent and passed over, and given back
refilled : (later lent passed : List ℕ) (f : ℕ → ℕ) → lent ≡ later → passed ≡ map f lent → refill (length later) later passed ≡ map f later
refilled later lent passed f same over =
    let count : length passed ≡ length later = ap length over ∙ length-map lent f ∙ ap length same in
    take_at passed (drop (length passed) later) (length later) count ∙ over ∙ ap (map f) same

map_twice : (f g : ℕ → ℕ) (xs : List ℕ) → map f (map g xs) ≡ map (λ x. f (g x)) xs
map_twice f g [] = refl
map_twice f g (x ∷ xs) = ap (λ l. f (g x) ∷ l) (map_twice f g xs)

-- positions before a gap stay
past_all : (gap : ℕ) (xs : List ℕ) → AllByRecursion (λ x. x < gap) xs → map (past gap) xs ≡ xs
past_all gap [] all = refl
past_all gap (x ∷ xs) all = ap (λ y. y ∷ map (past gap) xs) (past_below gap x all.0) ∙ ap (λ l. x ∷ l) (past_all gap xs all.1)

-- two picks more before the late ones, which pass over both
pub late_two : (words : List ℕ) (n k done j : ℕ) (later lent passed : List ℕ) (first second : ℕ) → IsLate words n k done later → done + j + 2 ≡ k → k ≤ n → k ≤ length words → lent ≡ later → first ≡ get_or words j 0 % (n - j) → second ≡ get_or words (j + 1) 0 % (n - j - 1) → passed ≡ map (λ p. past first (past second p)) lent
    → IsLate words n k (done + 2) ((refill (length later) later passed ++ past first second ∷ []) ++ first ∷ [])
late_two words n k done j later lent passed first second is late few within same by_first by_second over =
    let r = get_or words j 0 % (n - j) in
    let s = get_or words (j + 1) 0 % (n - (j + 1)) in
    let fewer : n - j - 1 ≡ n - (j + 1) = omega arith in
    let as_s : second ≡ s = by_second ∙ ap (λ m. get_or words (j + 1) 0 % m) fewer in
    let one : IsLate words n k (done + 1) (map (past s) later ++ s ∷ []) = late_more words n k done (j + 1) later is (omega arith) few within in
    let two : IsLate words n k (done + 1 + 1) (map (past r) (map (past s) later ++ s ∷ []) ++ r ∷ []) = late_more words n k (done + 1) j (map (past s) later ++ s ∷ []) one (omega arith) few within in
    let both_passed : refill (length later) later passed ++ past first second ∷ [] ≡ map (past first) (map (past second) later ++ second ∷ []) =
    ap (λ l. l ++ past first second ∷ []) (refilled later lent passed (λ p. past first (past second p)) same over ∙ sym (map_twice (past first) (past second) later))
    ∙ sym (map-append (past first) (map (past second) later) (second ∷ [])) in
    let count : done + 1 + 1 ≡ done + 2 = omega arith in
    ap (λ l. l ++ first ∷ []) both_passed
    ∙ ap (λ x. map (past x) (map (past second) later ++ second ∷ []) ++ x ∷ []) by_first
    ∙ ap (λ y. map (past r) (map (past y) later ++ y ∷ []) ++ r ∷ []) as_s
    ∙ two
    ∙ ap (λ d. reverse (picks_from words n (k - d) d)) count

-- the first pick before all the others, which are passed over with a gap past all of them too
pub late_first : (words : List ℕ) (n k done gap : ℕ) (later lent passed : List ℕ) (first : ℕ) → IsLate words n k done later → done + 1 ≡ k → k ≤ n → k ≤ length words → n ≤ gap → lent ≡ later → first ≡ get_or words 0 0 % n → passed ≡ map (λ p. past first (past gap p)) lent
    → IsLate words n k k (refill (length later) later passed ++ first ∷ [])
late_first words n k done gap later lent passed first is late few within far same by_first over =
    let below = late_below words n k done (gap + 1) later is (omega arith) few within (omega arith) in
    let none : map (past gap) later ≡ later = past_all gap later (recursion_from_All (λ x. x < gap) later (λ i d h. omega (arith, below i d h))) in
    let all : n ≡ n - 0 = omega arith in
    let r = get_or words 0 0 % (n - 0) in
    let as_r : first ≡ r = by_first ∙ ap (λ m. get_or words 0 0 % m) all in
    let passed_first : refill (length later) later passed ≡ map (past first) later =
    refilled later lent passed (λ p. past first (past gap p)) same over ∙ sym (map_twice (past first) (past gap) later) ∙ ap (map (past first)) none in
    ap (λ l. l ++ first ∷ []) passed_first
    ∙ ap (λ x. map (past x) later ++ x ∷ []) as_r
    ∙ late_more words n k done 0 later is (omega arith) few within
    ∙ ap (λ d. reverse (picks_from words n (k - d) d)) late

-- all are late in the end
pub late_all : (words : List ℕ) (n k : ℕ) (later : List ℕ) → IsLate words n k k later → reverse later ≡ picks words n k
late_all words n k later is =
    let none : k - k ≡ 0 = omega arith in
    ap reverse is ∙ reverse-reverse (picks_from words n (k - k) k) ∙ ap (λ i. picks_from words n i k) none ∙ ap (λ m. picks words m k) (omega arith)

-- as many have been turned round as are picked without those that are left
pub turned_count : (words : List ℕ) (n k : ℕ) (picked later : List ℕ) → picked ++ reverse later ≡ picks words n k → k ≤ n → k ≤ length words → length picked + length later ≡ k
turned_count words n k picked later turned few within =
    omega (arith, length-append picked (reverse later), length-reverse later, ap length turned, (picks_apart words n k few within).count)

pub turned_apart : (words : List ℕ) (n k : ℕ) (picked later : List ℕ) → picked ++ reverse later ≡ picks words n k → (0 < length later → ⊥) → k ≤ n → k ≤ length words → AreApart n k picked
turned_apart words n k picked later turned empty few within =
    let P : List ℕ → Type 0 = λ l. AreApart n k l in
    let none : later ≡ [] = nil_from_length later (elim (cases_lt 0 (length later)) [ inl some ↦ absurd (empty some) | inr none ↦ omega arith ]) in
    let all : picked ≡ picks words n k = sym (append-nil picked) ∙ ap (λ l. picked ++ reverse l) (sym none) ∙ turned in
    subst P (sym all) (picks_apart words n k few within)

-- one position more is passed over, where it stands
pub passed_more : (f : ℕ → ℕ) (old now : List ℕ) (i passed : ℕ) → i < length old → now ≡ map f (take i old) ++ drop i old → passed ≡ f (get_or now i 0) → set now i passed ≡ map f (take (i + 1) old) ++ drop (i + 1) old
passed_more f old now i passed within so_far is =
    let front = map f (take i old) in
    let x = get_or old i 0 in
    let rest = drop (i + 1) old in
    let count : length front ≡ i = length-map (take i old) f ∙ length-take-le i old (omega arith) in
    let split : now ≡ front ++ x ∷ rest = so_far ∙ ap (λ l. front ++ l) (drop_more old i 0 within) in
    let here : passed ≡ f x = is ∙ ap (λ l. f (get_or l i 0)) split ∙ ap f (get_or_at front x rest 0 i count) in
    ap (λ l. set l i passed) split
    ∙ set_at front x rest passed i count
    ∙ ap (λ y. front ++ y ∷ rest) here
    ∙ sym (append_assoc front (f x ∷ []) rest)
    ∙ ap (λ l. l ++ rest) (sym (map_more f old i 0 within))
