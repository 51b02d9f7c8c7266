-- Items with their stamps, in a dense order.
use Rattle.std.proofs.Common.{◌≡◌, ℕ, suc, ◌+◌, ◌-◌, ◌*◌, ◌/◌, ◌%◌, ◌<◌, ◌≤◌, Some, List, [], ◌∷◌, ◌++◌, arith, refl, sym, ◌∙◌, ap, subst, get_or, set, take, length, map, append_assoc}
use Rattle.std.proofs.Math.Nat.{mul-le-mul_left, add-mul-mod_self_left}
use Rattle.std.proofs.lemmas.List.{length-map, map-set, get_or-map, get_or_default, set-get_or, length-append, get_or_append_left, get_or-append-add, length-set, length-take-le, take-map}
use Rattle.std.proofs.lemmas.List.Elements.{All-set, All-take, All-nil, All-append, All-cons}
use Rattle.std.proofs.lemmas.List.Sorted.{IsPermutation-swap_remove, IsPermutation-refl, IsPermutation-trans, IsPermutation-append_right, All-permutation, length_permutation}
use Rattle.std.proofs.lemmas.Option.{get_or_from_slice_get}
use Rattle.std.proofs.Math.ListN.{get_or-map as get_or_map}
use Rattle.std.specs.List.{slice_get, swap_remove, All}
use Rattle.std.specs.List.Sorted.{IsPermutation}
use Rattle.age_ring.specs.Ring.{Drops, IsDue, IsYoung, items_of, stamps_of}

pub length-swap_remove : {X : Type 0} (xs : List X) (i : ℕ) (d : X) → length (swap_remove xs i d) ≡ length xs - 1
length-swap_remove {X} xs i d =
    let whole : length (set xs i (get_or xs (length xs - 1) d)) ≡ length xs = length-set xs i (get_or xs (length xs - 1) d) in
    length-take-le (length xs - 1) (set xs i (get_or xs (length xs - 1) d)) (omega arith)

pub map-swap_remove : {X Y : Type 0} (f : X → Y) (xs : List X) (i : ℕ) (d : X) → map f (swap_remove xs i d) ≡ swap_remove (map f xs) i (f d)
map-swap_remove {X} {Y} f xs i d =
    sym (take-map f (length xs - 1) (set xs i (get_or xs (length xs - 1) d)))
    ∙ ap (λ l. take (length xs - 1) l) (map-set f xs i (get_or xs (length xs - 1) d))
    ∙ ap (λ y. take (length xs - 1) (set (map f xs) i y)) (sym (get_or_map f xs (length xs - 1) d))
    ∙ ap (λ n. take (n - 1) (set (map f xs) i (get_or (map f xs) (n - 1) (f d)))) (sym (length-map xs f))

pub All-swap_remove : {X : Type 0} (P : X → Type 0) (xs : List X) (i : ℕ) (d : X) → i < length xs → All P xs → All P (swap_remove xs i d)
All-swap_remove {X} P xs i d within all =
    let last : length xs - 1 < length xs = omega arith in
    All-take P (length xs - 1) (set xs i (get_or xs (length xs - 1) d)) (All-set P xs i (get_or xs (length xs - 1) d) (all (length xs - 1) d last) all)

pub All-append_right : {X : Type 0} (P : X → Type 0) (xs ys : List X) → All P (xs ++ ys) → All P ys
All-append_right {X} P xs ys all = λ k d lt.
    let inside : length xs + k < length (xs ++ ys) = omega (arith, length-append xs ys) in
    subst P (get_or-append-add xs ys k d) (all (length xs + k) d inside)

pub All-append_left : {X : Type 0} (P : X → Type 0) (xs ys : List X) → All P (xs ++ ys) → All P xs
All-append_left {X} P xs ys all = λ k d lt.
    let inside : k < length (xs ++ ys) = omega (arith, length-append xs ys) in
    subst P (get_or_append_left xs ys d k lt) (all k d inside)

-- an item keeps its place when its stamp changes
pub items_of-set : {T : Type 0} (pairs pairs' : List (T × ℕ)) (i time : ℕ) (item : T) → slice_get (items_of pairs) i ≡ Some item → pairs' ≡ set pairs i (item, time) → items_of pairs' ≡ items_of pairs
items_of-set {T} pairs pairs' i time item at is =
    let pair : T × ℕ = (item, time) in
    ap (λ l. items_of l) is ∙ map-set (λ (p : T × ℕ). p.0) pairs i pair
    ∙ ap (λ x. set (items_of pairs) i x) (sym (get_or_from_slice_get (items_of pairs) i item item at))
    ∙ set-get_or (items_of pairs) i item

-- the items that are left without a place
pub items_of-swap_remove : {T : Type 0} (pairs pairs' : List (T × ℕ)) (i : ℕ) (item : T) → ((pair : T × ℕ) → pairs' ≡ swap_remove pairs i pair) → items_of pairs' ≡ swap_remove (items_of pairs) i item
items_of-swap_remove {T} pairs pairs' i item left =
    let pair : T × ℕ = (item, 0) in
    ap (λ l. items_of l) (left pair) ∙ map-swap_remove (λ (p : T × ℕ). p.0) pairs i pair

pub drops_none : {T : Type 0} (ages time : ℕ) (pairs : List (T × ℕ)) → Drops ages time pairs pairs 0
drops_none {T} ages time pairs = record {
  gone = [];
  moves = IsPermutation-refl pairs;
  due = All-nil (IsDue ages time);
  counts = refl;
  still = λ _. refl;
}

pub drops_then : {T : Type 0} (ages time m n : ℕ) (old mid new : List (T × ℕ)) → Drops ages time old mid m → Drops ages time mid new n → Drops ages time old new (m + n)
drops_then {T} ages time m n old mid new f s = record {
  gone = f.gone ++ s.gone;
  moves = rw append_assoc (IsPermutation-trans old (f.gone ++ mid) (f.gone ++ (s.gone ++ new)) f.moves (IsPermutation-append_right f.gone mid (s.gone ++ new) s.moves));
  due = All-append (IsDue ages time) f.gone s.gone f.due s.due;
  counts = omega (arith, f.counts, s.counts, length-append f.gone s.gone);
  still = λ none. s.still (omega arith) ∙ f.still (omega arith);
}

pub drops_one : {T : Type 0} (ages time i : ℕ) (old new : List (T × ℕ)) → ((d : T × ℕ) → new ≡ swap_remove old i d) → (item : T) → i < length old → get_or (stamps_of old) i 0 + ages ≤ time → Drops ages time old new 1
drops_one {T} ages time i old new is item within due =
    let d : T × ℕ = (item, 0) in
    let pair = get_or old i d in
    let stamp : get_or (stamps_of old) i 0 ≡ pair.1 = get_or-map (λ (p : T × ℕ). p.1) old i d 0 within in
    let P : List (T × ℕ) → Type 0 = λ l. IsPermutation old (pair ∷ l) in
    record {
      gone = pair ∷ [];
      moves = subst P (sym (is pair)) (IsPermutation-swap_remove old i pair within (get_or_default old i d pair within));
      due = All-cons (IsDue ages time) pair [] (omega (arith, stamp, due)) (All-nil (IsDue ages time));
      counts = refl;
      still = λ none. absurd (omega arith);
    }

pub drops_later : {T : Type 0} (ages time later n : ℕ) (old new : List (T × ℕ)) → time ≤ later → Drops ages time old new n → Drops ages later old new n
drops_later {T} ages time later n old new le d = record {
  gone = d.gone;
  moves = d.moves;
  due = λ k e lt. let now = d.due k e lt in omega arith;
  counts = d.counts;
  still = d.still;
}

-- what holds of each old one holds of each that is left
pub drops_left : {T : Type 0} (ages time n : ℕ) (old new : List (T × ℕ)) (P : T × ℕ → Type 0) → Drops ages time old new n → All P old → All P new
drops_left {T} ages time n old new P d all = All-append_right P d.gone new (All-permutation P old (d.gone ++ new) d.moves all)

pub drops_length : {T : Type 0} (ages time n : ℕ) (old new : List (T × ℕ)) → Drops ages time old new n → n + length new ≡ length old
drops_length {T} ages time n old new d = omega (arith, d.counts, length_permutation old (d.gone ++ new) d.moves, length-append d.gone new)

-- where none is due, nothing is dropped
pub drops_still : {T : Type 0} (ages time n : ℕ) (old new : List (T × ℕ)) → Drops ages time old new n → All (IsYoung ages time) old → new ≡ old
drops_still {T} ages time n old new d young = by_gone d.gone refl
  where
    by_gone : (gone : List (T × ℕ)) → d.gone ≡ gone → new ≡ old
    by_gone [] e = d.still (d.counts ∙ ap length e)
    by_gone (x ∷ xs) e =
        let some : 0 < length d.gone = omega (arith, ap length e) in
        let among = All-append_left (IsYoung ages time) d.gone new (All-permutation (IsYoung ages time) old (d.gone ++ new) d.moves young) 0 x some in
        let due = d.due 0 x some in
        absurd (omega (arith, among, due))

-- in one window of as many numbers as there are slots, a slot tells the number
not_a_round_more : (a b m : ℕ) → 0 < m → b < a + m → a % m ≡ b % m → b / m ≤ a / m
not_a_round_more a b m some near same =
    by_order (a / m) (b / m) (λ above. let round : m * suc (a / m) ≤ m * (b / m) = mul-le-mul_left m above in absurd (omega arith))
  where
    by_order : (p q : ℕ) → (p < q → ⊥) → q ≤ p
    by_order p q no_less = grind (arith, no_less)

pub same_slot : (a b m : ℕ) → 0 < m → a < b + m → b < a + m → a % m ≡ b % m → a ≡ b
same_slot a b m some near close same =
    let below = not_a_round_more a b m some close same in
    let above = not_a_round_more b a m some near (sym same) in
    let rounds : a / m ≡ b / m = omega arith in
    let products : m * (a / m) ≡ m * (b / m) = ap (λ q. m * q) rounds in
    omega (arith, products)

some_element : {X : Type 0} (xs : List X) (i : ℕ) → i < length xs → X
some_element [] i lt = absurd (omega arith)
some_element (x ∷ xs) i lt = x

-- the stamp at a place, among the stamps and among the pairs
pub stamp_of : {T : Type 0} (pairs : List (T × ℕ)) (i : ℕ) (d : T × ℕ) → i < length pairs → get_or (stamps_of pairs) i 0 ≡ (get_or pairs i d).1
stamp_of {T} pairs i d within = get_or-map (λ (p : T × ℕ). p.1) pairs i d 0 within

-- what holds of each stamp holds of that at a place
pub stamp_within : {T : Type 0} (P : ℕ → Type 0) (pairs : List (T × ℕ)) (i : ℕ) → All (λ pair. P pair.1) pairs → i < length pairs → P (get_or (stamps_of pairs) i 0)
stamp_within {T} P pairs i all within =
    let d : T × ℕ = some_element pairs i within in
    subst P (sym (stamp_of pairs i d within)) (all i d within)

slot_at_due : (stamp ages : ℕ) → (stamp + ages) % ages ≡ stamp % ages
slot_at_due stamp ages =
    let once : stamp + ages ≡ stamp + ages * 1 = omega arith in
    ap (λ n. n % ages) once ∙ add-mul-mod_self_left stamp ages 1

-- a stamp in the window whose slot is that of the time at which it becomes due
pub due_by_slot : (stamp ages time due : ℕ) → 0 < ages → stamp ≤ time → time < stamp + ages → time < due → due ≤ time + ages → stamp % ages ≡ due % ages → stamp + ages ≡ due
due_by_slot stamp ages time due some past young later soon same =
    same_slot (stamp + ages) due ages some (omega arith) (omega arith) (slot_at_due stamp ages ∙ same)

pub slot_by_due : (stamp ages due : ℕ) → stamp + ages ≡ due → stamp % ages ≡ due % ages
slot_by_due stamp ages due is = sym (slot_at_due stamp ages) ∙ ap (λ n. n % ages) is

-- an item that has a stamp already stays as it is when it is given that stamp
pub stamped_again : {T : Type 0} (pairs : List (T × ℕ)) (i time : ℕ) → i < length pairs → get_or (stamps_of pairs) i 0 ≡ time → (d : T × ℕ) → pairs ≡ set pairs i ((get_or pairs i d).0, time)
stamped_again {T} pairs i time within same d =
    let is : (get_or pairs i d).1 ≡ time = sym (stamp_of pairs i d within) ∙ same in
    sym (set-get_or pairs i d) ∙ ap (λ t. set pairs i ((get_or pairs i d).0, t)) is
