-- Elements of a list by their places, after a push and after the last one moves into a gap.
use Rattle.std.proofs.Common.{◌≡◌, ◌≢◌, ℕ, zero, suc, ◌+◌, ◌-◌, ◌<◌, ◌⊎◌, inl, inr, List, [], ◌∷◌, ◌++◌, Some, refl, sym, ◌∙◌, ap, length, map, take, get_or, arith}
use Rattle.std.specs.List.{slice_get, swap_remove}
use Rattle.std.proofs.Math.ListN.{set}
use Rattle.std.proofs.lemmas.List.{get_or-take, get_or-set_same, get_or-set_other, length-take, length-map, length-set, map-set, get_or-map, take-map, get_or_default}
use Rattle.std.proofs.lemmas.Option.{slice_get_within, get_or_from_slice_get, slice_get_read, none-some, same_Some}

-- an element and its place, to and fro
pub reads : {X : Type 0} (xs : List X) (k : ℕ) (x d : X) → k < length xs → get_or xs k d ≡ x → slice_get xs k ≡ Some x
reads xs k x d within is = slice_get_read xs (length xs) k x refl within (sym is ∙ get_or_default xs k d x within)

pub push_cases : {X : Type 0} (xs : List X) (y x : X) (i : ℕ) → slice_get (xs ++ y ∷ []) i ≡ Some x → (slice_get xs i ≡ Some x) ⊎ ((length xs ≡ i) × (y ≡ x))
push_cases [] y x zero h = inr (refl, same_Some y x h)
push_cases [] y x (suc i) h = absurd (none-some x h)
push_cases (z ∷ zs) y x zero h = inl h
push_cases (z ∷ zs) y x (suc i) h = elim (push_cases zs y x i h) [
  | inl old ↦ inl old
  | inr new ↦ inr (ap suc new.0, new.1)
]

pub push_old : {X : Type 0} (xs : List X) (y x : X) (i : ℕ) → slice_get xs i ≡ Some x → slice_get (xs ++ y ∷ []) i ≡ Some x
push_old [] y x i h = absurd (none-some x h)
push_old (z ∷ zs) y x zero h = h
push_old (z ∷ zs) y x (suc i) h = push_old zs y x i h

pub push_last : {X : Type 0} (xs : List X) (y : X) → slice_get (xs ++ y ∷ []) (length xs) ≡ Some y
push_last [] y = refl
push_last (z ∷ zs) y = push_last zs y

pub length-swap_remove : {X : Type 0} (xs : List X) (i : ℕ) (d : X) → length (swap_remove xs i d) ≡ length xs - 1
length-swap_remove xs i d = omega (arith, length-take (length xs - 1) (set xs i (get_or xs (length xs - 1) d)), length-set xs i (get_or xs (length xs - 1) d))

pub swap_remove_at : {X : Type 0} (xs : List X) (i : ℕ) (d : X) → i + 1 < length xs → get_or (swap_remove xs i d) i d ≡ get_or xs (length xs - 1) d
swap_remove_at xs i d within =
    get_or-take (length xs - 1) (set xs i (get_or xs (length xs - 1) d)) i d (omega arith)
    ∙ get_or-set_same xs i (get_or xs (length xs - 1) d) d (omega arith)

pub swap_remove_other : {X : Type 0} (xs : List X) (i k : ℕ) (d : X) → k + 1 < length xs → k ≢ i → get_or (swap_remove xs i d) k d ≡ get_or xs k d
swap_remove_other xs i k d within apart =
    get_or-take (length xs - 1) (set xs i (get_or xs (length xs - 1) d)) k d (omega arith)
    ∙ get_or-set_other xs i k (get_or xs (length xs - 1) d) d apart

-- what stands at a place other than the gap stood there before, and isn't the last
pub left_other : {X : Type 0} (xs : List X) (i k : ℕ) (d x : X) → k ≢ i → slice_get (swap_remove xs i d) k ≡ Some x → (slice_get xs k ≡ Some x) × (k + 1 < length xs)
left_other xs i k d x apart h =
    let within : k + 1 < length xs = omega (arith, slice_get_within (swap_remove xs i d) k x h, length-swap_remove xs i d) in
    (reads xs k x d (omega arith) (sym (swap_remove_other xs i k d within apart) ∙ get_or_from_slice_get (swap_remove xs i d) k x d h), within)

pub left_gap : {X : Type 0} (xs : List X) (i : ℕ) (d x : X) → slice_get (swap_remove xs i d) i ≡ Some x → (slice_get xs (length xs - 1) ≡ Some x) × (i + 1 < length xs)
left_gap xs i d x h =
    let within : i + 1 < length xs = omega (arith, slice_get_within (swap_remove xs i d) i x h, length-swap_remove xs i d) in
    (reads xs (length xs - 1) x d (omega arith) (sym (swap_remove_at xs i d within) ∙ get_or_from_slice_get (swap_remove xs i d) i x d h), within)

pub stays_other : {X : Type 0} (xs : List X) (i k : ℕ) (d x : X) → k ≢ i → k + 1 < length xs → slice_get xs k ≡ Some x → slice_get (swap_remove xs i d) k ≡ Some x
stays_other xs i k d x apart within h =
    reads (swap_remove xs i d) k x d (omega (arith, length-swap_remove xs i d)) (swap_remove_other xs i k d within apart ∙ get_or_from_slice_get xs k x d h)

pub moves_last : {X : Type 0} (xs : List X) (i : ℕ) (d x : X) → i + 1 < length xs → slice_get xs (length xs - 1) ≡ Some x → slice_get (swap_remove xs i d) i ≡ Some x
moves_last xs i d x within h =
    reads (swap_remove xs i d) i x d (omega (arith, length-swap_remove xs i d)) (swap_remove_at xs i d within ∙ get_or_from_slice_get xs (length xs - 1) x d h)

-- the default is never read where there is an element
pub swap_remove_default : {X : Type 0} (xs : List X) (i : ℕ) (d e : X) → i < length xs → swap_remove xs i d ≡ swap_remove xs i e
swap_remove_default xs i d e within = ap (λ x. take (length xs - 1) (set xs i x)) (get_or_default xs (length xs - 1) d e (omega arith))

pub swap_remove-map : {X Y : Type 0} (f : X → Y) (xs : List X) (i : ℕ) (d : X) (e : Y) → i < length xs → swap_remove (map f xs) i e ≡ map f (swap_remove xs i d)
swap_remove-map f xs i d e within =
    let n : length (map f xs) ≡ length xs = length-map xs f in
    let last : get_or (map f xs) (length xs - 1) e ≡ f (get_or xs (length xs - 1) d) = get_or-map f xs (length xs - 1) d e (omega arith) in
    ap (λ m. take (m - 1) (set (map f xs) i (get_or (map f xs) (m - 1) e))) n
    ∙ ap (λ y. take (length xs - 1) (set (map f xs) i y)) last
    ∙ ap (λ l. take (length xs - 1) l) (sym (map-set f xs i (get_or xs (length xs - 1) d)))
    ∙ take-map f (length xs - 1) (set xs i (get_or xs (length xs - 1) d))
