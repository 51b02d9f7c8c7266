-- What was written is read again.
use Rattle.std.proofs.Common.{◌≡◌, ◌≤◌, ℕ, zero, suc, ◌+◌, ◌-◌, ◌*◌, ◌/◌, ◌%◌, List, [], ◌∷◌, ◌++◌, Some, length, refl, ap, arith, append_assoc, length-append}
use Rattle.std.specs.List.{All, flat_map}
use Rattle.std.proofs.lemmas.Bool.{le-leb}
use Rattle.std.proofs.lemmas.List.Elements.{All-head, All-tail}
use Rattle.udp_wire.specs.Places.{row_at, count_after}

-- the first of the items, and those after it
row_at-first : {X : Type 0} (item : ℕ → List ℕ → X) (place size n : ℕ) (bytes : List ℕ)
    → row_at item place size (suc n) bytes ≡ item place bytes ∷ row_at item (place + size) size n bytes
row_at-first item place size zero bytes =
    let e : place + size * 0 ≡ place = omega arith in ap (λ p. item p bytes ∷ []) e
row_at-first item place size (suc n) bytes =
    let e : place + size * suc n ≡ place + size + size * n = grind arith in
    rw (row_at-first item place size n bytes) (ap (λ p. item place bytes ∷ (row_at item (place + size) size n bytes ++ item p bytes ∷ [])) e)

-- an item of this size that is read again wherever it was written
pub record IsReadAgain {X : Type 0} (item : ℕ → List ℕ → X) (written : X → List ℕ) (size : ℕ) (x : X) : Type 0 where
  pub size_is : length (written x) ≡ size
  pub read : (front back : List ℕ) → item (length front) (front ++ (written x ++ back)) ≡ x

-- items of one size that were written one after the other
pub row_again : {X : Type 0} (item : ℕ → List ℕ → X) (written : X → List ℕ) (size : ℕ) (xs : List X) (front : List ℕ) (place : ℕ)
    → place ≡ length front → All (IsReadAgain item written size) xs
    → row_at item place size (length xs) (front ++ flat_map written xs) ≡ xs
row_again item written size [] front place e all = refl
row_again item written size (x ∷ xs) front place e all =
    let here = All-head (IsReadAgain item written size) x xs all in
    let first : item place (front ++ (written x ++ flat_map written xs)) ≡ x = rw e (here.read front (flat_map written xs)) in
    let after : place + size ≡ length (front ++ written x) = omega (arith, length-append front (written x), here.size_is) in
    let rest = row_again item written size xs (front ++ written x) (place + size) after (All-tail (IsReadAgain item written size) x xs all) in
    rw (row_at-first item place size (length xs) (front ++ (written x ++ flat_map written xs)), first)
    (ap (λ l. x ∷ l) (rw append_assoc at rest))

-- how long items of one size are together
pub length-row : {X : Type 0} (written : X → List ℕ) (size : ℕ) (xs : List X)
    → All (λ x. length (written x) ≡ size) xs → length (flat_map written xs) ≡ size * length xs
length-row written size [] all = omega arith
length-row written size (x ∷ xs) all =
    let here = All-head (λ x. length (written x) ≡ size) x xs all in
    let rest = length-row written size xs (All-tail (λ x. length (written x) ≡ size) x xs all) in
    let sum = length-append (written x) (flat_map written xs) in
    grind arith

-- a whole number of items, and no more than may be
pub count_after-whole : (head size most len n : ℕ) → head ≤ len → (len - head) % size ≡ 0 → (len - head) / size ≡ n → n ≤ most
    → count_after head size most len ≡ Some n
count_after-whole head size most len n long whole count fits =
    rw (le-leb head len long, whole, count, le-leb n most fits) refl
