-- The hashes of a scrape: how many there are, and which stands at a place.
use Rattle.std.proofs.Common.{◌≡◌, ℕ, zero, suc, ◌+◌, ◌*◌, ◌<◌, inl, inr, List, [], ◌∷◌, ◌++◌, Some, sym, ◌∙◌, ap, refl, length, arith, length-append}
use Rattle.std.specs.List.{slice_get}
use Rattle.std.proofs.lemmas.Bool.{cases_lt}
use Rattle.std.proofs.lemmas.Option.{none-some}
use Rattle.udp_wire.specs.Hashes.{hash_at, hashes_of}

pub length-hashes_of : (n : ℕ) (bytes : List ℕ) → length (hashes_of n bytes) ≡ n
length-hashes_of zero bytes = refl
length-hashes_of (suc n) bytes =
    omega (arith, length-hashes_of n bytes, length-append (hashes_of n bytes) (hash_at (16 + 20 * n) bytes ∷ []))

-- what stands in a list stands there also before one more
before_last : {X : Type 0} (xs : List X) (y x : X) (i : ℕ) → slice_get xs i ≡ Some x → slice_get (xs ++ y ∷ []) i ≡ Some x
before_last [] y x i h = absurd (none-some x h)
before_last (z ∷ zs) y x zero h = h
before_last (z ∷ zs) y x (suc i) h = before_last zs y x i h

last : {X : Type 0} (xs : List X) (y : X) → slice_get (xs ++ y ∷ []) (length xs) ≡ Some y
last [] y = refl
last (z ∷ zs) y = last zs y

pub hash_in : (n i : ℕ) (bytes : List ℕ) → i < n → slice_get (hashes_of n bytes) i ≡ Some (hash_at (16 + 20 * i) bytes)
hash_in zero i bytes below = absurd (omega arith)
hash_in (suc n) i bytes below =
    elim (cases_lt i n) [
      | inl before ↦ before_last (hashes_of n bytes) (hash_at (16 + 20 * n) bytes) (hash_at (16 + 20 * i) bytes) i (hash_in n i bytes before)
      | inr past ↦
          let same : n ≡ i = omega arith in
          ap (λ k. slice_get (hashes_of (suc n) bytes) k) (sym same ∙ sym (length-hashes_of n bytes))
          ∙ last (hashes_of n bytes) (hash_at (16 + 20 * n) bytes)
          ∙ ap (λ k. Some (hash_at (16 + 20 * k) bytes)) same
    ]
