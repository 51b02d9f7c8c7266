-- Addresses as bytes.
use Rattle.std.proofs.Common.{◌≡◌, ℕ, List, [], ◌∷◌, ◌∙◌, ap, sym, arith, length, get_or, drop}
use Rattle.std.proofs.Math.Seq.{drop-cons}
use Rattle.std.proofs.lemmas.List.{drop_all}

-- the last four of 16 bytes
pub last_four : (xs : List ℕ) → length xs ≡ 16 → get_or xs 12 0 ∷ get_or xs 13 0 ∷ get_or xs 14 0 ∷ get_or xs 15 0 ∷ [] ≡ drop 12 xs
last_four xs e =
    sym (drop-cons xs 12 0 (omega arith)
    ∙ ap (λ l. get_or xs 12 0 ∷ l) (drop-cons xs 13 0 (omega arith)
    ∙ ap (λ l. get_or xs 13 0 ∷ l) (drop-cons xs 14 0 (omega arith)
    ∙ ap (λ l. get_or xs 14 0 ∷ l) (drop-cons xs 15 0 (omega arith)
    ∙ ap (λ l. get_or xs 15 0 ∷ l) (drop_all 16 xs (omega arith))))))
