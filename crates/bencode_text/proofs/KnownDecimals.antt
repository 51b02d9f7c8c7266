-- The decimal digits of some numbers, for the exact texts of callers.
use Rattle.std.proofs.Common.{◌≡◌, [], ◌∷◌, refl}
use Rattle.std.specs.Fmt.{digits, decimal}

pub decimal_5 : decimal 5 ≡ 53 ∷ []
unfolding digits
decimal_5 = refl

pub decimal_8 : decimal 8 ≡ 56 ∷ []
unfolding digits
decimal_8 = refl

pub decimal_10 : decimal 10 ≡ 49 ∷ 48 ∷ []
unfolding digits
decimal_10 = refl

pub decimal_12 : decimal 12 ≡ 49 ∷ 50 ∷ []
unfolding digits
decimal_12 = refl

pub decimal_14 : decimal 14 ≡ 49 ∷ 52 ∷ []
unfolding digits
decimal_14 = refl

pub decimal_17 : decimal 17 ≡ 49 ∷ 55 ∷ []
unfolding digits
decimal_17 = refl

pub decimal_20 : decimal 20 ≡ 50 ∷ 48 ∷ []
unfolding digits
decimal_20 = refl

pub decimal_900 : decimal 900 ≡ 57 ∷ 48 ∷ 48 ∷ []
unfolding digits
decimal_900 = refl

pub decimal_1800 : decimal 1800 ≡ 49 ∷ 56 ∷ 48 ∷ 48 ∷ []
unfolding digits
decimal_1800 = refl

pub ruleset known_decimals = (decimal_5, decimal_8, decimal_10, decimal_12, decimal_14, decimal_17, decimal_20, decimal_900, decimal_1800)
