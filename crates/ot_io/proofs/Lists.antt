-- Elements of lists.
use Rattle.std.proofs.Common.{List, [], ◌∷◌, ◌++◌, Bool, true, false}
use Rattle.std.specs.Prelude.{cond}
use Rattle.std.specs.List.{All}
use Rattle.std.proofs.lemmas.List.Elements.{All-push}

pub All-pushed : {X : Type 0} (P : X → Type 0) (ok : Bool) (xs : List X) (x : X) → All P xs → P x → All P (cond ok (xs ++ x ∷ []) xs)
All-pushed P true xs x all one = All-push P xs x all one
All-pushed P false xs x all one = all
