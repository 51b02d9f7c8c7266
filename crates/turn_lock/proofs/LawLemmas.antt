-- What the definitions of histories say of each caller's entries.
use Rattle.std.proofs.Common.{◌≡◌, ℕ, cond, ◌==◌, List, [], ◌∷◌, ◌++◌, refl, ap, ◌∙◌, append_assoc, append-nil, ne_eqb, eq-eqb}
use Rattle.std.specs.List.{AllByRecursion}
use Rattle.std.proofs.lemmas.List.Elements.{filter-append}
use Rattle.tracker_model.specs.Grows.{OthersBetween, entries_by}
use Rattle.tracker_model.specs.declared.entry.Entry.{Entry}
use Rattle.turn_lock.specs.Histories.{GoesOn}
use Rattle.turn_lock.proofs.HistoryLemmas.{all_weaker, none_append}

none_of : (caller : ℕ) (others : List Entry) → OthersBetween caller others → entries_by caller others ≡ []
none_of caller [] apart = refl
none_of caller (x ∷ others) apart = ap (λ b. cond b (x ∷ entries_by caller others) (entries_by caller others)) (ne_eqb x.caller caller apart.0) ∙ none_of caller others apart.1

pub none_added : (callers : List ℕ) (old new : List Entry) → GoesOn callers old new → AllByRecursion (λ caller. entries_by caller new ≡ entries_by caller old) callers
none_added callers old new goes =
    all_weaker (λ c. OthersBetween c goes.others) (λ c. entries_by c new ≡ entries_by c old)
    (λ c apart. ap (entries_by c) goes.grown ∙ filter-append (λ x. x.caller == c) old goes.others ∙ ap (λ l. entries_by c old ++ l) (none_of c goes.others apart) ∙ append-nil (entries_by c old))
    callers goes.apart

pub goes_twice : (callers : List ℕ) (first second third : List Entry) → GoesOn callers first second → GoesOn callers second third → GoesOn callers first third
goes_twice callers first second third a b = record {
  others = a.others ++ b.others;
  grown = b.grown ∙ ap (λ l. l ++ b.others) a.grown ∙ append_assoc first a.others b.others;
  apart = none_append callers a.others b.others a.apart b.apart;
}

pub own_added : (history : List Entry) (x : Entry) → entries_by x.caller (history ++ x ∷ []) ≡ entries_by x.caller history ++ x ∷ []
own_added history x =
    let c : ℕ = x.caller in
    filter-append (λ y. y.caller == c) history (x ∷ [])
    ∙ ap (λ b. entries_by c history ++ cond b (x ∷ []) []) (eq-eqb c c refl)
