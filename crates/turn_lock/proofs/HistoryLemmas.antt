-- How histories go on.
use Rattle.std.proofs.Common.{◌≡◌, ◌≢◌, ◌⊎◌, ◌+◌, ◌<◌, ◌≤◌, ℕ, List, [], ◌∷◌, ◌++◌, length, refl, sym, ap, ◌∙◌, subst, inl, inr, ⊎_elim, append-nil, append_assoc, length-append, arith}
use Rattle.std.specs.List.{AllByRecursion}
use Rattle.std.proofs.lemmas.List.{append_cancel_left}
use native.Mathlib.Decide.{dec_le}
use Rattle.tracker_model.specs.Grows.{OthersBetween}
use Rattle.tracker_model.specs.declared.entry.Entry.{Entry}
use Rattle.turn_lock.specs.Histories.{NoneBy, GoesOn, AllBelow}

module _ {A : Type 0} where
  pub all_append : (P : A → Type 0) (xs ys : List A) → AllByRecursion P xs → AllByRecursion P ys → AllByRecursion P (xs ++ ys)
  all_append P [] ys left right = right
  all_append P (x ∷ xs) ys left right = (left.0, all_append P xs ys left.1 right)

  pub all_left : (P : A → Type 0) (xs ys : List A) → AllByRecursion P (xs ++ ys) → AllByRecursion P xs
  all_left P [] ys all = tt
  all_left P (x ∷ xs) ys all = (all.0, all_left P xs ys all.1)

  pub all_right : (P : A → Type 0) (xs ys : List A) → AllByRecursion P (xs ++ ys) → AllByRecursion P ys
  all_right P [] ys all = all
  all_right P (x ∷ xs) ys all = all_right P xs ys all.1

  pub all_weaker : (P Q : A → Type 0) → ((a : A) → P a → Q a) → (xs : List A) → AllByRecursion P xs → AllByRecursion Q xs
  all_weaker P Q weaker [] all = tt
  all_weaker P Q weaker (x ∷ xs) all = (weaker x all.0, all_weaker P Q weaker xs all.1)

  -- the shorter of two beginnings of one list begins the longer
  pub shorter_first : (xs ys p q : List A) → xs ++ p ≡ ys ++ q → length xs ≤ length ys → (r : List A) × (ys ≡ xs ++ r) × (p ≡ r ++ q)
  shorter_first [] ys p q e le = (ys, refl, e)
  shorter_first (x ∷ xs) [] p q e le = absurd (omega arith)
  shorter_first (x ∷ xs) (y ∷ ys) p q e le =
      let same : x ≡ y = cc in
      let rest : xs ++ p ≡ ys ++ q = cc in
      let more = shorter_first xs ys p q rest (omega arith) in
      (more.0, (λ k. sym same k ∷ more.1 k), more.2)

pub none_nil : (callers : List ℕ) → NoneBy callers []
none_nil [] = tt
none_nil (c ∷ cs) = (tt, none_nil cs)

pub none_append : (callers : List ℕ) (xs ys : List Entry) → NoneBy callers xs → NoneBy callers ys → NoneBy callers (xs ++ ys)
none_append [] xs ys left right = tt
none_append (c ∷ cs) xs ys left right = (all_append (λ (x : Entry). x.caller ≢ c) xs ys left.0 right.0, none_append cs xs ys left.1 right.1)

pub none_left : (callers : List ℕ) (xs ys : List Entry) → NoneBy callers (xs ++ ys) → NoneBy callers xs
none_left callers xs ys all = all_weaker (λ c. OthersBetween c (xs ++ ys)) (λ c. OthersBetween c xs) (λ c. all_left (λ (x : Entry). x.caller ≢ c) xs ys) callers all

pub none_right : (callers : List ℕ) (xs ys : List Entry) → NoneBy callers (xs ++ ys) → NoneBy callers ys
none_right callers xs ys all = all_weaker (λ c. OthersBetween c (xs ++ ys)) (λ c. OthersBetween c ys) (λ c. all_right (λ (x : Entry). x.caller ≢ c) xs ys) callers all

none_one : (callers : List ℕ) (x : Entry) → AllByRecursion (λ n. n ≢ x.caller) callers → NoneBy callers (x ∷ [])
none_one callers x all = all_weaker (λ n. n ≢ x.caller) (λ c. OthersBetween c (x ∷ [])) (λ n ne. ((λ e. ne (sym e)), tt)) callers all

pub goes_nowhere : (callers : List ℕ) (old new : List Entry) → old ≡ new → GoesOn callers old new
goes_nowhere callers old new same = record { others = []; grown = sym same ∙ sym (append-nil old); apart = none_nil callers }

-- an entry more, of none of these callers
pub goes_further : (callers : List ℕ) (old new : List Entry) (x : Entry) → AllByRecursion (λ n. n ≢ x.caller) callers → GoesOn callers old new → GoesOn callers old (new ++ x ∷ [])
goes_further callers old new x apart goes = record {
  others = goes.others ++ x ∷ [];
  grown = ap (λ l. l ++ x ∷ []) goes.grown ∙ append_assoc old goes.others (x ∷ []);
  apart = none_append callers goes.others (x ∷ []) goes.apart (none_one callers x apart);
}

pub goes_length : (callers : List ℕ) (old new : List Entry) → GoesOn callers old new → length old ≤ length new
goes_length callers old new goes = let sum : length new ≡ length old + length goes.others = ap length goes.grown ∙ length-append old goes.others in omega arith

empty : (l : List Entry) → length l ≡ 0 → l ≡ []
empty [] e = refl
empty (x ∷ l) e = absurd (omega arith)

pub goes_whole : (callers : List ℕ) (old new : List Entry) → GoesOn callers old new → length new ≤ length old → old ≡ new
goes_whole callers old new goes le =
    let sum : length new ≡ length old + length goes.others = ap length goes.grown ∙ length-append old goes.others in
    let none = empty goes.others (omega arith) in
    sym (goes.grown ∙ ap (λ l. old ++ l) none ∙ append-nil old)

pub below_before : (n : ℕ) (callers : List ℕ) (old new : List Entry) → GoesOn callers old new → AllBelow n new → AllBelow n old
below_before n callers old new goes below = let P : Entry → Type 0 = λ x. x.caller < n in all_left P old goes.others (subst (AllByRecursion P) goes.grown below)

-- two beginnings of one history, of which the longer was found
pub record Longer (cs ds : List ℕ) (xs ys log : List Entry) : Type 0 where
  pub longer : List Entry
  pub one_of : (longer ≡ xs) ⊎ (longer ≡ ys)
  pub from_first : GoesOn cs xs longer
  pub from_second : GoesOn ds ys longer
  pub first_behind : GoesOn cs longer log
  pub second_behind : GoesOn ds longer log

goes_between : (cs : List ℕ) (xs ys log : List Entry) (goes : GoesOn cs xs log) (r q : List Entry) → ys ≡ xs ++ r → goes.others ≡ r ++ q → log ≡ ys ++ q → GoesOn cs xs ys × GoesOn cs ys log
goes_between cs xs ys log goes r q is parts rest =
    let both = subst (NoneBy cs) parts goes.apart in
    (record { others = r; grown = is; apart = none_left cs r q both }, record { others = q; grown = rest; apart = none_right cs r q both })

compare_by : (cs ds : List ℕ) (xs ys log : List Entry) → GoesOn cs xs log → GoesOn ds ys log → Dec (length xs ≤ length ys) → Longer cs ds xs ys log
compare_by cs ds xs ys log a b (yes le) =
    let split = shorter_first xs ys a.others b.others (sym a.grown ∙ b.grown) le in
    let parts = goes_between cs xs ys log a split.0 b.others split.1 split.2 b.grown in
    record { longer = ys; one_of = inr refl; from_first = parts.0; from_second = goes_nowhere ds ys ys refl; first_behind = parts.1; second_behind = b }
compare_by cs ds xs ys log a b (no more) =
    let split = shorter_first ys xs b.others a.others (sym b.grown ∙ a.grown) (omega arith) in
    let parts = goes_between ds ys xs log b split.0 a.others split.1 split.2 a.grown in
    record { longer = xs; one_of = inl refl; from_first = goes_nowhere cs xs xs refl; from_second = parts.0; first_behind = a; second_behind = parts.1 }

pub compare_histories : (cs ds : List ℕ) (xs ys log : List Entry) → GoesOn cs xs log → GoesOn ds ys log → Longer cs ds xs ys log
compare_histories cs ds xs ys log a b = compare_by cs ds xs ys log a b (dec_le (length xs) (length ys))

-- a turn's number is any that no entry has
pub below_none : (n number : ℕ) (history : List Entry) → n ≤ number → AllBelow n history → OthersBetween number history
below_none n number history le below = all_weaker (λ (x : Entry). x.caller < n) (λ (x : Entry). x.caller ≢ number) (λ x lt e. absurd (omega arith)) history below

-- two histories that go on to one, by the numbers of both
pub goes_both : (caller number : ℕ) (joined : List ℕ) (old new : List Entry) → GoesOn (caller ∷ joined) old new → GoesOn (number ∷ []) old new → GoesOn (caller ∷ number ∷ joined) old new
goes_both caller number joined old new a b =
    let same : b.others ≡ a.others = append_cancel_left old b.others a.others (sym b.grown ∙ a.grown) in
    record { others = a.others; grown = a.grown; apart = (a.apart.0, (subst (OthersBetween number) same b.apart.0, a.apart.1)) }

-- the longer of two is the whole history, where one of them is
pub longer_whole : (cs ds : List ℕ) (xs ys log : List Entry) (both : Longer cs ds xs ys log) → (xs ≡ log) ⊎ (ys ≡ log) → both.longer ≡ log
longer_whole cs ds xs ys log both whole =
    ⊎_elim
    (λ (is : xs ≡ log). let le = goes_length cs xs both.longer both.from_first in let same : length xs ≡ length log = ap length is in goes_whole cs both.longer log both.first_behind (omega arith))
    (λ (is : ys ≡ log). let le = goes_length ds ys both.longer both.from_second in let same : length ys ≡ length log = ap length is in goes_whole ds both.longer log both.second_behind (omega arith))
    whole
