-- Turns at all locks, as one list.
use Rattle.std.proofs.Common.{◌≡◌, ℕ, zero, suc, ◌+◌, ◌<◌, List, [], ◌∷◌, ◌++◌, All, length, map, get_or, set, take, drop, refl, sym, ap, subst, ◌∙◌, arith}
use Rattle.std.proofs.lemmas.List.{drop_more, get_or-map, get_or_at, length-map, length-take-le}
use Rattle.std.proofs.lemmas.List.Elements.{All-get_or}
use Rattle.tracker_model.specs.declared.entry.Entry.{Entry}
use Rattle.turn_lock.specs.Shape.{LockShape, TurnShape}
use Rattle.shards.specs.Shape.{joined_of}

abbrev pub lock_of : TurnShape → LockShape
lock_of turn = turn.lock

abbrev pub seen_of : TurnShape → List Entry
seen_of turn = turn.seen

-- what holds of all locks holds of the lock of each turn
pub locks_hold : (P : LockShape → Type 0) (turns : List TurnShape) → All P (map lock_of turns) → All (λ turn. P turn.lock) turns
locks_hold P turns all k d within =
    subst P (get_or-map lock_of turns k d d.lock within) (all k d.lock (rw (length-map turns lock_of) within))

-- turns that stay at their locks
pub locks_stay : (f : TurnShape → TurnShape) → ((turn : TurnShape) → (f turn).lock ≡ turn.lock) → (turns : List TurnShape) → map lock_of (map f turns) ≡ map lock_of turns
locks_stay f same [] = refl
locks_stay f same (turn ∷ turns) = λ k. same turn k ∷ locks_stay f same turns k

-- turns that have seen what they had
pub seen_stays : (f : TurnShape → TurnShape) → ((turn : TurnShape) → (f turn).seen ≡ turn.seen) → (turns : List TurnShape) → map seen_of (map f turns) ≡ map seen_of turns
seen_stays f same [] = refl
seen_stays f same (turn ∷ turns) = λ k. same turn k ∷ seen_stays f same turns k

-- the turn of a place
pub read_all : (P : TurnShape → Type 0) (turns : List TurnShape) (i : ℕ) (turn : TurnShape) → i < length turns → turn ≡ get_or turns i turn → All P turns → P turn
read_all P turns i turn within read all = subst P (sym read) (All-get_or P turns i turn within all)

-- the next turn, where those before it have changed
pub next_turn : (f : TurnShape → TurnShape) (turns : List TurnShape) (i : ℕ) (d : TurnShape) → i < length turns → get_or (map f (take i turns) ++ drop i turns) i d ≡ get_or turns i d
next_turn f turns i d within =
    let long : length (map f (take i turns)) ≡ i = length-map (take i turns) f ∙ length-take-le i turns (omega arith) in
    rw (drop_more turns i d within) (get_or_at (map f (take i turns)) (get_or turns i d) (drop (i + 1) turns) d i long)

-- ---- the numbers that were joined

pub joined_first : (turns : List TurnShape) (d : TurnShape) → 0 < length turns → joined_of turns ≡ (get_or turns 0 d).joined
joined_first [] d some = absurd (omega arith)
joined_first (turn ∷ turns) d some = refl

pub joined_set : (turns : List TurnShape) (i : ℕ) (turn new : TurnShape) → turn ≡ get_or turns i turn → new.joined ≡ turn.joined → joined_of (set turns i new) ≡ joined_of turns
joined_set [] i turn new read same = refl
joined_set (first ∷ turns) zero turn new read same = same ∙ ap (λ (t : TurnShape). t.joined) read
joined_set (first ∷ turns) (suc i) turn new read same = refl

pub joined_stay : (f : TurnShape → TurnShape) → ((turn : TurnShape) → (f turn).joined ≡ turn.joined) → (turns : List TurnShape) → joined_of (map f turns) ≡ joined_of turns
joined_stay f same [] = refl
joined_stay f same (turn ∷ turns) = same turn

pub none_joined : {A : Type 0} (f : A → TurnShape) → ((a : A) → (f a).joined ≡ []) → (list : List A) → joined_of (map f list) ≡ []
none_joined f none [] = refl
none_joined f none (a ∷ list) = none a
