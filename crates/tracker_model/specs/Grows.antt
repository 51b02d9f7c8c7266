-- Calls that one caller made, in order, on one bucket or on several.
use Rattle.std.specs.Prelude.{◌≡◌, ◌≢◌, ◌<◌, ℕ, ◌==◌, List, [], ◌∷◌, ◌++◌, length, map, slice_index_or, slice_set}
use Rattle.std.specs.List.{filter, AllByRecursion}
use Rattle.tracker_model.specs.Legal.{IsLegalHistory}
use Rattle.tracker_model.specs.Settings.{Settings}
use Rattle.tracker_model.specs.declared.entry.Entry.{Entry}

-- a call with its answer, and the number of the bucket that it was made on
pub record Move : Type 0 where
  pub bucket : ℕ
  pub entry : Entry

-- the history of a bucket, with the oldest entry first
abbrev pub history_at : List (List Entry) → ℕ → List Entry
history_at histories bucket = slice_index_or histories bucket []

-- a caller made a call: its bucket's history goes on with entries that came between, and then with
-- the call, which is answered right just there. The histories of all other buckets stay
pub record Step
    (Between : List Entry → Type 0) (g : Settings) (caller : ℕ)
    (old : List (List Entry)) (move : Move) (new : List (List Entry)) : Type 0 where
  pub others : List Entry
  pub own : move.entry.caller ≡ caller
  pub between : Between others
  pub within : move.bucket < length old
  pub grown : new ≡ slice_set old move.bucket
      (history_at old move.bucket ++ (others ++ move.entry ∷ []))
  pub legal : IsLegalHistory g (history_at new move.bucket)

-- a caller made these calls, in this order: the histories of all buckets before and after them
abbrev pub Grows : (List Entry → Type 0) → Settings → (caller : ℕ) →
    (old : List (List Entry)) → List Move → (new : List (List Entry)) → Type 0
Grows Between g caller old [] new = new ≡ old
Grows Between g caller old (move ∷ moves) new =
    (middle : List (List Entry)) × Step Between g caller old move middle ×
    Grows Between g caller middle moves new

-- nothing comes between the calls of a caller that is alone
abbrev pub NoneBetween : List Entry → Type 0
NoneBetween others = others ≡ []

-- what comes between the calls of one caller among several are calls of the others
abbrev pub OthersBetween : ℕ → List Entry → Type 0
OthersBetween caller others = AllByRecursion (λ x. x.caller ≢ caller) others

-- calls of a caller that is alone
abbrev pub GrowsAlone : Settings → (caller : ℕ) →
    (old : List (List Entry)) → List Move → (new : List (List Entry)) → Type 0
GrowsAlone g caller old moves new = Grows NoneBetween g caller old moves new

-- calls of one caller among several
abbrev pub GrowsAmong : Settings → (caller : ℕ) →
    (old : List (List Entry)) → List Move → (new : List (List Entry)) → Type 0
GrowsAmong g caller old moves new = Grows (OthersBetween caller) g caller old moves new

-- the entries of the calls on one bucket, in order
abbrev pub entries_in : ℕ → List Move → List Entry
entries_in bucket moves = map (λ move. move.entry) (filter (λ move. move.bucket == bucket) moves)

-- the entries of one caller, in order
abbrev pub entries_by : ℕ → List Entry → List Entry
entries_by caller history = filter (λ x. x.caller == caller) history
