-- Locks and turns that are closed, in order.
use Rattle.std.proofs.Common.{◌≡◌, ℕ, suc, ◌+◌, ◌<◌, List, [], ◌∷◌, ◌++◌, All, length, map, get_or, take, refl, sym, ap, ◌∙◌, arith}
use Rattle.std.specs.List.{AllZip, sum_by, zip}
use Rattle.std.proofs.lemmas.List.{map_more}
use Rattle.std.proofs.lemmas.List.Elements.{All-get_or, All-push}
use Rattle.std.proofs.lemmas.List.Sums.{sum_by-append, sum_by-cons}
use Rattle.std.proofs.lemmas.Slice.Zip.{get_or-zip, length-zip}
use Rattle.tracker_model.specs.Settings.{Settings}
use Rattle.tracker_model.specs.Shape.{Shape}
use Rattle.tracker_model.specs.Stands.{StandsFor}
use Rattle.tracker_model.specs.declared.entry.Entry.{Entry}
use Rattle.turn_lock.specs.Shape.{LockShape, TurnShape}
use Rattle.shards.specs.Shape.{numbers_of}
use Rattle.shards.proofs.SettingsLemmas.{settings_from_numbers}
use Rattle.shards.proofs.TurnLemmas.{seen_of}

pub all_zip_push : {A B : Type 0} (R : A → B → Type 0) (xs : List A) (ys : List B) (x : A) (y : B) → AllZip R xs ys → R x y → AllZip R (xs ++ x ∷ []) (ys ++ y ∷ [])
all_zip_push R [] [] x y all here = (here, tt)
all_zip_push R [] (b ∷ ys) x y all here = absurd all
all_zip_push R (a ∷ xs) [] x y all here = absurd all
all_zip_push R (a ∷ xs) (b ∷ ys) x y all here = (all.0, all_zip_push R xs ys x y all.1 here)

-- a lock and its turn, at a place
pub record IsPairAt (locks : List LockShape) (turns : List TurnShape) (n : ℕ) (lock : LockShape) (turn : TurnShape) : Type 0 where
  pub lock_within : n < length locks
  pub turn_within : n < length turns
  pub lock_is : lock ≡ get_or locks n lock
  pub turn_is : turn ≡ get_or turns n turn

pub pair_at : (locks : List LockShape) (turns : List TurnShape) (n : ℕ) (lock : LockShape) (turn : TurnShape) → (n < length (zip locks turns)) × ((lock, turn) ≡ get_or (zip locks turns) n (lock, turn)) → IsPairAt locks turns n lock turn
pair_at locks turns n lock turn found =
    let long = length-zip locks turns in
    let within = found.0 in
    let in_locks : n < length locks = omega arith in
    let in_turns : n < length turns = omega arith in
    let both = found.1 ∙ get_or-zip locks turns n (lock, turn) in_locks in_turns in
    record {
      lock_within = in_locks;
      turn_within = in_turns;
      lock_is = ap (λ (pair : LockShape × TurnShape). pair.0) both;
      turn_is = ap (λ (pair : LockShape × TurnShape). pair.1) both;
    }

-- the histories that the first turns have seen
abbrev pub seen_by : ℕ → List TurnShape → List (List Entry)
seen_by n turns = map seen_of (take n turns)

module _ (turns : List TurnShape) (n : ℕ) (turn : TurnShape) (within : n < length turns) (read : turn ≡ get_or turns n turn) where
  next_seen : seen_by (n + 1) turns ≡ seen_by n turns ++ turn.seen ∷ []
  next_seen = map_more seen_of turns n turn within ∙ ap (λ (t : TurnShape). seen_by n turns ++ t.seen ∷ []) (sym read)

  pub stand_more : (buckets : List Shape) (bucket : Shape) → AllZip StandsFor (seen_by n turns) buckets → StandsFor turn.seen bucket → AllZip StandsFor (seen_by (n + 1) turns) (buckets ++ bucket ∷ [])
  stand_more buckets bucket stand here = rw next_seen (all_zip_push StandsFor (seen_by n turns) buckets turn.seen bucket stand here)

  pub calls_more : sum_by length (seen_by (n + 1) turns) ≡ sum_by length (seen_by n turns) + length turn.seen
  calls_more =
      let both = sum_by-append length (seen_by n turns) (turn.seen ∷ []) in
      let last = sum_by-cons length turn.seen [] in
      rw next_seen (omega arith)

-- buckets of the settings of all locks
pub settings_more : (g : Settings) (locks : List LockShape) (n : ℕ) (lock : LockShape) (buckets : List Shape) (bucket : Shape) → n < length locks → lock ≡ get_or locks n lock → numbers_of bucket.settings ≡ lock.settings →
    All (λ l. l.settings ≡ numbers_of g) locks → All (λ b. b.settings ≡ g) buckets → All (λ b. b.settings ≡ g) (buckets ++ bucket ∷ [])
settings_more g locks n lock buckets bucket within read numbers all so_far =
    let there : lock.settings ≡ numbers_of g = ap (λ (l : LockShape). l.settings) read ∙ All-get_or (λ (l : LockShape). l.settings ≡ numbers_of g) locks n lock within all in
    All-push (λ (b : Shape). b.settings ≡ g) buckets bucket so_far (settings_from_numbers bucket.settings g (numbers ∙ there))

pub zip_length : {A B : Type 0} (R : A → B → Type 0) (xs : List A) (ys : List B) → AllZip R xs ys → length xs ≡ length ys
zip_length R [] [] all = refl
zip_length R [] (y ∷ ys) all = absurd all
zip_length R (x ∷ xs) [] all = absurd all
zip_length R (x ∷ xs) (y ∷ ys) all = ap suc (zip_length R xs ys all.1)
