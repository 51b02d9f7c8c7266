-- What holds of a pass holds of it after each call.
use Rattle.std.proofs.Common.{◌≡◌, ℕ, ◌+◌, ◌<◌, ◌^◌, true, false, List, [], ◌∷◌, ◌++◌, All, length, map, get_or, set, refl, sym, ap, subst, ◌∙◌, arith, append_assoc}
use Rattle.std.proofs.Math.Seq.{map-set_same}
use Rattle.std.proofs.lemmas.List.{get_or-map, get_or-set_same, length-map, length-set, map-set}
use Rattle.std.proofs.lemmas.List.Elements.{All-map, All-set, All-weaker}
use Rattle.std.proofs.lemmas.Nat.{pow_pos}
use Rattle.tracker_model.specs.Grows.{Step, history_at}
use Rattle.tracker_model.specs.Legal.{IsLegalHistory}
use Rattle.tracker_model.specs.Settings.{Settings}
use Rattle.tracker_model.specs.declared.entry.Entry.{Entry}
use Rattle.turn_lock.specs.Histories.{AllBelow, GoesOn, NoneBy}
use Rattle.turn_lock.specs.Shape.{LockShape, TurnShape, IsSpare, first_turn, new_turn}
use Rattle.shards.specs.Shape.{AreShards, IsAlike, IsLockFor, IsPass, ShardsShape, joined_of}
use Rattle.shards.proofs.TurnLemmas.{lock_of, seen_of, locks_hold, locks_stay, read_all, joined_set, joined_stay, none_joined}

-- ---- a turn that has seen more

module _ (turns : List TurnShape) (i : ℕ) (turn new : TurnShape) (within : i < length turns) (read : turn ≡ get_or turns i turn) where
  pub pass_with : (shards : ShardsShape) (caller free out : ℕ) → IsPass shards caller free out turns → new ≡ record turn { seen = new.seen } → (caller ≡ 0 → AllBelow free new.seen) → IsPass shards caller free out (set turns i new)
  pass_with shards caller free out pass same below =
      let joined = joined_set turns i turn new read (ap (λ (t : TurnShape). t.joined) same) in
      let P : TurnShape → Type 0 = IsAlike caller free (joined_of turns) out in
      let old = read_all P turns i turn within read pass.alike in
      let mine : P new = record {
        caller_is = ap (λ (t : TurnShape). t.caller) same ∙ old.caller_is;
        free_is = ap (λ (t : TurnShape). t.free) same ∙ old.free_is;
        joined_are = ap (λ (t : TurnShape). t.joined) same ∙ old.joined_are;
        out_is = ap (λ (t : TurnShape). t.out) same ∙ old.out_is;
        rests = ap (λ (t : TurnShape). t.holds) same ∙ old.rests;
        not_free = below;
      } in
      record {
        known = pass.known;
        locks_are = map-set_same lock_of turns i new turn (ap lock_of same ∙ ap lock_of read) ∙ pass.locks_are;
        alike = subst (λ numbers. All (IsAlike caller free numbers out) (set turns i new)) (sym joined) (All-set P turns i new mine pass.alike);
        few_out = pass.few_out;
        free_fits = pass.free_fits;
      }

  pub seen_with : map seen_of (set turns i new) ≡ set (map seen_of turns) i new.seen
  seen_with = map-set seen_of turns i new

  history_there : history_at (map seen_of turns) i ≡ turn.seen
  history_there = get_or-map seen_of turns i turn [] within ∙ ap seen_of (sym read)

  pub history_with : history_at (map seen_of (set turns i new)) i ≡ new.seen
  history_with =
      let there : i < length (set turns i new) = rw (length-set turns i new) within in
      get_or-map seen_of (set turns i new) i turn [] there ∙ ap seen_of (get_or-set_same turns i new turn within)

  pub made_step : (g : Settings) (callers : List ℕ) (seen : List Entry) (x : Entry) → GoesOn callers turn.seen seen → new.seen ≡ seen ++ x ∷ [] → IsLegalHistory g new.seen →
      Step (NoneBy callers) g x.caller (map seen_of turns) (record { bucket = i; entry = x }) (map seen_of (set turns i new))
  made_step g callers seen x on added legal = record {
    others = on.others;
    own = refl;
    between = on.apart;
    within = rw (length-map turns seen_of) within;
    grown = seen_with ∙ ap (λ history. set (map seen_of turns) i history) (
        added ∙ ap (λ history. history ++ x ∷ []) on.grown ∙ append_assoc turn.seen on.others (x ∷ []) ∙
        ap (λ history. history ++ (on.others ++ x ∷ [])) (sym history_there));
    legal = subst (IsLegalHistory g) (sym history_with) legal;
  }

-- a turn that was taken and given back, with an entry added
pub given_back : (turn kept new : TurnShape) (x : Entry) → turn.holds ≡ false → kept ≡ record turn { seen = kept.seen; holds = true } → new ≡ record kept { seen = kept.seen ++ x ∷ []; holds = false } → new ≡ record turn { seen = new.seen }
given_back turn kept new x rests taken given =
    given
    ∙ ap (λ (t : TurnShape). record t { seen = kept.seen ++ x ∷ []; holds = false }) taken
    ∙ (λ k. record turn { seen = sym (ap seen_of given) k; holds = sym rests k })

-- what is below a number is below the next one
below_more : (n : ℕ) (history : List Entry) → AllBelow n history → AllBelow (n + 1) history
below_more n [] below = tt
below_more n (x ∷ history) below = ((let first = below.0 in omega arith), below_more n history below.1)

-- what caller 0's pass has seen is of numbers that aren't free
pub seen_below : (shards : ShardsShape) (caller free out : ℕ) (turns : List TurnShape) → IsPass shards caller free out turns → caller ≡ 0 → All (AllBelow free) (map seen_of turns)
seen_below shards caller free out turns pass first =
    All-map (AllBelow free) seen_of turns (All-weaker (IsAlike caller free (joined_of turns) out) (λ (turn : TurnShape). AllBelow free turn.seen) (λ turn alike. alike.not_free first) turns pass.alike)

-- ---- the first pass

pub first_locks : (locks : List LockShape) → map lock_of (map first_turn locks) ≡ locks
first_locks [] = refl
first_locks (lock ∷ locks) = λ k. lock ∷ first_locks locks k

pub first_seen : (locks : List LockShape) → map seen_of (map first_turn locks) ≡ map (λ (lock : LockShape). []) locks
first_seen [] = refl
first_seen (lock ∷ locks) = λ k. [] ∷ first_seen locks k

pub first_is_pass : (shards : ShardsShape) → AreShards shards → IsPass shards 0 1 0 (map first_turn shards.locks)
first_is_pass shards known = record {
  known = known;
  locks_are = first_locks shards.locks;
  alike = subst (λ numbers. All (IsAlike 0 1 numbers 0) (map first_turn shards.locks)) (sym (none_joined first_turn (λ _. refl) shards.locks)) (All-map (IsAlike 0 1 [] 0) first_turn shards.locks (λ k d within. record { caller_is = refl; free_is = refl; joined_are = refl; out_is = refl; rests = refl; not_free = λ first. tt }));
  few_out = omega arith;
  free_fits = known.some_callers;
}

-- ---- a split

abbrev pub kept_turn : ℕ → TurnShape → TurnShape
kept_turn number turn = record turn { free = number + 1; out = turn.out + 1 }

abbrev pub split_turn : ℕ → TurnShape → TurnShape
split_turn number turn = new_turn turn.lock number turn.seen

module _ (shards : ShardsShape) (caller free out : ℕ) (turns : List TurnShape) (pass : IsPass shards caller free out turns) where
  -- each turn's lock has the callers of the shards
  pub locks_known : All (λ turn. IsLockFor shards.settings shards.callers turn.lock) turns
  locks_known = locks_hold (IsLockFor shards.settings shards.callers) turns (subst (All (IsLockFor shards.settings shards.callers)) (sym pass.locks_are) pass.known.each)

  pub count_is : length turns ≡ 2 ^ shards.bits
  count_is = sym (length-map turns lock_of) ∙ ap length pass.locks_are ∙ pass.known.buckets

  pub some_turns : 0 < length turns
  some_turns = rw count_is (pow_pos shards.bits)

  module _ (spare : free < shards.callers) where
    pub numbers_spare : All (λ turn. IsSpare turn free) turns
    numbers_spare k d within =
        let alike = pass.alike k d within in
        let lock = locks_known k d within in
        record { from = (let e = alike.free_is in omega arith); below = rw lock.callers_are spare }

    pub kept_is_pass : IsPass shards caller (free + 1) (out + 1) (map (kept_turn free) turns)
    kept_is_pass =
        let P : TurnShape → Type 0 = IsAlike caller (free + 1) (joined_of turns) (out + 1) in
        let all : All (λ turn. P (kept_turn free turn)) turns = λ k d within.
        let alike = pass.alike k d within in
        record { caller_is = alike.caller_is; free_is = refl; joined_are = alike.joined_are; out_is = ap (λ n. n + 1) alike.out_is; rests = alike.rests; not_free = λ first. below_more free (get_or turns k d).seen (alike.not_free first) } in
        record {
          known = pass.known;
          locks_are = locks_stay (kept_turn free) (λ _. refl) turns ∙ pass.locks_are;
          alike = subst (λ numbers. All (IsAlike caller (free + 1) numbers (out + 1)) (map (kept_turn free) turns)) (sym (joined_stay (kept_turn free) (λ _. refl) turns)) (All-map P (kept_turn free) turns all);
          few_out = (let few = pass.few_out in omega arith);
          free_fits = omega arith;
        }

    pub split_is_pass : IsPass shards free shards.callers 0 (map (split_turn free) turns)
    split_is_pass =
        let P : TurnShape → Type 0 = IsAlike free shards.callers [] 0 in
        let all : All (λ turn. P (split_turn free turn)) turns = λ k d within.
        let lock = locks_known k d within in
        record { caller_is = refl; free_is = lock.callers_are; joined_are = refl; out_is = refl; rests = refl; not_free = λ first. absurd (let few = pass.few_out in omega arith) } in
        record {
          known = pass.known;
          locks_are = locks_stay (split_turn free) (λ _. refl) turns ∙ pass.locks_are;
          alike = subst (λ numbers. All (IsAlike free shards.callers numbers 0) (map (split_turn free) turns)) (sym (none_joined (split_turn free) (λ _. refl) turns)) (All-map P (split_turn free) turns all);
          few_out = omega arith;
          free_fits = omega arith;
        }
