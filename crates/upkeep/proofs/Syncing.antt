-- Calls for notes, one after another.
use Rattle.std.proofs.Common.{◌≡◌, ◌∙◌, ℕ, ◌+◌, ◌<◌, ◌≤◌, true, false, List, [], ◌∷◌, ◌++◌, ap, arith, cond, get_or, length, length-append, map, refl, subst, sym}
use Rattle.std.proofs.lemmas.List.{get_or-map, length-map}
use Rattle.std.proofs.lemmas.List.Elements.{filter-append}
use Rattle.std.specs.Int.{from_bool}
use Rattle.std.specs.List.{filter}
use Rattle.ot_base.specs.declared.minute.Minute.{Minute}
use Rattle.ot_base.specs.declared.peer.Note.{Note}
use Rattle.shards.specs.Passing.{MadeByPass}
use Rattle.shards.specs.Shape.{PassShape}
use Rattle.shards.proofs.PassingLemmas.{others_alone}
use Rattle.tracker_model.specs.Grows.{GrowsAmong, Move, OthersBetween}
use Rattle.tracker_model.specs.Placed.{bucket_for, bucket_in, moves_of, placed_calls}
use Rattle.tracker_model.specs.declared.answer.Answer.{Answer}
use Rattle.tracker_model.specs.declared.answer.Answer.TheVariants.{NoMemory}
use Rattle.tracker_model.specs.declared.answer.Answer.TheVariants as answered
use Rattle.tracker_model.specs.declared.call.Call.{Call}
use Rattle.tracker_model.proofs.GrowsLemmas.{grows-append}
use Rattle.upkeep.specs.Hearing.{AnswersNotes, HadMemory, full_count, is_full, is_wanting, sync_call}
use Rattle.upkeep.specs.declared.sync_in.SyncIn.TheVariants as told
use Rattle.upkeep.proofs.Lists.{all_append, no_moves}

-- what a want of memory is
wanting_is : (answer : Answer) → is_wanting answer ≡ true → answer ≡ NoMemory
wanting_is (answered.Told counts peers) wants = cc
wanting_is (answered.Stats counts known) wants = cc
wanting_is (answered.Rows rows) wants = cc
wanting_is (answered.Cleaned held) wants = cc
wanting_is answered.Applied wants = cc
wanting_is (answered.Drained notes dropped) wants = cc
wanting_is (answered.SwarmFull count) wants = cc
wanting_is (answered.BucketFull count) wants = cc
wanting_is NoMemory wants = refl

-- the move that a call is with its answer
abbrev pub move_of : (caller : ℕ) → Minute → ℕ × Call → Answer → Move
move_of caller minute placed answer = record {
  bucket = placed.0;
  entry = record { caller = caller; minute = minute; call = placed.1; answer = answer };
}

-- one more answer makes one more move
moves_push : (caller : ℕ) (minute : Minute) (placed : List (ℕ × Call)) (answers : List Answer) (answer : Answer) (d : ℕ × Call) → length answers < length placed
    → moves_of caller minute placed (answers ++ answer ∷ []) ≡ moves_of caller minute placed answers ++ move_of caller minute (get_or placed (length answers) d) answer ∷ []
moves_push caller minute [] answers answer d below = absurd (omega (arith, below))
moves_push caller minute (call ∷ []) [] answer d below = refl
moves_push caller minute (call ∷ next ∷ placed) [] answer d below = refl
moves_push caller minute (call ∷ placed) (first ∷ answers) answer d below =
    ap (λ moves. move_of caller minute call first ∷ moves) (moves_push caller minute placed answers answer d (omega (arith, below)))

-- the call of a note, with its bucket
abbrev pub placed_note : (bits : ℕ) → Note → ℕ × Call
placed_note bits note = (bucket_for (bucket_in bits) (sync_call note), sync_call note)

abbrev pub placed_notes : (bits : ℕ) → List Note → List (ℕ × Call)
placed_notes bits notes = placed_calls (bucket_in bits) (map sync_call notes)

placed_length : (bits : ℕ) (notes : List Note) → length (placed_notes bits notes) ≡ length notes
placed_length bits notes = length-map (map sync_call notes) _ ∙ length-map notes sync_call

placed_at : (bits : ℕ) (notes : List Note) (i : ℕ) (d : Note) → i < length notes → get_or (placed_notes bits notes) i (placed_note bits d) ≡ placed_note bits (get_or notes i d)
placed_at bits notes i d below =
    get_or-map (λ call. (bucket_for (bucket_in bits) call, call)) (map sync_call notes) i (sync_call d) (placed_note bits d) (omega (arith, below, length-map notes sync_call))
    ∙ ap (λ call. (bucket_for (bucket_in bits) call, call)) (get_or-map sync_call notes i d (sync_call d) below)

-- Through a pass the calls of the first notes were made, so many. Each had memory, and so many met
-- something full.
pub record AppliedSoFar (minute : Minute) (old new : PassShape) (notes : List Note) (calls full : ℕ) : Type 0 where
  pub answers : List Answer
  pub had : HadMemory answers
  pub calls_are : calls ≡ length answers
  pub full_are : full ≡ full_count answers
  pub grown : GrowsAmong old.shards.settings old.caller old.seen (moves_of old.caller minute (placed_notes old.shards.bits notes) answers) new.seen
  pub pass : new ≡ record old { seen = new.seen }

pub applied_none : (minute : Minute) (pass : PassShape) (notes : List Note) → AppliedSoFar minute pass pass notes 0 0
applied_none minute pass notes =
    let P : List Move → Type 0 = λ moves. GrowsAmong pass.shards.settings pass.caller pass.seen moves pass.seen in record {
      answers = [];
      had = tt;
      calls_are = refl;
      full_are = refl;
      grown = subst P (sym (no_moves pass.caller minute (placed_notes pass.shards.bits notes))) refl;
      pass = refl;
    }

-- an answer counts once where something is full
pub full_one : (answer : Answer) (more : ℕ) → more ≡ from_bool (is_full answer) → more ≡ full_count (answer ∷ [])
full_one answer more counted =
    counted ∙ elim (is_full answer) as (λ b. from_bool b ≡ length (cond b (answer ∷ []) [])) [ true ↦ refl | false ↦ refl ]

pub one_at_most : (answer : Answer) (more : ℕ) → more ≡ from_bool (is_full answer) → more ≤ 1
one_at_most answer more counted =
    let P : ℕ → Type 0 = λ n. n ≤ 1 in
    subst P (sym counted) (elim (is_full answer) as (λ b. from_bool b ≤ 1) [ true ↦ omega arith | false ↦ omega arith ])

full_more : (answers : List Answer) (answer : Answer) → full_count (answers ++ answer ∷ []) ≡ full_count answers + full_count (answer ∷ [])
full_more answers answer = ap length (filter-append is_full answers (answer ∷ [])) ∙ length-append (filter is_full answers) (filter is_full (answer ∷ []))

module _ (minute : Minute) (old middle new : PassShape) (notes : List Note) (calls full : ℕ) (before : AppliedSoFar minute old middle notes calls full)
    (d note : Note) (there : get_or notes calls d ≡ note) (below : calls < length notes) (bucket : ℕ) (placed : bucket ≡ bucket_for (bucket_in middle.shards.bits) (sync_call note))
    (answer : Answer) (made : MadeByPass middle bucket minute (sync_call note) answer new) where
  abbrev this : Move
  this = record {
    bucket = bucket;
    entry = record { caller = middle.caller; minute = minute; call = sync_call note; answer = answer };
  }

  move_is : move_of old.caller minute (get_or (placed_notes old.shards.bits notes) (length before.answers) (placed_note old.shards.bits d)) answer ≡ this
  move_is =
      ap (λ (p : ℕ × Call). move_of old.caller minute p answer)
      (ap (λ i. get_or (placed_notes old.shards.bits notes) i (placed_note old.shards.bits d)) (sym before.calls_are)
      ∙ placed_at old.shards.bits notes calls d below ∙ ap (placed_note old.shards.bits) there)
      ∙ ap (λ (p : PassShape). move_of p.caller minute (placed_note p.shards.bits note) answer) (sym before.pass)
      ∙ ap (λ n. move_of middle.caller minute (n, sync_call note) answer) (sym placed)

  grown_more : GrowsAmong old.shards.settings old.caller old.seen (moves_of old.caller minute (placed_notes old.shards.bits notes) (before.answers ++ answer ∷ [])) new.seen
  grown_more =
      let P : List Move → Type 0 = λ moves. GrowsAmong old.shards.settings old.caller old.seen moves new.seen in
      let Then : PassShape → Type 0 = λ p. GrowsAmong p.shards.settings p.caller middle.seen (this ∷ []) new.seen in
      let moves = moves_of old.caller minute (placed_notes old.shards.bits notes) before.answers in
      subst P
      (sym (moves_push old.caller minute (placed_notes old.shards.bits notes) before.answers answer (placed_note old.shards.bits d) (omega (arith, before.calls_are, below, placed_length old.shards.bits notes))
      ∙ ap (λ m. moves ++ m ∷ []) move_is))
      (grows-append (OthersBetween old.caller) old.shards.settings old.caller old.seen middle.seen new.seen moves (this ∷ []) before.grown
      (subst Then before.pass (new.seen, others_alone middle.shards.settings middle.caller middle.joined middle.seen this new.seen made.step, refl)))

  pass_more : new ≡ record old { seen = new.seen }
  pass_more = made.pass ∙ ap (λ (p : PassShape). record p { seen = new.seen }) before.pass

  -- one more call was made
  pub applied_more : (more : ℕ) → is_wanting answer ≡ false → more ≡ full_count (answer ∷ []) → AppliedSoFar minute old new notes (calls + 1) (full + more)
  applied_more more had counted = record {
    answers = before.answers ++ answer ∷ [];
    had = all_append (λ a. is_wanting a ≡ false) before.answers (answer ∷ []) before.had (had, tt);
    calls_are = omega (arith, before.calls_are, length-append before.answers (answer ∷ []));
    full_are = omega (arith, before.full_are, counted, full_more before.answers answer);
    grown = grown_more;
    pass = pass_more;
  }

  -- there was no memory for one more
  pub applied_wanting : is_wanting answer ≡ true → AnswersNotes minute old new notes (told.NoMemory calls)
  applied_wanting wants = record {
    answers = before.answers ++ answer ∷ [];
    tells = (before.answers, before.had, ap (λ a. before.answers ++ a ∷ []) (wanting_is answer wants), before.calls_are, below);
    grown = grown_more;
  }

-- all calls were made
pub applied_all : (minute : Minute) (old new : PassShape) (notes : List Note) (calls full : ℕ) → AppliedSoFar minute old new notes calls full → calls ≡ length notes → AnswersNotes minute old new notes (told.Applied calls full)
applied_all minute old new notes calls full done all = record {
  answers = done.answers;
  tells = (done.had, sym done.calls_are ∙ all, done.calls_are, done.full_are);
  grown = done.grown;
}
