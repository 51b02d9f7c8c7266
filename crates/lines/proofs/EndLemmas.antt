-- How a run ends: in the middle, at the input's end, or where more was read.
use Rattle.std.proofs.Common.{◌≡◌, ℕ, ◌+◌, ◌≤◌, true, false, List, [], ◌∷◌, ◌++◌, length, take, refl, sym, ap, subst, ◌∙◌, append_assoc, append-nil, length-append, cond, suc, arith, inl, inr}
use Rattle.std.specs.Prelude.{Option, Some, None, ◌==◌, MatchOption}
use Rattle.std.specs.Io.KnownBytes.{Appends, Keeps}
use Rattle.std.proofs.KnownBytes.{Consumes-nil, Consumes-trans, Consumes-kept, Appends-nil, Appends-trans}
use Rattle.std.proofs.Math.Seq.{take-append_seam}
use Rattle.lines.specs.Text.{line_end, line_limit, has_end, onto_first, whole_lines, unfinished, last_line, all_lines}
use Rattle.lines.specs.Reading.{Reading, read_limit, TakesLine, TakesRest, BeginsTooLong, Overflows, forgetful}
use Rattle.lines.specs.Replies.{Loses}
use Rattle.lines.specs.Run.{AnswersLines, FirstTooLong, HasOutcome, RunsLines}
use Rattle.lines.specs.Turns.{Finishes, AnswersOrEnds, StopsAmong, EndsAfter, Progress, AllAnswered, HasCause, EndsByCause}
use Rattle.lines.specs.declared.run.Ending.{Ending}
use Rattle.lines.specs.declared.run.Ending.TheVariants as ending
use Rattle.lines.proofs.TextLemmas.{whole_lines-first}
use Rattle.lines.proofs.RunLemmas.{AnswersLines-more, Progress-line, whole_lines-done, all_lines-done, all_lines-begun, last_line-some, Interrupted-flush, StopsAmong-line}

-- ---- there are no more lines than bytes

length-onto_first : (byte : ℕ) (lines : List (List ℕ))
    → length (onto_first byte lines) ≡ length lines
length-onto_first byte [] = refl
length-onto_first byte (line ∷ lines) = refl

length-whole_lines : (bytes : List ℕ) → length (whole_lines bytes) ≤ length bytes
length-whole_lines [] = omega arith
length-whole_lines (x ∷ bytes) =
    let few = length-whole_lines bytes in
    elim (x == line_end) as (λ b. length (cond b ([] ∷ whole_lines bytes) (onto_first x (whole_lines bytes))) ≤ suc (length bytes)) [
      | true ↦ omega (arith, few)
      | false ↦ omega (arith, few, length-onto_first x (whole_lines bytes))
    ]

module _ {S : Type 0} (answers : S → List ℕ → List ℕ → S → Type 0) where
  pub Progress-few : (first now : S) (left left' held held' : Option (List ℕ)) (waiting : List ℕ)
      (lines : Reading) → Progress answers first now left left' held held' waiting lines
      → lines.number ≤ lines.count
  Progress-few first now left left' held held' waiting lines progress =
      omega (arith, progress.number, progress.count, length-whole_lines progress.read, ap length progress.whole, length-append progress.done (whole_lines lines.ahead))

  -- a read that gave nothing
  pub Progress-kept : (first now : S) (left left' left'' held held' : Option (List ℕ))
      (waiting : List ℕ) (lines lines' : Reading)
      → Progress answers first now left left' held held' waiting lines → Keeps left' left''
      → lines' ≡ forgetful lines → Progress answers first now left left'' held held' waiting lines'
  Progress-kept first now left left' left'' held held' waiting lines lines' progress kept same =
      subst (λ l. Progress answers first now left left'' held held' waiting l) (sym same) (record {
        read = progress.read;
        sent = progress.sent;
        done = progress.done;
        taken = Consumes-kept left left' left'' progress.read progress.taken kept;
        written = progress.written;
        answered = progress.answered;
        whole = progress.whole;
        rest = progress.rest;
        number = progress.number;
        count = progress.count;
        limit = progress.limit;
      })

  -- ---- the last line

  -- no bytes are left
  pub AllAnswered-none : (first now : S) (left left' held held' : Option (List ℕ))
      (waiting : List ℕ) (lines lines' : Reading)
      (progress : Progress answers first now left left' held held' waiting lines) → has_end lines.ahead ≡ false → lines' ≡ lines → lines.ahead ≡ []
      → AllAnswered answers first now (all_lines progress.read) held held' waiting lines'.number
  AllAnswered-none first now left left' held held' waiting lines lines' progress unended same none =
      let all = all_lines-done answers first now left left' held held' waiting lines progress unended ∙ ap (λ l. progress.done ++ last_line l) none ∙ append-nil progress.done in
      record {
        sent = progress.sent;
        written = progress.written;
        answered = subst (λ ls. AnswersLines answers first ls (progress.sent ++ waiting) now) (sym all) progress.answered;
        numbered = ap (λ (l : Reading). l.number) same ∙ progress.number ∙ ap length (sym all);
      }

module _ (W : Type 0) {S F : Type 0} (answers : S → List ℕ → List ℕ → S → Type 0) (refuses : S → List ℕ → F → Type 0) where
  -- the last line was answered, or so the run ends
  pub AnswersLast-line : (first now new : S) (left left' held held' held'' : Option (List ℕ))
      (waiting waiting' : List ℕ) (lines lines' : Reading) (result : Option (Ending F))
      (progress : Progress answers first now left left' held held' waiting lines) → has_end lines.ahead ≡ false → length lines.ahead ≤ line_limit → TakesRest lines lines'
      → AnswersOrEnds W answers refuses now new lines'.line lines'.number held' held'' waiting waiting' result
      → MatchOption result
      (AllAnswered answers first new (all_lines progress.read) held held'' waiting' lines'.number)
      (λ end. (text : List ℕ) × Appends held held'' text × StopsAmong W answers refuses first (all_lines progress.read) text end)
  AnswersLast-line first now new left left' held held' held'' waiting waiting' lines lines' None progress unended short rest (text, answered, adds) =
      let all : all_lines progress.read ≡ progress.done ++ lines'.line ∷ [] =
      all_lines-done answers first now left left' held held' waiting lines progress unended ∙ ap (λ ls. progress.done ++ ls) (last_line-some lines.ahead rest.some) ∙ ap (λ l. progress.done ++ l ∷ []) (sym rest.line) in
      let fits : length lines'.line ≤ line_limit = omega (arith, short, ap length rest.line) in
      let more = AnswersLines-more answers first now new progress.done lines'.line (progress.sent ++ waiting) text progress.answered fits answered in
      let parted : (progress.sent ++ waiting) ++ text ≡ (progress.sent ++ adds.sent) ++ waiting' =
      append_assoc progress.sent waiting text ∙ ap (λ t. progress.sent ++ t) adds.kept ∙ sym (append_assoc progress.sent adds.sent waiting') in
      record {
        sent = progress.sent ++ adds.sent;
        written = Appends-trans held held' held'' progress.sent adds.sent progress.written adds.gone;
        answered = subst (λ ls. AnswersLines answers first ls ((progress.sent ++ adds.sent) ++ waiting') new) (sym all)
            (subst (λ t. AnswersLines answers first (progress.done ++ lines'.line ∷ []) t new) parted more);
        numbered = omega (arith, rest.number, progress.number, ap length all, length-append progress.done (lines'.line ∷ []));
      }
  AnswersLast-line first now new left left' held held' held'' waiting waiting' lines lines' (Some end) progress unended short rest stops =
      let all : all_lines progress.read ≡ progress.done ++ lines'.line ∷ [] =
      all_lines-done answers first now left left' held held' waiting lines progress unended ∙ ap (λ ls. progress.done ++ ls) (last_line-some lines.ahead rest.some) ∙ ap (λ l. progress.done ++ l ∷ []) (sym rest.line) in
      let fits : length lines'.line ≤ line_limit = omega (arith, short, ap length rest.line) in
      StopsAmong-line W answers refuses first now new (all_lines progress.read) progress.done [] lines'.line progress.sent waiting waiting' lines'.number held held' held'' end
      all (omega (arith, rest.number, progress.number)) fits progress.answered progress.written stops

module _ (Now Before : Type 0) (earlier : Now → Before) {S F : Type 0} (answers : S → List ℕ → List ℕ → S → Type 0)
    (refuses : S → List ℕ → F → Type 0) (may_end : S → Type 0) (refuses_end : S → F → Type 0) where
  -- the run stopped at one of its lines
  pub EndsAfter-stopped : (first new : S) (lines : List (List ℕ)) (text : List ℕ) (end : Ending F)
      → StopsAmong Now answers refuses first lines text end
      → EndsAfter Before answers refuses may_end refuses_end first lines text new end
  EndsAfter-stopped first new lines text (ending.Refused n fault) h = inl h
  EndsAfter-stopped first new lines text ending.NoMemory h = h
  EndsAfter-stopped first new lines text ending.WriteFault h = (earlier h.0, h.1)
  EndsAfter-stopped first new lines text ending.Done h = absurd h
  EndsAfter-stopped first new lines text (ending.TooLong n) h = absurd h
  EndsAfter-stopped first new lines text ending.TooMuch h = absurd h
  EndsAfter-stopped first new lines text ending.ReadFault h = absurd h

  -- all lines were answered, and what waited was written
  pub EndsAfter-finished : (first new : S) (lines : List (List ℕ))
      (held mid held' : Option (List ℕ)) (waiting : List ℕ) (number : ℕ) (planned end : Ending F)
      (all : AllAnswered answers first new lines held mid waiting number)
      → EndsAfter Before answers refuses may_end refuses_end first lines (all.sent ++ waiting) new planned → Finishes Now mid held' waiting planned end
      → (text : List ℕ) × Appends held held' text × EndsAfter Before answers refuses may_end refuses_end first lines text new end
  EndsAfter-finished first new lines held mid held' waiting number planned end all plan (inl (is, gone)) = (
    all.sent ++ waiting,
    Appends-trans held mid held' all.sent waiting all.written gone,
    subst (λ (e : Ending F). EndsAfter Before answers refuses may_end refuses_end first lines (all.sent ++ waiting) new e) (sym is) plan,
  )
  EndsAfter-finished first new lines held mid held' waiting number planned end all plan (inr (is, failed, loses)) = (
    all.sent ++ loses.sent,
    Appends-trans held mid held' all.sent loses.sent all.written loses.gone,
    subst (λ (e : Ending F). EndsAfter Before answers refuses may_end refuses_end first lines (all.sent ++ loses.sent) new e) (sym is)
        (earlier failed, Interrupted-flush answers first new lines lines [] all.sent waiting loses.sent loses.lost (sym (append-nil lines)) all.answered loses.front),
  )

-- ---- the whole run

module _ (Ended ReadFailed WriteFailed : Type 0) {S F : Type 0} (answers : S → List ℕ → List ℕ → S → Type 0)
    (refuses : S → List ℕ → F → Type 0) (may_end : S → Type 0) (refuses_end : S → F → Type 0) where
  -- a run that ends at this place, and not for too much input
  EndsByCause-at : (first now new : S) (left left' held held' held'' : Option (List ℕ))
      (waiting : List ℕ) (lines : Reading) (end : Ending F) (text : List ℕ)
      (progress : Progress answers first now left left' held held' waiting lines) → Appends held held'' text → (end ≡ ending.TooMuch → ⊥)
      → HasOutcome Ended answers refuses may_end refuses_end first progress.read text new end
      → HasCause Ended ReadFailed WriteFailed answers refuses may_end refuses_end end
      → EndsByCause Ended ReadFailed WriteFailed answers refuses may_end refuses_end left left' held held'' first new end
  EndsByCause-at first now new left left' held held' held'' waiting lines end text progress written other outcome cause = (
    record {
      read = progress.read;
      text = text;
      taken = progress.taken;
      written = written;
      too_much = (λ e. absurd (other e), λ h. absurd (omega (arith, h, progress.count, progress.limit)));
      outcome = outcome;
    },
    cause,
  )

  -- what waited couldn't be written
  pub EndsByCause-unwritten : (first now : S) (left left' held held' held'' : Option (List ℕ))
      (waiting : List ℕ) (lines : Reading)
      → Progress answers first now left left' held held' waiting lines → Loses held' held'' waiting
      → WriteFailed
      → EndsByCause Ended ReadFailed WriteFailed answers refuses may_end refuses_end left left' held held'' first now ending.WriteFault
  EndsByCause-unwritten first now left left' held held' held'' waiting lines progress loses failed =
      EndsByCause-at first now now left left' held held' held'' waiting lines ending.WriteFault (progress.sent ++ loses.sent) progress
      (Appends-trans held held' held'' progress.sent loses.sent progress.written loses.gone) (λ e. cc)
      (inl (Interrupted-flush answers first now (whole_lines progress.read) progress.done (whole_lines lines.ahead) progress.sent waiting loses.sent loses.lost progress.whole progress.answered loses.front)) failed

  -- the read failed, where nothing waits
  pub EndsByCause-unread : (first now : S) (left left' held held' : Option (List ℕ))
      (waiting : List ℕ) (lines : Reading)
      → Progress answers first now left left' held held' waiting lines → has_end lines.ahead ≡ false
      → waiting ≡ [] → ReadFailed
      → EndsByCause Ended ReadFailed WriteFailed answers refuses may_end refuses_end left left' held held' first now ending.ReadFault
  EndsByCause-unread first now left left' held held' waiting lines progress unended none failed =
      let all = whole_lines-done answers first now left left' held held' waiting lines progress unended in
      let same : progress.sent ++ waiting ≡ progress.sent = ap (λ l. progress.sent ++ l) none ∙ append-nil progress.sent in
      EndsByCause-at first now now left left' held held' held' waiting lines ending.ReadFault progress.sent progress progress.written (λ e. cc)
      (subst (λ ls. AnswersLines answers first ls progress.sent now) (sym all) (subst (λ t. AnswersLines answers first progress.done t now) same progress.answered)) failed

  -- more came than is read, where nothing waits
  pub EndsByCause-too_much : (first now : S) (left left' left'' held held' : Option (List ℕ))
      (waiting : List ℕ) (lines lines' : Reading)
      → Progress answers first now left left' held held' waiting lines → has_end lines.ahead ≡ false
      → waiting ≡ [] → Overflows left' left'' lines lines'
      → EndsByCause Ended ReadFailed WriteFailed answers refuses may_end refuses_end left left'' held held' first now ending.TooMuch
  EndsByCause-too_much first now left left' left'' held held' waiting lines lines' progress unended none over =
      let all = whole_lines-done answers first now left left' held held' waiting lines progress unended in
      let same : progress.sent ++ waiting ≡ progress.sent = ap (λ l. progress.sent ++ l) none ∙ append-nil progress.sent in
      let front : take read_limit (progress.read ++ over.piece) ≡ progress.read =
      ap (λ n. take n (progress.read ++ over.piece)) (sym over.full ∙ progress.count) ∙ take-append_seam progress.read over.piece in (
        record {
          read = progress.read ++ over.piece;
          text = progress.sent;
          taken = Consumes-trans left left' left'' progress.read over.piece progress.taken over.taken;
          written = progress.written;
          too_much = (λ e. omega (arith, length-append progress.read over.piece, progress.count, over.full, over.some), λ h. refl);
          outcome = subst (λ bytes. AnswersLines answers first (whole_lines bytes) progress.sent now) (sym front)
              (subst (λ ls. AnswersLines answers first ls progress.sent now) (sym all) (subst (λ t. AnswersLines answers first progress.done t now) same progress.answered));
        },
        tt,
      )

  -- the input came to its end
  outcome_after : (first new : S) (read text : List ℕ) (end : Ending F) → Ended
      → EndsAfter WriteFailed answers refuses may_end refuses_end first (all_lines read) text new end
      → HasOutcome Ended answers refuses may_end refuses_end first read text new end × (end ≡ ending.TooMuch → ⊥) × HasCause Ended ReadFailed WriteFailed answers refuses may_end refuses_end end
  outcome_after first new read text ending.Done ended h = ((ended, h.0, h.1), (λ e. cc), ended)
  outcome_after first new read text (ending.Refused n fault) ended (inl h) = (inr (inl (ended, h)), (λ e. cc), tt)
  outcome_after first new read text (ending.Refused n fault) ended (inr h) = (inr (inr (ended, h)), (λ e. cc), tt)
  outcome_after first new read text ending.NoMemory ended h = (inr (ended, h), (λ e. cc), tt)
  outcome_after first new read text ending.WriteFault ended h = (inr (ended, h.1), (λ e. cc), h.0)
  outcome_after first new read text (ending.TooLong n) ended h = absurd h
  outcome_after first new read text ending.TooMuch ended h = absurd h
  outcome_after first new read text ending.ReadFault ended h = absurd h

  pub EndsByCause-ended : (first now new : S) (left left' held held' held'' : Option (List ℕ))
      (waiting : List ℕ) (lines : Reading) (end : Ending F)
      (progress : Progress answers first now left left' held held' waiting lines) → Ended
      → ((text : List ℕ) × Appends held held'' text × EndsAfter WriteFailed answers refuses may_end refuses_end first (all_lines progress.read) text new end)
      → EndsByCause Ended ReadFailed WriteFailed answers refuses may_end refuses_end left left' held held'' first new end
  EndsByCause-ended first now new left left' held held' held'' waiting lines end progress ended (text, written, after) =
      let outcome = outcome_after first new progress.read text end ended after in
      EndsByCause-at first now new left left' held held' held'' waiting lines end text progress written outcome.1 outcome.0 outcome.2

  -- it stopped at a whole line
  outcome_among : (first new : S) (read text : List ℕ) (end : Ending F)
      → StopsAmong WriteFailed answers refuses first (whole_lines read) text end
      → HasOutcome Ended answers refuses may_end refuses_end first read text new end × (end ≡ ending.TooMuch → ⊥) × HasCause Ended ReadFailed WriteFailed answers refuses may_end refuses_end end
  outcome_among first new read text (ending.Refused n fault) h = (inl h, (λ e. cc), tt)
  outcome_among first new read text ending.NoMemory h = (inl h, (λ e. cc), tt)
  outcome_among first new read text ending.WriteFault h = (inl h.1, (λ e. cc), h.0)
  outcome_among first new read text ending.Done h = absurd h
  outcome_among first new read text (ending.TooLong n) h = absurd h
  outcome_among first new read text ending.TooMuch h = absurd h
  outcome_among first new read text ending.ReadFault h = absurd h

  -- the next line was answered, or so the run ends
  pub GoesOnOrEnds-line : (first now new : S) (left left' held held' held'' : Option (List ℕ))
      (waiting waiting' : List ℕ) (lines lines' : Reading) (result : Option (Ending F))
      → Progress answers first now left left' held held' waiting lines → TakesLine lines lines'
      → AnswersOrEnds WriteFailed answers refuses now new lines'.line lines'.number held' held'' waiting waiting' result
      → MatchOption result
      (Progress answers first new left left' held held'' waiting' lines')
      (λ end. EndsByCause Ended ReadFailed WriteFailed answers refuses may_end refuses_end left left' held held'' first new end)
  GoesOnOrEnds-line first now new left left' held held' held'' waiting waiting' lines lines' None progress takes (text, answered, adds) =
      Progress-line answers first now new left left' held held' held'' waiting waiting' text lines lines' progress takes answered adds
  GoesOnOrEnds-line first now new left left' held held' held'' waiting waiting' lines lines' (Some end) progress takes stops =
      let cut = progress.whole ∙ ap (λ l. progress.done ++ whole_lines l) takes.cut ∙ ap (λ ls. progress.done ++ ls) (whole_lines-first lines'.line lines'.ahead takes.one_line) in
      let stop = StopsAmong-line WriteFailed answers refuses first now new (whole_lines progress.read) progress.done (whole_lines lines'.ahead) lines'.line progress.sent waiting waiting' lines'.number held held' held'' end
      cut (omega (arith, takes.number, progress.number)) takes.short progress.answered progress.written stops in
      let outcome = outcome_among first new progress.read stop.0 end stop.2 in
      EndsByCause-at first now new left left' held held' held'' waiting lines end stop.0 progress stop.1 outcome.1 outcome.0 outcome.2

  -- the next line is too long
  pub EndsByCause-too_long : (first now : S) (left left' held held' held'' : Option (List ℕ))
      (waiting : List ℕ) (lines : Reading) (n : ℕ) (end : Ending F)
      → Progress answers first now left left' held held' waiting lines → BeginsTooLong lines.ahead
      → n ≡ lines.number → Finishes WriteFailed held' held'' waiting (ending.TooLong (n + 1)) end
      → EndsByCause Ended ReadFailed WriteFailed answers refuses may_end refuses_end left left' held held'' first now end
  EndsByCause-too_long first now left left' held held' held'' waiting lines n end progress long number (inl (is, gone)) =
      let begun = all_lines-begun long.front long.rest long.one_line (omega (arith, long.long)) in
      let all : all_lines progress.read ≡ progress.done ++ all_lines lines.ahead =
      ap (λ ls. ls ++ last_line (unfinished progress.read)) progress.whole ∙ ap (λ u. (progress.done ++ whole_lines lines.ahead) ++ last_line u) progress.rest
      ∙ append_assoc progress.done (whole_lines lines.ahead) (last_line (unfinished lines.ahead)) in
      let cut = all ∙ ap (λ l. progress.done ++ all_lines l) long.cut ∙ ap (λ ls. progress.done ++ ls) begun.2 in
      let outcome : FirstTooLong answers first (all_lines progress.read) (progress.sent ++ waiting) (n + 1) = (
        long.front ++ begun.0,
        now,
        record { before = progress.done; after = begun.1; cut = cut; number = omega (arith, number, progress.number); answered = progress.answered },
        omega (arith, long.long, length-append long.front begun.0),
      ) in
      subst (λ (e : Ending F). EndsByCause Ended ReadFailed WriteFailed answers refuses may_end refuses_end left left' held held'' first now e) (sym is)
      (EndsByCause-at first now now left left' held held' held'' waiting lines (ending.TooLong (n + 1)) (progress.sent ++ waiting) progress
      (Appends-trans held held' held'' progress.sent waiting progress.written gone) (λ e. cc) outcome tt)
  EndsByCause-too_long first now left left' held held' held'' waiting lines n end progress long number (inr (is, failed, loses)) =
      subst (λ (e : Ending F). EndsByCause Ended ReadFailed WriteFailed answers refuses may_end refuses_end left left' held held'' first now e) (sym is)
      (EndsByCause-unwritten first now left left' held held' held'' waiting lines progress loses failed)

-- a run that didn't begin, for want of memory
module _ (Ended : Type 0) {S F : Type 0} (answers : S → List ℕ → List ℕ → S → Type 0)
    (refuses : S → List ℕ → F → Type 0) (may_end : S → Type 0) (refuses_end : S → F → Type 0) where
  pub RunsLines-none : (old : S) (left held : Option (List ℕ))
      → RunsLines Ended answers refuses may_end refuses_end left left held held old old ending.NoMemory
  RunsLines-none old left held = record {
    read = [];
    text = [];
    taken = Consumes-nil left;
    written = Appends-nil held;
    too_much = (λ e. absurd (cc), λ h. absurd (omega (arith, h)));
    outcome = inl (record { before = []; after = []; at = old; unwritten = []; cut = refl; answered = (refl, refl) });
  }

-- ---- the causes, from an earlier moment on

module _ (E R W E' R' W' : Type 0) (e : E → E') (r : R → R') (w : W → W') {S F : Type 0} (answers : S → List ℕ → List ℕ → S → Type 0)
    (refuses : S → List ℕ → F → Type 0) (may_end : S → Type 0) (refuses_end : S → F → Type 0) where
  outcome_since : (old new : S) (read text : List ℕ) (end : Ending F)
      → HasOutcome E answers refuses may_end refuses_end old read text new end
      → HasOutcome E' answers refuses may_end refuses_end old read text new end
  outcome_since old new read text ending.Done h = (e h.0, h.1, h.2)
  outcome_since old new read text (ending.Refused n fault) (inl h) = inl h
  outcome_since old new read text (ending.Refused n fault) (inr (inl h)) = inr (inl (e h.0, h.1))
  outcome_since old new read text (ending.Refused n fault) (inr (inr h)) = inr (inr (e h.0, h.1))
  outcome_since old new read text (ending.TooLong n) h = h
  outcome_since old new read text ending.TooMuch h = h
  outcome_since old new read text ending.ReadFault h = h
  outcome_since old new read text ending.WriteFault (inl h) = inl h
  outcome_since old new read text ending.WriteFault (inr h) = inr (e h.0, h.1)
  outcome_since old new read text ending.NoMemory (inl h) = inl h
  outcome_since old new read text ending.NoMemory (inr h) = inr (e h.0, h.1)

  cause_since : (end : Ending F) → HasCause E R W answers refuses may_end refuses_end end
      → HasCause E' R' W' answers refuses may_end refuses_end end
  cause_since ending.Done h = e h
  cause_since ending.ReadFault h = r h
  cause_since ending.WriteFault h = w h
  cause_since (ending.Refused n fault) h = tt
  cause_since (ending.TooLong n) h = tt
  cause_since ending.TooMuch h = tt
  cause_since ending.NoMemory h = tt

  pub EndsByCause-since : (left left' held held' : Option (List ℕ)) (old new : S) (end : Ending F)
      → EndsByCause E R W answers refuses may_end refuses_end left left' held held' old new end
      → EndsByCause E' R' W' answers refuses may_end refuses_end left left' held held' old new end
  EndsByCause-since left left' held held' old new end (run, cause) = (
    record {
      read = run.read;
      text = run.text;
      taken = run.taken;
      written = run.written;
      too_much = run.too_much;
      outcome = outcome_since old new run.read run.text end run.outcome;
    },
    cause_since end cause,
  )
