-- One line that was answered, and a run that stops there.
use Rattle.std.proofs.Common.{◌≡◌, ℕ, List, [], append-nil, refl, sym, subst, inl, inr}
use Rattle.std.specs.Prelude.{Option, Some}
use Rattle.std.specs.Io.KnownBytes.{Appends}
use Rattle.lines.specs.Replies.{Adds}
use Rattle.lines.specs.Responses.{IsAnswerFront}
use Rattle.lines.specs.Turns.{Finishes, AnswersOrEnds}
use Rattle.lines.specs.declared.run.Ending.{Ending}
use Rattle.lines.specs.declared.run.Ending.TheVariants as ending
use Rattle.lines.proofs.ReplyLemmas.{Appends-added, Loses-added}

module _ (Now Before : Type 0) (earlier : Now → Before) {S F : Type 0} (answers : S → List ℕ → List ℕ → S → Type 0) (refuses : S → List ℕ → F → Type 0) where
  -- a refused line
  pub AnswersOrEnds-refused : (old new : S) (line line' : List ℕ) (n m : ℕ)
      (held mid held' : Option (List ℕ)) (waiting waiting' waiting'' : List ℕ) (fault : F)
      (end : Ending F) → line' ≡ line → m ≡ n
      → refuses old line' fault × Adds held mid waiting waiting' []
      → Finishes Now mid held' waiting' (ending.Refused m fault) end
      → AnswersOrEnds Before answers refuses old new line n held held' waiting waiting'' (Some end)
  AnswersOrEnds-refused old new line line' n m held mid held' waiting waiting' waiting'' fault end same number (refused, adds) (inl (is, gone)) =
      subst (λ (e : Ending F). AnswersOrEnds Before answers refuses old new line n held held' waiting waiting'' (Some e)) (sym is)
      (number, subst (λ (l : List ℕ). refuses old l fault) same refused, subst (λ (l : List ℕ). Appends held held' l) (append-nil waiting) (Appends-added held mid held' waiting waiting' [] adds gone))
  AnswersOrEnds-refused old new line line' n m held mid held' waiting waiting' waiting'' fault end same number (refused, adds) (inr (is, failed, loses)) =
      subst (λ (e : Ending F). AnswersOrEnds Before answers refuses old new line n held held' waiting waiting'' (Some e)) (sym is)
      (earlier failed, ([], inl refl, Loses-added held mid held' waiting waiting' [] adds loses))

  -- a line for whose answer there was no memory
  pub AnswersOrEnds-memory : (old new : S) (line line' : List ℕ) (n : ℕ)
      (held mid held' : Option (List ℕ)) (waiting waiting' waiting'' : List ℕ) (end : Ending F)
      → line' ≡ line
      → ((text : List ℕ) × IsAnswerFront answers old line' text × Adds held mid waiting waiting' text)
      → Finishes Now mid held' waiting' ending.NoMemory end
      → AnswersOrEnds Before answers refuses old new line n held held' waiting waiting'' (Some end)
  AnswersOrEnds-memory old new line line' n held mid held' waiting waiting' waiting'' end same (text, front, adds) (inl (is, gone)) =
      subst (λ (e : Ending F). AnswersOrEnds Before answers refuses old new line n held held' waiting waiting'' (Some e)) (sym is)
      (text, subst (λ (l : List ℕ). IsAnswerFront answers old l text) same front, Appends-added held mid held' waiting waiting' text adds gone)
  AnswersOrEnds-memory old new line line' n held mid held' waiting waiting' waiting'' end same (text, front, adds) (inr (is, failed, loses)) =
      subst (λ (e : Ending F). AnswersOrEnds Before answers refuses old new line n held held' waiting waiting'' (Some e)) (sym is)
      (earlier failed, (text, subst (λ (l : List ℕ). IsAnswerFront answers old l text) same front, Loses-added held mid held' waiting waiting' text adds loses))
