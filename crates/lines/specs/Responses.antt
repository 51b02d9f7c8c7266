-- What one line is answered with.
use Rattle.std.specs.Prelude.{◌≡◌, ℕ, List, [], ◌++◌, Result, Ok, Err, ◌⊎◌}
use Rattle.lines.specs.Streams.{Stream}
use Rattle.lines.specs.Replies.{Adds, Loses}
use Rattle.lines.specs.declared.responder.Trouble.{Trouble}
use Rattle.lines.specs.declared.responder.Trouble.TheVariants as trouble

-- `answers old line text new`: in the state old the line may be answered with the text, and the
-- state is new then
abbrev pub AnswerRelation : Type 0 → Type 1
AnswerRelation S = S → List ℕ → List ℕ → S → Type 0

-- `refuses old line fault`: in the state old the line is refused with this fault
abbrev pub RefusalRelation : Type 0 → Type 0 → Type 1
RefusalRelation S F = S → List ℕ → F → Type 0

module _ {S : Type 0} (answers : AnswerRelation S) where
  -- nothing, or a front of an answer that the line may have
  abbrev pub IsAnswerFront : S → List ℕ → List ℕ → Type 0
  IsAnswerFront old line text =
      (text ≡ []) ⊎ ((rest : List ℕ) × (next : S) × answers old line (text ++ rest) next)

module _ {S F : Type 0} (answers : AnswerRelation S) (refuses : RefusalRelation S F) where
  -- The line was answered, or it is refused and nothing was added, or its answer was cut short.
  abbrev pub Responds : S → S → List ℕ → Stream → Stream → List ℕ → List ℕ
      → Result (Unit {0}) (Trouble F) → Type 0
  Responds old new line held held' waiting waiting' (Ok u) =
      (text : List ℕ) × answers old line text new × Adds held held' waiting waiting' text
  Responds old new line held held' waiting waiting' (Err (trouble.Refused fault)) =
      refuses old line fault × Adds held held' waiting waiting' []
  Responds old new line held held' waiting waiting' (Err trouble.NoMemory) =
      (text : List ℕ) × IsAnswerFront answers old line text × Adds held held' waiting waiting' text
  Responds old new line held held' waiting waiting' (Err trouble.WriteFault) =
      (text : List ℕ) × IsAnswerFront answers old line text × Loses held held' (waiting ++ text)
