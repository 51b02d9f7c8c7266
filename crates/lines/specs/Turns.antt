-- The turns of a run, from one line or one read to the next.
use Rattle.std.specs.Prelude.{◌≡◌, ℕ, ◌≤◌, ◌⊎◌, List, ◌++◌, length, Option, Some, None, MatchOption}
use Rattle.std.specs.Io.KnownBytes.{Consumes, Appends}
use Rattle.lines.specs.Text.{whole_lines, unfinished, all_lines}
use Rattle.lines.specs.Streams.{Stream}
use Rattle.lines.specs.Reading.{Reading, read_limit}
use Rattle.lines.specs.Replies.{Adds, Loses}
use Rattle.lines.specs.Responses.{AnswerRelation, RefusalRelation, IsAnswerFront}
use Rattle.lines.specs.Run.{AnswersLines, Interrupted, FirstRefused, EndRefused, RunsLines}
use Rattle.lines.specs.declared.run.Ending.{Ending}
use Rattle.lines.specs.declared.run.Ending.TheVariants as ending

-- what waited was written, and the run ends as planned; or the outside failed
abbrev pub Finishes : {F : Type 0} → Type 0 → Stream → Stream → List ℕ → Ending F → Ending F
    → Type 0
Finishes WriteFailed held held' waiting planned end =
    ((end ≡ planned) × Appends held held' waiting)
    ⊎ ((end ≡ ending.WriteFault) × WriteFailed × Loses held held' waiting)

module _ (WriteFailed : Type 0) {S F : Type 0} (answers : AnswerRelation S)
    (refuses : RefusalRelation S F) where
  -- line number n was answered, or so the run ends
  abbrev pub AnswersOrEnds : S → S → List ℕ → ℕ → Stream → Stream → List ℕ → List ℕ
      → Option (Ending F) → Type 0
  AnswersOrEnds old new line n held held' waiting waiting' None =
      (text : List ℕ) × answers old line text new × Adds held held' waiting waiting' text
  AnswersOrEnds old new line n held held' waiting waiting' (Some (ending.Refused m fault)) =
      (m ≡ n) × refuses old line fault × Appends held held' waiting
  AnswersOrEnds old new line n held held' waiting waiting' (Some ending.NoMemory) =
      (text : List ℕ) × IsAnswerFront answers old line text × Appends held held' (waiting ++ text)
  AnswersOrEnds old new line n held held' waiting waiting' (Some ending.WriteFault) =
      WriteFailed
      × ((text : List ℕ) × IsAnswerFront answers old line text × Loses held held' (waiting ++ text))
  AnswersOrEnds old new line n held held' waiting waiting' (Some ending.Done) = ⊥
  AnswersOrEnds old new line n held held' waiting waiting' (Some (ending.TooLong m)) = ⊥
  AnswersOrEnds old new line n held held' waiting waiting' (Some ending.TooMuch) = ⊥
  AnswersOrEnds old new line n held held' waiting waiting' (Some ending.ReadFault) = ⊥

  -- of these lines those before the one where the run stops were answered
  abbrev pub StopsAmong : S → List (List ℕ) → List ℕ → Ending F → Type 0
  StopsAmong old lines text (ending.Refused n fault) =
      FirstRefused answers refuses old lines text n fault
  StopsAmong old lines text ending.NoMemory = Interrupted answers old lines text
  StopsAmong old lines text ending.WriteFault = WriteFailed × Interrupted answers old lines text
  StopsAmong old lines text ending.Done = ⊥
  StopsAmong old lines text (ending.TooLong n) = ⊥
  StopsAmong old lines text ending.TooMuch = ⊥
  StopsAmong old lines text ending.ReadFault = ⊥

module _ (WriteFailed : Type 0) {S F : Type 0} (answers : AnswerRelation S)
    (refuses : RefusalRelation S F) (may_end : S → Type 0) (refuses_end : S → F → Type 0) where
  -- how a run ends whose input, with these lines, came to its end
  abbrev pub EndsAfter : S → List (List ℕ) → List ℕ → S → Ending F → Type 0
  EndsAfter old lines text new ending.Done = AnswersLines answers old lines text new × may_end new
  EndsAfter old lines text new (ending.Refused n fault) =
      FirstRefused answers refuses old lines text n fault
      ⊎ EndRefused answers refuses_end old lines text n fault new
  EndsAfter old lines text new ending.NoMemory = Interrupted answers old lines text
  EndsAfter old lines text new ending.WriteFault = WriteFailed × Interrupted answers old lines text
  EndsAfter old lines text new (ending.TooLong n) = ⊥
  EndsAfter old lines text new ending.TooMuch = ⊥
  EndsAfter old lines text new ending.ReadFault = ⊥

module _ {S : Type 0} (answers : AnswerRelation S) where
  -- A run has come so far: the lines that were taken were answered, and the last answers wait.
  pub record Progress (old now : S) (left left' held held' : Stream) (waiting : List ℕ)
      (lines : Reading) : Type 0 where
    pub read : List ℕ
    pub sent : List ℕ
    pub done : List (List ℕ)
    pub taken : Consumes left left' read
    pub written : Appends held held' sent
    pub answered : AnswersLines answers old done (sent ++ waiting) now
    pub whole : whole_lines read ≡ done ++ whole_lines lines.ahead
    pub rest : unfinished read ≡ unfinished lines.ahead
    pub number : lines.number ≡ length done
    pub count : lines.count ≡ length read
    pub limit : lines.count ≤ read_limit

  -- All of these lines were answered, and the last answers wait.
  pub record AllAnswered (old now : S) (lines : List (List ℕ)) (held held' : Stream)
      (waiting : List ℕ) (number : ℕ) : Type 0 where
    pub sent : List ℕ
    pub written : Appends held held' sent
    pub answered : AnswersLines answers old lines (sent ++ waiting) now
    pub numbered : number ≡ length lines

module _ (WriteFailed : Type 0) {S F : Type 0} (answers : AnswerRelation S)
    (refuses : RefusalRelation S F) where
  -- the bytes ahead were answered as the last line, where there are any; or so the run ends
  abbrev pub AnswersLast : S → S → Stream → Stream → List ℕ → List ℕ → Reading → Reading
      → Option (Ending F) → Type 0
  AnswersLast old new held held' waiting waiting' lines lines' result =
      (first : S) (left left' before : Stream)
      (progress : Progress answers first old left left' before held waiting lines)
      → MatchOption result
      (AllAnswered answers first new (all_lines progress.read) before held' waiting' lines'.number)
      (λ end. (text : List ℕ) × Appends before held' text
      × StopsAmong WriteFailed answers refuses first (all_lines progress.read) text end)

module _ (WriteFailed : Type 0) {S F : Type 0} (answers : AnswerRelation S)
    (refuses : RefusalRelation S F) (may_end : S → Type 0) (refuses_end : S → F → Type 0) where
  -- the input came to its end, and so the run ends
  abbrev pub EndsRun : S → S → Stream → Stream → List ℕ → Reading → Ending F → Type 0
  EndsRun old new held held' waiting lines end =
      (first : S) (left left' before : Stream)
      (progress : Progress answers first old left left' before held waiting lines)
      → (text : List ℕ) × Appends before held' text
      × EndsAfter WriteFailed answers refuses may_end refuses_end
      first (all_lines progress.read) text new end

module _ (Ended ReadFailed WriteFailed : Type 0) {S F : Type 0} (answers : AnswerRelation S)
    (refuses : RefusalRelation S F) (may_end : S → Type 0) (refuses_end : S → F → Type 0) where
  -- an ending that blames the outside has its cause there
  abbrev pub HasCause : Ending F → Type 0
  HasCause ending.Done = Ended
  HasCause ending.ReadFault = ReadFailed
  HasCause ending.WriteFault = WriteFailed
  HasCause (ending.Refused n fault) = Unit {0}
  HasCause (ending.TooLong n) = Unit {0}
  HasCause ending.TooMuch = Unit {0}
  HasCause ending.NoMemory = Unit {0}

  -- a run ended so, and the outside did what it is blamed for
  abbrev pub EndsByCause : Stream → Stream → Stream → Stream → S → S → Ending F → Type 0
  EndsByCause left left' held held' old new end =
      RunsLines Ended answers refuses may_end refuses_end left left' held held' old new end
      × HasCause end

  -- a run that has come so far goes on, or it ends
  abbrev pub GoesOnOrEnds : S → S → Stream → Stream → Stream → Stream → List ℕ → List ℕ
      → Reading → Reading → Option (Ending F) → Type 0
  GoesOnOrEnds old new left left' held held' waiting waiting' lines lines' result =
      (first : S) (from before : Stream)
      → Progress answers first old from left before held waiting lines
      → MatchOption result
      (Progress answers first new from left' before held' waiting' lines')
      (λ end. EndsByCause from left' before held' first new end)
