-- How a run over the lines of an input ends.
use Rattle.std.specs.Prelude.{◌≡◌, ℕ, ◌+◌, ◌<◌, ◌≤◌, ◌⊎◌, ◌↔◌, List, [], ◌∷◌, ◌++◌, length, take}
use Rattle.std.specs.Io.KnownBytes.{Consumes, Appends}
use Rattle.lines.specs.Text.{line_limit, whole_lines, all_lines}
use Rattle.lines.specs.Streams.{Stream}
use Rattle.lines.specs.Reading.{read_limit}
use Rattle.lines.specs.Responses.{AnswerRelation, RefusalRelation}
use Rattle.lines.specs.declared.run.Ending.{Ending}
use Rattle.lines.specs.declared.run.Ending.TheVariants as ending

module _ {S : Type 0} (answers : AnswerRelation S) where
  -- The lines, none of them too long, were answered one after another, from one state to the next,
  -- and the answers make this text.
  abbrev pub AnswersLines : S → List (List ℕ) → List ℕ → S → Type 0
  AnswersLines old [] text new = (text ≡ []) × (new ≡ old)
  AnswersLines old (line ∷ lines) text new =
      (mid : S) × (first : List ℕ) × (rest : List ℕ) × (length line ≤ line_limit)
      × answers old line first mid × AnswersLines mid lines rest new × (text ≡ first ++ rest)

  -- The lines before line number n, which is this one, were answered with the text.
  pub record Reaches (old : S) (lines : List (List ℕ)) (n : ℕ) (line text : List ℕ) (at : S)
      : Type 0 where
    pub before : List (List ℕ)
    pub after : List (List ℕ)
    pub cut : lines ≡ before ++ line ∷ after
    pub number : n ≡ length before + 1
    pub answered : AnswersLines old before text at

  -- Lines from the first on were answered, and the text is a front of their answers.
  pub record Interrupted (old : S) (lines : List (List ℕ)) (text : List ℕ) : Type 0 where
    pub before : List (List ℕ)
    pub after : List (List ℕ)
    pub at : S
    pub unwritten : List ℕ
    pub cut : lines ≡ before ++ after
    pub answered : AnswersLines old before (text ++ unwritten) at

  -- line number n is the first that has too many bytes
  abbrev pub FirstTooLong : S → List (List ℕ) → List ℕ → ℕ → Type 0
  FirstTooLong old lines text n =
      (line : List ℕ) × (at : S) × Reaches old lines n line text at × (line_limit < length line)

module _ {S F : Type 0} (answers : AnswerRelation S) (refuses : RefusalRelation S F) where
  -- line number n is the first that is refused, with this fault
  abbrev pub FirstRefused : S → List (List ℕ) → List ℕ → ℕ → F → Type 0
  FirstRefused old lines text n fault =
      (line : List ℕ) × (at : S) × Reaches answers old lines n line text at
      × (length line ≤ line_limit) × refuses at line fault

module _ {S F : Type 0} (answers : AnswerRelation S) (refuses_end : S → F → Type 0) where
  -- all lines were answered, and their end is refused: n is the number of the line after the last
  abbrev pub EndRefused : S → List (List ℕ) → List ℕ → ℕ → F → S → Type 0
  EndRefused old lines text n fault new =
      AnswersLines answers old lines text new × refuses_end new fault × (n ≡ length lines + 1)

-- `Ended` says that the input came to its end
module _ (Ended : Type 0) {S F : Type 0} (answers : AnswerRelation S)
    (refuses : RefusalRelation S F) (may_end : S → Type 0) (refuses_end : S → F → Type 0) where
  -- What was read and what was written where a run ended so. Last bytes that no end of a line
  -- follows are a line only where the input came to its end.
  abbrev pub HasOutcome : S → List ℕ → List ℕ → S → Ending F → Type 0
  -- every line was answered, and nothing else was written
  HasOutcome old read text new ending.Done =
      Ended × AnswersLines answers old (all_lines read) text new × may_end new
  -- every line before the refused one was answered, and nothing else was written
  HasOutcome old read text new (ending.Refused n fault) =
      FirstRefused answers refuses old (whole_lines read) text n fault
      ⊎ (Ended × FirstRefused answers refuses old (all_lines read) text n fault)
      ⊎ (Ended × EndRefused answers refuses_end old (all_lines read) text n fault new)
  -- every line before the one that is too long was answered, and nothing else was written; that one
  -- has too many bytes whether it has ended or not
  HasOutcome old read text new (ending.TooLong n) =
      FirstTooLong answers old (all_lines read) text n
  -- every whole line of what came within the limit was answered
  HasOutcome old read text new ending.TooMuch =
      AnswersLines answers old (whole_lines (take read_limit read)) text new
  -- every whole line was answered
  HasOutcome old read text new ending.ReadFault =
      AnswersLines answers old (whole_lines read) text new
  -- some lines were answered, the last of them maybe not to its end
  HasOutcome old read text new ending.WriteFault =
      Interrupted answers old (whole_lines read) text
      ⊎ (Ended × Interrupted answers old (all_lines read) text)
  HasOutcome old read text new ending.NoMemory =
      Interrupted answers old (whole_lines read) text
      ⊎ (Ended × Interrupted answers old (all_lines read) text)

  -- A run ended so, where the source had `left` and has `left'`, and the sink `held` and `held'`.
  pub record RunsLines (left left' held held' : Stream) (old new : S) (end : Ending F)
      : Type 0 where
    pub read : List ℕ
    pub text : List ℕ
    pub taken : Consumes left left' read
    pub written : Appends held held' text
    pub too_much : (end ≡ ending.TooMuch) ↔ (read_limit < length read)
    pub outcome : HasOutcome old read text new end
