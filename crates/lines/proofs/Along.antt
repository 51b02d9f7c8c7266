-- A run of one responder is a run of another that it follows step by step.
use Rattle.std.proofs.Common.{ℕ, List, [], ◌∷◌, ◌++◌, take, refl, sym, subst, inl, inr}
use Rattle.lines.specs.Streams.{Stream}
use Rattle.lines.specs.Text.{whole_lines, all_lines}
use Rattle.lines.specs.Reading.{read_limit}
use Rattle.lines.specs.Responses.{AnswerRelation, RefusalRelation}
use Rattle.lines.specs.Run.{AnswersLines, Reaches, Interrupted, FirstRefused}
use Rattle.lines.specs.Run.{HasOutcome, RunsLines}
use Rattle.lines.specs.declared.run.Ending.{Ending}
use Rattle.lines.specs.declared.run.Ending.TheVariants as ending

-- `Meets s t` says that the state t of the one is what the state s of the other stands for
module _ (Ended : Type 0) {S T F : Type 0}
    (answers : AnswerRelation S) (refuses : RefusalRelation S F) (may_end : S → Type 0) (refuses_end : S → F → Type 0)
    (answers' : AnswerRelation T) (refuses' : RefusalRelation T F) (may_end' : T → Type 0) (refuses_end' : T → F → Type 0)
    (Meets : S → T → Type 0)
    (step : (s s' : S) (t : T) (line text : List ℕ) → Meets s t → answers s line text s' → (t' : T) × answers' t line text t' × Meets s' t')
    (stop : (s : S) (t : T) (line : List ℕ) (fault : F) → Meets s t → refuses s line fault → refuses' t line fault)
    (end : (s : S) (t : T) → Meets s t → may_end s → may_end' t)
    (stop_end : (s : S) (t : T) (fault : F) → Meets s t → refuses_end s fault → refuses_end' t fault) where
  pub AnswersLines-along : (s s' : S) (t : T) (lines : List (List ℕ)) (text : List ℕ) → Meets s t
      → AnswersLines answers s lines text s'
      → (t' : T) × AnswersLines answers' t lines text t' × Meets s' t'
  AnswersLines-along s s' t [] text meets answered = (t, (answered.0, refl), subst (λ x. Meets x t) (sym answered.1) meets)
  AnswersLines-along s s' t (line ∷ lines) text meets (mid, first, rest, short, answer, answered, joined) =
      let one = step s mid t line first meets answer in
      let others = AnswersLines-along mid s' one.0 lines rest one.2 answered in
      (others.0, (one.0, first, rest, short, one.1, others.1, joined), others.2)

  Reaches-along : (s at : S) (t : T) (lines : List (List ℕ)) (n : ℕ) (line text : List ℕ)
      → Meets s t → Reaches answers s lines n line text at
      → (at' : T) × Reaches answers' t lines n line text at' × Meets at at'
  Reaches-along s at t lines n line text meets reaches =
      let along = AnswersLines-along s at t reaches.before text meets reaches.answered in
      (along.0, record { before = reaches.before; after = reaches.after; cut = reaches.cut; number = reaches.number; answered = along.1 }, along.2)

  FirstRefused-along : (s : S) (t : T) (lines : List (List ℕ)) (text : List ℕ) (n : ℕ) (fault : F)
      → Meets s t → FirstRefused answers refuses s lines text n fault
      → FirstRefused answers' refuses' t lines text n fault
  FirstRefused-along s t lines text n fault meets (line, at, reaches, short, refused) =
      let along = Reaches-along s at t lines n line text meets reaches in
      (line, along.0, along.1, short, stop at along.0 line fault along.2 refused)

  Interrupted-along : (s : S) (t : T) (lines : List (List ℕ)) (text : List ℕ) → Meets s t
      → Interrupted answers s lines text → Interrupted answers' t lines text
  Interrupted-along s t lines text meets short =
      let along = AnswersLines-along s short.at t short.before (text ++ short.unwritten) meets short.answered in
      record { before = short.before; after = short.after; at = along.0; unwritten = short.unwritten; cut = short.cut; answered = along.1 }

  HasOutcome-along : (s s' : S) (t : T) (read text : List ℕ) (ends : Ending F) → Meets s t
      → HasOutcome Ended answers refuses may_end refuses_end s read text s' ends
      → (t' : T) × HasOutcome Ended answers' refuses' may_end' refuses_end' t read text t' ends
  HasOutcome-along s s' t read text ending.Done meets (ended, answered, may) =
      let along = AnswersLines-along s s' t (all_lines read) text meets answered in
      (along.0, (ended, along.1, end s' along.0 along.2 may))
  HasOutcome-along s s' t read text (ending.Refused n fault) meets (inl first) = (t, inl (FirstRefused-along s t (whole_lines read) text n fault meets first))
  HasOutcome-along s s' t read text (ending.Refused n fault) meets (inr (inl last)) = (t, inr (inl (last.0, FirstRefused-along s t (all_lines read) text n fault meets last.1)))
  HasOutcome-along s s' t read text (ending.Refused n fault) meets (inr (inr (ended, (answered, refused, number)))) =
      let along = AnswersLines-along s s' t (all_lines read) text meets answered in
      (along.0, inr (inr (ended, (along.1, stop_end s' along.0 fault along.2 refused, number))))
  HasOutcome-along s s' t read text (ending.TooLong n) meets (line, at, reaches, long) =
      let along = Reaches-along s at t (all_lines read) n line text meets reaches in
      (t, (line, along.0, along.1, long))
  HasOutcome-along s s' t read text ending.TooMuch meets h = let along = AnswersLines-along s s' t (whole_lines (take read_limit read)) text meets h in (along.0, along.1)
  HasOutcome-along s s' t read text ending.ReadFault meets h = let along = AnswersLines-along s s' t (whole_lines read) text meets h in (along.0, along.1)
  HasOutcome-along s s' t read text ending.WriteFault meets (inl h) = (t, inl (Interrupted-along s t (whole_lines read) text meets h))
  HasOutcome-along s s' t read text ending.WriteFault meets (inr h) = (t, inr (h.0, Interrupted-along s t (all_lines read) text meets h.1))
  HasOutcome-along s s' t read text ending.NoMemory meets (inl h) = (t, inl (Interrupted-along s t (whole_lines read) text meets h))
  HasOutcome-along s s' t read text ending.NoMemory meets (inr h) = (t, inr (h.0, Interrupted-along s t (all_lines read) text meets h.1))

  pub RunsLines-along : (left left' held held' : Stream) (s s' : S) (t : T) (ends : Ending F)
      → Meets s t
      → RunsLines Ended answers refuses may_end refuses_end left left' held held' s s' ends
      → (t' : T) × RunsLines Ended answers' refuses' may_end' refuses_end' left left' held held' t t' ends
  RunsLines-along left left' held held' s s' t ends meets run =
      let along = HasOutcome-along s s' t run.read run.text ends meets run.outcome in
      (along.0, record { read = run.read; text = run.text; taken = run.taken; written = run.written; too_much = run.too_much; outcome = along.1 })
