-- Runs over lines: what a line, a read, and each way to stop leave.
use Rattle.std.proofs.Common.{◌≡◌, ℕ, ◌+◌, ◌<◌, ◌≤◌, true, false, ◌||◌, List, [], ◌∷◌, ◌++◌, length, refl, sym, ap, subst, ◌∙◌, append_assoc, append-nil, length-append, arith, inl, inr}
use Rattle.std.specs.Prelude.{Option, Some, ◌==◌}
use Rattle.std.specs.Io.KnownBytes.{Appends}
use Rattle.std.proofs.KnownBytes.{Consumes-nil, Consumes-trans, Appends-nil, Appends-trans}
use Rattle.std.proofs.lemmas.Bool.{eqb-true}
use Rattle.lines.specs.Text.{line_end, line_limit, has_end, whole_lines, unfinished, last_line, all_lines}
use Rattle.lines.specs.Reading.{Reading, read_limit, nothing_read, TakesLine, Gets}
use Rattle.lines.specs.Replies.{Adds}
use Rattle.lines.specs.Responses.{IsAnswerFront}
use Rattle.lines.specs.Run.{AnswersLines, Interrupted}
use Rattle.lines.specs.Turns.{AnswersOrEnds, StopsAmong, Progress}
use Rattle.lines.specs.declared.run.Ending.{Ending}
use Rattle.lines.specs.declared.run.Ending.TheVariants as ending
use Rattle.lines.proofs.TextLemmas.{whole_lines-first, whole_lines-append, whole_lines-none, unfinished-after, unfinished-append, unfinished-none, has_end-joined}

-- ---- texts that begin with a line that is too long

first_end : (xs : List ℕ) → has_end xs ≡ true
    → (line : List ℕ) × (more : List ℕ) × (xs ≡ line ++ line_end ∷ more) × (has_end line ≡ false)
first_end [] h = absurd (cc)
first_end (x ∷ xs) h = elim (x == line_end) as (λ b. (x == line_end) ≡ b → (b || has_end xs) ≡ true → (line : List ℕ) × (more : List ℕ) × (x ∷ xs ≡ line ++ line_end ∷ more) × (has_end line ≡ false)) [
  | true ↦ λ e _. ([], xs, ap (λ y. y ∷ xs) (eqb-true x line_end e), refl)
  | false ↦ λ e h.
      let rest = first_end xs h in
      (x ∷ rest.0, rest.1, ap (λ l. x ∷ l) rest.2, ap (λ b. b || has_end rest.0) e ∙ rest.3)
] refl h

pub last_line-some : (xs : List ℕ) → 0 < length xs → last_line xs ≡ xs ∷ []
last_line-some [] h = absurd (omega arith)
last_line-some (x ∷ xs) h = refl

-- bytes that no end of a line follows begin the first line
pub all_lines-begun : (front rest : List ℕ) → has_end front ≡ false → 0 < length front
    → (tail : List ℕ) × (after : List (List ℕ)) × (all_lines (front ++ rest) ≡ (front ++ tail) ∷ after)
all_lines-begun front rest none some = elim (has_end rest) as (λ b. has_end rest ≡ b → (tail : List ℕ) × (after : List (List ℕ)) × (all_lines (front ++ rest) ≡ (front ++ tail) ∷ after)) [
  | true ↦ λ e.
      let cut = first_end rest e in
      let line = front ++ cut.0 in
      let same : front ++ rest ≡ line ++ line_end ∷ cut.1 = ap (λ l. front ++ l) cut.2 ∙ sym (append_assoc front cut.0 (line_end ∷ cut.1)) in
      let whole = ap whole_lines same ∙ whole_lines-first line cut.1 (has_end-joined front cut.0 none cut.3) in
      (cut.0, whole_lines cut.1 ++ last_line (unfinished (front ++ rest)), ap (λ ls. ls ++ last_line (unfinished (front ++ rest))) whole)
  | false ↦ λ e.
      let all = has_end-joined front rest none e in
      let long : 0 < length (front ++ rest) = omega (arith, length-append front rest) in (
        rest,
        [],
        ap (λ ls. ls ++ last_line (unfinished (front ++ rest))) (whole_lines-none (front ++ rest) all)
            ∙ ap last_line (unfinished-none (front ++ rest) all) ∙ last_line-some (front ++ rest) long,
      )
] refl

-- ---- lines that were answered

module _ {S : Type 0} (answers : S → List ℕ → List ℕ → S → Type 0) where
  AnswersLines-append : (old mid new : S) (lines more : List (List ℕ)) (text rest : List ℕ)
      → AnswersLines answers old lines text mid → AnswersLines answers mid more rest new
      → AnswersLines answers old (lines ++ more) (text ++ rest) new
  AnswersLines-append old mid new [] more text rest (e, same) runs =
      subst (λ t. AnswersLines answers old more (t ++ rest) new) (sym e) (subst (λ s. AnswersLines answers s more rest new) same runs)
  AnswersLines-append old mid new (line ∷ lines) more text rest (next, first, later, short, answered, runs', joined) runs =
      (next, first, later ++ rest, short, answered, AnswersLines-append next mid new lines more later rest runs' runs, ap (λ t. t ++ rest) joined ∙ append_assoc first later rest)

  -- one more line
  pub AnswersLines-more : (old mid new : S) (lines : List (List ℕ)) (line text more : List ℕ)
      → AnswersLines answers old lines text mid → length line ≤ line_limit
      → answers mid line more new → AnswersLines answers old (lines ++ line ∷ []) (text ++ more) new
  AnswersLines-more old mid new lines line text more runs short answered =
      AnswersLines-append old mid new lines (line ∷ []) text more runs (new, more, [], short, answered, (refl, refl), sym (append-nil more))

  -- ---- a run so far

  -- nothing was read yet
  pub Progress-none : (old : S) (left held : Option (List ℕ)) (waiting : List ℕ) (lines : Reading)
      → waiting ≡ [] → lines ≡ nothing_read
      → Progress answers old old left left held held waiting lines
  Progress-none old left held waiting lines none start =
      subst (λ w. Progress answers old old left left held held w lines) (sym none)
      (subst (λ l. Progress answers old old left left held held [] l) (sym start)
      (record {
        read = [];
        sent = [];
        done = [];
        taken = Consumes-nil left;
        written = Appends-nil held;
        answered = (refl, refl);
        whole = refl;
        rest = refl;
        number = refl;
        count = refl;
        limit = omega arith;
      }))

  -- one more line was answered
  pub Progress-line : (first now next : S) (left left' held held' held'' : Option (List ℕ))
      (waiting waiting' text : List ℕ) (lines lines' : Reading)
      → Progress answers first now left left' held held' waiting lines → TakesLine lines lines'
      → answers now lines'.line text next → Adds held' held'' waiting waiting' text
      → Progress answers first next left left' held held'' waiting' lines'
  Progress-line first now next left left' held held' held'' waiting waiting' text lines lines' progress takes answered adds =
      let more = AnswersLines-more first now next progress.done lines'.line (progress.sent ++ waiting) text progress.answered takes.short answered in
      let parted : (progress.sent ++ waiting) ++ text ≡ (progress.sent ++ adds.sent) ++ waiting' =
      append_assoc progress.sent waiting text ∙ ap (λ t. progress.sent ++ t) adds.kept ∙ sym (append_assoc progress.sent adds.sent waiting') in
      record {
        read = progress.read;
        sent = progress.sent ++ adds.sent;
        done = progress.done ++ lines'.line ∷ [];
        taken = progress.taken;
        written = Appends-trans held held' held'' progress.sent adds.sent progress.written adds.gone;
        answered = subst (λ t. AnswersLines answers first (progress.done ++ lines'.line ∷ []) t next) parted more;
        whole = progress.whole ∙ ap (λ l. progress.done ++ whole_lines l) takes.cut
            ∙ ap (λ ls. progress.done ++ ls) (whole_lines-first lines'.line lines'.ahead takes.one_line)
            ∙ sym (append_assoc progress.done (lines'.line ∷ []) (whole_lines lines'.ahead));
        rest = progress.rest ∙ ap unfinished takes.cut ∙ unfinished-after lines'.line lines'.ahead;
        number = omega (arith, takes.number, progress.number, length-append progress.done (lines'.line ∷ []));
        count = takes.count ∙ progress.count;
        limit = omega (arith, takes.count, progress.limit);
      }

  -- what waited was written
  pub Progress-flushed : (first now : S) (left left' held held' held'' : Option (List ℕ))
      (waiting waiting' : List ℕ) (lines : Reading)
      → Progress answers first now left left' held held' waiting lines
      → Appends held' held'' waiting → waiting' ≡ []
      → Progress answers first now left left' held held'' waiting' lines
  Progress-flushed first now left left' held held' held'' waiting waiting' lines progress gone none =
      let same : progress.sent ++ waiting ≡ (progress.sent ++ waiting) ++ waiting' = sym (ap (λ l. (progress.sent ++ waiting) ++ l) none ∙ append-nil (progress.sent ++ waiting)) in
      record {
        read = progress.read;
        sent = progress.sent ++ waiting;
        done = progress.done;
        taken = progress.taken;
        written = Appends-trans held held' held'' progress.sent waiting progress.written gone;
        answered = subst (λ t. AnswersLines answers first progress.done t now) same progress.answered;
        whole = progress.whole;
        rest = progress.rest;
        number = progress.number;
        count = progress.count;
        limit = progress.limit;
      }

  -- more was read
  pub Progress-read : (first now : S) (left left' left'' held held' : Option (List ℕ))
      (waiting : List ℕ) (lines lines' : Reading)
      → Progress answers first now left left' held held' waiting lines
      → Gets left' left'' lines lines' × (lines'.count ≤ read_limit)
      → Progress answers first now left left'' held held' waiting lines'
  Progress-read first now left left' left'' held held' waiting lines lines' progress (gets, limit) =
      let still : unfinished progress.read ++ gets.piece ≡ unfinished lines.ahead ++ gets.piece = ap (λ u. u ++ gets.piece) progress.rest in
      record {
        read = progress.read ++ gets.piece;
        sent = progress.sent;
        done = progress.done;
        taken = Consumes-trans left left' left'' progress.read gets.piece progress.taken gets.taken;
        written = progress.written;
        answered = progress.answered;
        whole = whole_lines-append progress.read gets.piece
            ∙ ap (λ ls. ls ++ whole_lines (unfinished progress.read ++ gets.piece)) progress.whole
            ∙ ap (λ u. (progress.done ++ whole_lines lines.ahead) ++ whole_lines u) still
            ∙ append_assoc progress.done (whole_lines lines.ahead) (whole_lines (unfinished lines.ahead ++ gets.piece))
            ∙ ap (λ ls. progress.done ++ ls) (sym (whole_lines-append lines.ahead gets.piece))
            ∙ ap (λ l. progress.done ++ whole_lines l) (sym gets.ahead);
        rest = unfinished-append progress.read gets.piece ∙ ap unfinished still ∙ sym (unfinished-append lines.ahead gets.piece) ∙ ap unfinished (sym gets.ahead);
        number = gets.number ∙ progress.number;
        count = omega (arith, gets.count, progress.count, length-append progress.read gets.piece);
        limit = limit;
      }

  -- all lines that have ended were answered
  pub whole_lines-done : (first now : S) (left left' held held' : Option (List ℕ))
      (waiting : List ℕ) (lines : Reading)
      (progress : Progress answers first now left left' held held' waiting lines) → has_end lines.ahead ≡ false → whole_lines progress.read ≡ progress.done
  whole_lines-done first now left left' held held' waiting lines progress none =
      progress.whole ∙ ap (λ ls. progress.done ++ ls) (whole_lines-none lines.ahead none) ∙ append-nil progress.done

  pub all_lines-done : (first now : S) (left left' held held' : Option (List ℕ)) (waiting : List ℕ)
      (lines : Reading)
      (progress : Progress answers first now left left' held held' waiting lines) → has_end lines.ahead ≡ false → all_lines progress.read ≡ progress.done ++ last_line lines.ahead
  all_lines-done first now left left' held held' waiting lines progress none =
      ap (λ ls. ls ++ last_line (unfinished progress.read)) (whole_lines-done first now left left' held held' waiting lines progress none)
      ∙ ap (λ u. progress.done ++ last_line u) (progress.rest ∙ unfinished-none lines.ahead none)

  -- ---- a run that stops in the middle of an answer

  -- a front of the answers was written
  Interrupted-front : (first now : S) (lines before after : List (List ℕ))
      (line sent waiting text written unwritten : List ℕ) → lines ≡ before ++ line ∷ after
      → length line ≤ line_limit → AnswersLines answers first before (sent ++ waiting) now
      → IsAnswerFront answers now line text → waiting ++ text ≡ written ++ unwritten
      → Interrupted answers first lines (sent ++ written)
  Interrupted-front first now lines before after line sent waiting text written unwritten cut short answered (inl none) parted =
      let same : sent ++ waiting ≡ (sent ++ written) ++ unwritten =
      ap (λ l. sent ++ l) (sym (append-nil waiting) ∙ ap (λ l. waiting ++ l) (sym none) ∙ parted) ∙ sym (append_assoc sent written unwritten) in
      record {
        before = before;
        after = line ∷ after;
        at = now;
        unwritten = unwritten;
        cut = cut;
        answered = subst (λ t. AnswersLines answers first before t now) same answered;
      }
  Interrupted-front first now lines before after line sent waiting text written unwritten cut short answered (inr (rest, next, answer)) parted =
      let more = AnswersLines-more first now next before line (sent ++ waiting) (text ++ rest) answered short answer in
      let same : (sent ++ waiting) ++ (text ++ rest) ≡ (sent ++ written) ++ (unwritten ++ rest) =
      sym (append_assoc (sent ++ waiting) text rest)
      ∙ ap (λ l. l ++ rest) (append_assoc sent waiting text ∙ ap (λ l. sent ++ l) parted ∙ sym (append_assoc sent written unwritten))
      ∙ append_assoc (sent ++ written) unwritten rest in
      record {
        before = before ++ line ∷ [];
        after = after;
        at = next;
        unwritten = unwritten ++ rest;
        cut = cut ∙ sym (append_assoc before (line ∷ []) after);
        answered = subst (λ t. AnswersLines answers first (before ++ line ∷ []) t next) same more;
      }

  -- a front of what waited was written
  pub Interrupted-flush : (first now : S) (lines before after : List (List ℕ))
      (sent waiting written unwritten : List ℕ) → lines ≡ before ++ after
      → AnswersLines answers first before (sent ++ waiting) now → waiting ≡ written ++ unwritten
      → Interrupted answers first lines (sent ++ written)
  Interrupted-flush first now lines before after sent waiting written unwritten cut answered parted = record {
    before = before;
    after = after;
    at = now;
    unwritten = unwritten;
    cut = cut;
    answered = subst (λ t. AnswersLines answers first before t now) (ap (λ l. sent ++ l) parted ∙ sym (append_assoc sent written unwritten)) answered;
  }

module _ (W : Type 0) {S F : Type 0} (answers : S → List ℕ → List ℕ → S → Type 0) (refuses : S → List ℕ → F → Type 0) where
  -- the run stops at a line
  pub StopsAmong-line : (first now new : S) (lines before after : List (List ℕ))
      (line sent waiting waiting' : List ℕ) (n : ℕ) (held held' held'' : Option (List ℕ))
      (end : Ending F) → lines ≡ before ++ line ∷ after → n ≡ length before + 1
      → length line ≤ line_limit → AnswersLines answers first before (sent ++ waiting) now
      → Appends held held' sent
      → AnswersOrEnds W answers refuses now new line n held' held'' waiting waiting' (Some end)
      → (text : List ℕ) × Appends held held'' text × StopsAmong W answers refuses first lines text end
  StopsAmong-line first now new lines before after line sent waiting waiting' n held held' held'' (ending.Refused m fault) cut number short answered written (same, refused, gone) =
      (sent ++ waiting, Appends-trans held held' held'' sent waiting written gone, (line, now, record { before = before; after = after; cut = cut; number = same ∙ number; answered = answered }, short, refused))
  StopsAmong-line first now new lines before after line sent waiting waiting' n held held' held'' ending.NoMemory cut number short answered written (text, front, gone) = (
    sent ++ (waiting ++ text),
    Appends-trans held held' held'' sent (waiting ++ text) written gone,
    Interrupted-front answers first now lines before after line sent waiting text (waiting ++ text) [] cut short answered front (sym (append-nil (waiting ++ text))),
  )
  StopsAmong-line first now new lines before after line sent waiting waiting' n held held' held'' ending.WriteFault cut number short answered written (failed, (text, front, loses)) = (
    sent ++ loses.sent,
    Appends-trans held held' held'' sent loses.sent written loses.gone,
    (failed, Interrupted-front answers first now lines before after line sent waiting text loses.sent loses.lost cut short answered front loses.front),
  )
  StopsAmong-line first now new lines before after line sent waiting waiting' n held held' held'' ending.Done cut number short answered written never = absurd never
  StopsAmong-line first now new lines before after line sent waiting waiting' n held held' held'' (ending.TooLong m) cut number short answered written never = absurd never
  StopsAmong-line first now new lines before after line sent waiting waiting' n held held' held'' ending.TooMuch cut number short answered written never = absurd never
  StopsAmong-line first now new lines before after line sent waiting waiting' n held held' held'' ending.ReadFault cut number short answered written never = absurd never
