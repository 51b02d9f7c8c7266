-- A run over lines of which none is too long, or refused where it stands, ends done, but for want
-- of memory and the faults of the outside.
use Rattle.std.proofs.Common.{◌≡◌, ℕ, ◌+◌, ◌<◌, ◌≤◌, Bool, true, false, ◌||◌, List, [], ◌∷◌, ◌++◌, length, take, refl, sym, ◌∙◌, ap, subst, inl, inr, arith, append_assoc, append-nil, length-append}
use Rattle.std.specs.Prelude.{◌==◌, ◌⊎◌, Option, Some, None}
use Rattle.std.specs.List.{AllByRecursion}
use Rattle.std.specs.Io.KnownBytes.{Consumes, IsAtEnd}
use Rattle.lines.specs.Text.{line_end, line_limit, has_end, whole_lines, unfinished, last_line, all_lines}
use Rattle.lines.specs.Reading.{read_limit}
use Rattle.lines.specs.Run.{AnswersLines, Reaches, FirstTooLong, FirstRefused, EndRefused, HasOutcome, RunsLines}
use Rattle.lines.specs.declared.run.Ending.{Ending}
use Rattle.lines.specs.declared.run.Ending.TheVariants as ending
use Rattle.std.proofs.lemmas.Bool.{eqb-true}
use Rattle.lines.proofs.TextLemmas.{has_end-append, whole_lines-none, unfinished-none, whole_lines-first, whole_lines-append, unfinished-append, has_end-unfinished, has_end-joined}

module _ {X : Type 0} (P : X → Type 0) where
  all-front : (xs ys : List X) → AllByRecursion P (xs ++ ys) → AllByRecursion P xs
  all-front [] ys all = tt
  all-front (x ∷ xs) ys all = (all.0, all-front xs ys all.1)

  all-back : (xs ys : List X) → AllByRecursion P (xs ++ ys) → AllByRecursion P ys
  all-back [] ys all = all
  all-back (x ∷ xs) ys all = all-back xs ys all.1

  all-at : (xs before after : List X) (x : X) → xs ≡ before ++ x ∷ after → AllByRecursion P xs → P x
  all-at xs before after x cut all = let Holds : List X → Type 0 = λ ys. AllByRecursion P ys in (all-back before (x ∷ after) (subst Holds cut all)).0

-- all lines of bytes are the whole lines of a front of them, and all lines of what is unfinished
-- then with what follows
all_lines-split : (read rest : List ℕ) → all_lines (read ++ rest) ≡ whole_lines read ++ all_lines (unfinished read ++ rest)
all_lines-split read rest =
    ap (λ whole. whole ++ last_line (unfinished (read ++ rest))) (whole_lines-append read rest)
    ∙ ap (λ left. (whole_lines read ++ whole_lines (unfinished read ++ rest)) ++ last_line left) (unfinished-append read rest)
    ∙ append_assoc (whole_lines read) (whole_lines (unfinished read ++ rest)) (last_line (unfinished (unfinished read ++ rest)))

-- the first line of bytes begins with a front of them that has no end
record BeginsWith (front : List ℕ) (lines : List (List ℕ)) : Type 0 where
  pub more : List ℕ
  pub others : List (List ℕ)
  pub first : lines ≡ (front ++ more) ∷ others

-- where the next byte ends the line, and where it doesn't
begins_ended : (front rest : List ℕ) (y : ℕ) → has_end front ≡ false → y ≡ line_end → BeginsWith front (all_lines (front ++ y ∷ rest))
begins_ended front rest y open_ ends =
    let same : front ++ y ∷ rest ≡ front ++ line_end ∷ rest = ap (λ b. front ++ b ∷ rest) ends in
    record {
      more = [];
      others = whole_lines rest ++ last_line (unfinished (front ++ line_end ∷ rest));
      first = ap all_lines same ∙ ap (λ whole. whole ++ last_line (unfinished (front ++ line_end ∷ rest))) (whole_lines-first front rest open_)
          ∙ ap (λ line. line ∷ (whole_lines rest ++ last_line (unfinished (front ++ line_end ∷ rest)))) (sym (append-nil front));
    }

begins_on : (front rest : List ℕ) (y : ℕ) → BeginsWith (front ++ y ∷ []) (all_lines ((front ++ y ∷ []) ++ rest)) → BeginsWith front (all_lines (front ++ y ∷ rest))
begins_on front rest y longer =
    let joined : (front ++ y ∷ []) ++ rest ≡ front ++ y ∷ rest = append_assoc front (y ∷ []) rest in
    record {
      more = y ∷ longer.more;
      others = longer.others;
      first = ap all_lines (sym joined) ∙ longer.first ∙ ap (λ line. line ∷ longer.others) (append_assoc front (y ∷ []) longer.more);
    }

first_begins : (x : ℕ) (front rest : List ℕ) → has_end (x ∷ front) ≡ false → BeginsWith (x ∷ front) (all_lines ((x ∷ front) ++ rest))
first_begins x front [] open_ =
    let same : (x ∷ front) ++ [] ≡ x ∷ front = append-nil (x ∷ front) in
    record {
      more = [];
      others = [];
      first = ap all_lines same ∙ ap (λ whole. whole ++ last_line (unfinished (x ∷ front))) (whole_lines-none (x ∷ front) open_) ∙ ap last_line (unfinished-none (x ∷ front) open_) ∙ ap (λ line. line ∷ []) (sym same);
    }
first_begins x front (y ∷ rest) open_ =
    elim (y == line_end) as (λ b. (y == line_end) ≡ b → BeginsWith (x ∷ front) (all_lines ((x ∷ front) ++ y ∷ rest))) [
      | true ↦ λ e. begins_ended (x ∷ front) rest y open_ (eqb-true y line_end e)
      | false ↦ λ e. begins_on (x ∷ front) rest y (first_begins x (front ++ y ∷ []) rest (has_end-joined (x ∷ front) (y ∷ []) open_ (ap (λ b. b || false) e)))
    ] refl

-- lines that are all short, of bytes that begin with these, leave none of these too long
short_front : (left : List ℕ) (rest : List ℕ) → has_end left ≡ false → AllByRecursion (λ line. length line ≤ line_limit) (all_lines (left ++ rest)) → AllByRecursion (λ line. length line ≤ line_limit) (last_line left)
short_front [] rest open_ short = tt
short_front (x ∷ left) rest open_ short =
    let begins = first_begins x left rest open_ in
    let Short : List (List ℕ) → Type 0 = λ lines. AllByRecursion (λ (line : List ℕ). length line ≤ line_limit) lines in
    let whole : length ((x ∷ left) ++ begins.more) ≤ line_limit = (subst Short begins.first short).0 in
    (omega (arith, length-append (x ∷ left) begins.more), tt)

-- a line has no more bytes than a line may have
abbrev pub IsShortLine : List ℕ → Type 0
IsShortLine line = length line ≤ line_limit

-- `Good s lines` says that from the state s on none of these lines is refused, and their end isn't
module _ (Rose : Type 0) {S F : Type 0} (answers : S → List ℕ → List ℕ → S → Type 0) (refuses : S → List ℕ → F → Type 0)
    (may_end : S → Type 0) (refuses_end : S → F → Type 0)
    (Good : S → List (List ℕ) → Type 0)
    (goes_on : (s s' : S) (line text : List ℕ) (lines : List (List ℕ)) → Good s (line ∷ lines) → answers s line text s' → Good s' lines)
    (unrefused : (s : S) (line : List ℕ) (lines : List (List ℕ)) (fault : F) → Good s (line ∷ lines) → refuses s line fault → ⊥)
    (closes : (s : S) (fault : F) → Good s [] → refuses_end s fault → ⊥) where
  -- what is good stays so behind the lines that were answered
  good_behind : (s s' : S) (before rest : List (List ℕ)) (text : List ℕ) → Good s (before ++ rest) → AnswersLines answers s before text s' → Good s' rest
  good_behind s s' [] rest text good answered = let GoodAt : S → Type 0 = λ x. Good x rest in subst GoodAt (sym answered.1) good
  good_behind s s' (line ∷ before) rest text good (mid, first, others, short, answer, answered, joined) =
      good_behind mid s' before rest others (goes_on s mid line first (before ++ rest) good answer) answered

  none_refused : (old : S) (lines more : List (List ℕ)) (text : List ℕ) (n : ℕ) (fault : F) → Good old (lines ++ more) → FirstRefused answers refuses old lines text n fault → ⊥
  none_refused old lines more text n fault good (line, at, reaches, short, refused) =
      let all : lines ++ more ≡ reaches.before ++ (line ∷ (reaches.after ++ more)) = ap (λ xs. xs ++ more) reaches.cut ∙ append_assoc reaches.before (line ∷ reaches.after) more in
      let GoodOld : List (List ℕ) → Type 0 = λ xs. Good old xs in
      unrefused at line (reaches.after ++ more) fault (good_behind old at reaches.before (line ∷ (reaches.after ++ more)) text (subst GoodOld all good) reaches.answered) refused

  end_unrefused : (old new : S) (lines : List (List ℕ)) (text : List ℕ) (n : ℕ) (fault : F) → Good old lines → EndRefused answers refuses_end old lines text n fault new → ⊥
  end_unrefused old new lines text n fault good refused =
      let GoodOld : List (List ℕ) → Type 0 = λ xs. Good old xs in
      closes new fault (good_behind old new lines [] text (subst GoodOld (sym (append-nil lines)) good) refused.0) refused.1

  joined : (xs ys : List (List ℕ)) → AllByRecursion IsShortLine xs → AllByRecursion IsShortLine ys → AllByRecursion IsShortLine (xs ++ ys)
  joined [] ys short others = others
  joined (x ∷ xs) ys short others = (short.0, joined xs ys short.1 others)

  -- none of the lines of a front of the bytes is too long, whether it has ended or not
  all_short : (read rest : List ℕ) → AllByRecursion IsShortLine (all_lines (read ++ rest)) → AllByRecursion IsShortLine (all_lines read)
  all_short read rest short =
      let Short : List (List ℕ) → Type 0 = λ lines. AllByRecursion IsShortLine lines in
      let split = subst Short (all_lines-split read rest) short in
      joined (whole_lines read) (last_line (unfinished read))
      (all-front IsShortLine (whole_lines read) (all_lines (unfinished read ++ rest)) split)
      (short_front (unfinished read) rest (has_end-unfinished read) (all-back IsShortLine (whole_lines read) (all_lines (unfinished read ++ rest)) split))

  -- at the end nothing is left
  all_read : (bytes read : List ℕ) (left' : Option (List ℕ)) → Consumes (Some bytes) left' read → IsAtEnd left' → bytes ≡ read
  all_read bytes read None taken end = absurd taken
  all_read bytes read (Some rest) taken end = taken ∙ ap (λ xs. read ++ xs) end ∙ append-nil read

  taken_rest : (bytes read : List ℕ) (left' : Option (List ℕ)) → Consumes (Some bytes) left' read → (rest : List ℕ) × (bytes ≡ read ++ rest)
  taken_rest bytes read None taken = absurd taken
  taken_rest bytes read (Some rest) taken = (rest, taken)

  ends_well : (bytes read text : List ℕ) (left' : Option (List ℕ)) (old new : S) (end : Ending F) → Consumes (Some bytes) left' read
      → AllByRecursion IsShortLine (all_lines bytes) → Good old (all_lines bytes) → (end ≡ ending.ReadFault → ⊥) → (end ≡ ending.WriteFault → ⊥) → (end ≡ ending.TooMuch → ⊥)
      → HasOutcome (Rose × IsAtEnd left') answers refuses may_end refuses_end old read text new end → (end ≡ ending.Done) ⊎ (end ≡ ending.NoMemory)
  ends_well bytes read text left' old new ending.Done taken short good reads writes little h = inl refl
  ends_well bytes read text left' old new (ending.Refused n fault) taken short good reads writes little (inl h) =
      let rest = taken_rest bytes read left' taken in
      let GoodOld : List (List ℕ) → Type 0 = λ xs. Good old xs in
      absurd (none_refused old (whole_lines read) (all_lines (unfinished read ++ rest.0)) text n fault
      (subst GoodOld (ap all_lines rest.1 ∙ all_lines-split read rest.0) good) h)
  ends_well bytes read text left' old new (ending.Refused n fault) taken short good reads writes little (inr (inl h)) =
      let GoodOld : List (List ℕ) → Type 0 = λ xs. Good old xs in
      absurd (none_refused old (all_lines read) [] text n fault (subst GoodOld (ap all_lines (all_read bytes read left' taken h.0.1) ∙ sym (append-nil (all_lines read))) good) h.1)
  ends_well bytes read text left' old new (ending.Refused n fault) taken short good reads writes little (inr (inr h)) =
      let GoodOld : List (List ℕ) → Type 0 = λ xs. Good old xs in
      absurd (end_unrefused old new (all_lines read) text n fault (subst GoodOld (ap all_lines (all_read bytes read left' taken h.0.1)) good) h.1)
  ends_well bytes read text left' old new (ending.TooLong n) taken short good reads writes little (line, at, reaches, long) =
      let rest = taken_rest bytes read left' taken in
      let Short : List ℕ → Type 0 = λ xs. AllByRecursion IsShortLine (all_lines xs) in
      let fits : length line ≤ line_limit = all-at IsShortLine (all_lines read) reaches.before reaches.after line reaches.cut (all_short read rest.0 (subst Short rest.1 short)) in
      absurd (omega arith)
  ends_well bytes read text left' old new ending.TooMuch taken short good reads writes little h = absurd (little refl)
  ends_well bytes read text left' old new ending.ReadFault taken short good reads writes little h = absurd (reads refl)
  ends_well bytes read text left' old new ending.WriteFault taken short good reads writes little h = absurd (writes refl)
  ends_well bytes read text left' old new ending.NoMemory taken short good reads writes little h = inr refl

  -- where the input tells its bytes, its lines are all short and good, and the outside doesn't fail
  pub complete : (bytes : List ℕ) (left' held held' : Option (List ℕ)) (old new : S) (end : Ending F)
      → AllByRecursion IsShortLine (all_lines bytes) → Good old (all_lines bytes) → length bytes ≤ read_limit → (end ≡ ending.ReadFault → ⊥) → (end ≡ ending.WriteFault → ⊥)
      → RunsLines (Rose × IsAtEnd left') answers refuses may_end refuses_end (Some bytes) left' held held' old new end → (end ≡ ending.Done) ⊎ (end ≡ ending.NoMemory)
  complete bytes left' held held' old new end short good few reads writes run =
      let rest = taken_rest bytes run.read left' run.taken in
      ends_well bytes run.read run.text left' old new end run.taken short good reads writes
      (λ much. let over : read_limit < length run.read = run.too_much.0 much in
      omega (arith, ap length rest.1, length-append run.read rest.0))
      run.outcome
