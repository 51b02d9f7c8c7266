-- How what is written adds up, and what is known before the first phase.
use Rattle.std.proofs.Common.{◌≡◌, ◌≢◌, ℕ, zero, suc, ◌+◌, ◌-◌, ◌*◌, ◌^◌, ◌≤◌, List, [], ◌∷◌, ◌++◌, All, length, map, take, refl, sym, ap, subst, ◌∙◌, append_assoc, append-nil, length-append, arith}
use Rattle.std.proofs.KnownBytes.{Appends-trans}
use Rattle.std.specs.Prelude.{Err, IfOk, Ok, Option, Result, reverse}
use Rattle.std.specs.List.{flat_map, range_with_len, sum_by}
use Rattle.std.specs.Io.KnownBytes.{Appends}
use Rattle.std.proofs.Math.Seq.{take-append-add}
use Rattle.std.proofs.lemmas.List.{length-map, take-append-le}
use Rattle.std.proofs.lemmas.List.Elements.{All-map}
use Rattle.std.proofs.lemmas.List.Sums.{sum_by-cons}
use Rattle.ot_io.specs.Counts.{Rose}
use Rattle.ot_io.specs.declared.status.Status.{Status}
use Rattle.ot_io.specs.declared.status.Status.TheVariants.{Done, Words, NoMemory, ReadFault}
use Rattle.ot_io.specs.declared.status.Status.TheVariants.{WriteFault, Line, TooLong, TooMuch, Device}
use Rattle.ot_io.specs.declared.status.Status.TheVariants as status
use Rattle.tracker_model.specs.declared.entry.Entry.{Entry}
use Rattle.turn_lock.specs.Histories.{AllBelow}
use Rattle.turn_lock.specs.Shape.{LockShape}
use Rattle.shards.specs.Shape.{PassShape, ShardsShape, first_pass}
use Rattle.shards.proofs.FirstPass.{nothing_seen}
use Rattle.load_model.specs.Alike.{IsPart}
use Rattle.load_model.specs.Load.{load_settings, requests}
use Rattle.load_model.specs.Text.{phase_line, phase_lines, totals_after}
use Rattle.load_model.specs.declared.request.Request.{Request}
use Rattle.load_model.specs.declared.settings.DrillSettings.{DrillSettings}
use Rattle.load_model.proofs.AlikeLemmas.{alike_itself}
use Rattle.load_model.proofs.PhasedLemmas.{all_drawn_by, all_left}
use Rattle.drill.specs.Phases.{AreOfDrill, IsAfter}
use Rattle.drill.specs.Run.{Writes, WritesFront}

-- ---- texts one after another

rose_before : (first middle last : ℕ) → first ≤ middle → Rose middle last → Rose first last
rose_before first middle last le rose = omega arith

front_behind : (old middle new : Option (List ℕ)) (text more : List ℕ) → Appends old middle text → WritesFront middle new more → WritesFront old new (text ++ more)
front_behind old middle new text more wrote front = (
  length text + front.0,
  (let few = front.1 in let all = length-append text more in omega arith),
  subst (Appends old new) (sym (take-append-add text more front.0)) (Appends-trans old middle new text (take front.0 more) wrote front.2),
)

-- a text was written, and then a run wrote another one
pub writes_behind : (old middle new : Option (List ℕ)) (first then last : ℕ) (text more : List ℕ) (end : Status) → Appends old middle text → first ≤ then → Writes middle new then last more end → Writes old new first last (text ++ more) end
writes_behind old middle new first then last text more Done wrote le writes = Appends-trans old middle new text more wrote writes
writes_behind old middle new first then last text more NoMemory wrote le writes = front_behind old middle new text more wrote writes
writes_behind old middle new first then last text more WriteFault wrote le writes = (front_behind old middle new text more wrote writes.0, rose_before first then last le writes.1)
writes_behind old middle new first then last text more (Words at) wrote le writes = absurd writes
writes_behind old middle new first then last text more ReadFault wrote le writes = absurd writes
writes_behind old middle new first then last text more (Line line fault) wrote le writes = absurd writes
writes_behind old middle new first then last text more (TooLong line) wrote le writes = absurd writes
writes_behind old middle new first then last text more TooMuch wrote le writes = absurd writes
writes_behind old middle new first then last text more (status.List line fault) wrote le writes = absurd writes
writes_behind old middle new first then last text more Device wrote le writes = absurd writes

front_of_more : (old new : Option (List ℕ)) (text more : List ℕ) → WritesFront old new text → WritesFront old new (text ++ more)
front_of_more old new text more front = (
  front.0,
  (let few = front.1 in let all = length-append text more in omega arith),
  subst (Appends old new) (sym (take-append-le front.0 text more front.1)) front.2,
)

-- what a run wrote that isn't done is a front of any longer text
pub writes_no_more : (old new : Option (List ℕ)) (first last : ℕ) (text more : List ℕ) (end : Status) → end ≢ Done → Writes old new first last text end → Writes old new first last (text ++ more) end
writes_no_more old new first last text more Done fails writes = absurd (fails refl)
writes_no_more old new first last text more NoMemory fails writes = front_of_more old new text more writes
writes_no_more old new first last text more WriteFault fails writes = (front_of_more old new text more writes.0, writes.1)
writes_no_more old new first last text more (Words at) fails writes = absurd writes
writes_no_more old new first last text more ReadFault fails writes = absurd writes
writes_no_more old new first last text more (Line line fault) fails writes = absurd writes
writes_no_more old new first last text more (TooLong line) fails writes = absurd writes
writes_no_more old new first last text more TooMuch fails writes = absurd writes
writes_no_more old new first last text more (status.List line fault) fails writes = absurd writes
writes_no_more old new first last text more Device fails writes = absurd writes

-- ---- the lines of phases

module _ (s : DrillSettings) where
  abbrev pub line_of : ℕ → List ℕ
  line_of phase = phase_line phase (totals_after s phase)

  -- lines from some phase on, and the lines behind them
  lines_cut : (a n m : ℕ) → flat_map line_of (range_with_len a (n + m)) ≡ flat_map line_of (range_with_len a n) ++ flat_map line_of (range_with_len (a + n) m)
  lines_cut a zero m =
      (λ k. flat_map line_of (range_with_len (here k) (none k)))
    where
      here : a ≡ a + 0
      here = omega arith

      none : 0 + m ≡ m
      none = omega arith
  lines_cut a (suc n) m =
      let count : suc n + m ≡ suc (n + m) = omega arith in
      let place : a + 1 + n ≡ a + suc n = omega arith in
      ap (λ c. flat_map line_of (range_with_len a c)) count
      ∙ ap (λ l. line_of a ++ l) (lines_cut (a + 1) n m)
      ∙ sym (append_assoc (line_of a) (flat_map line_of (range_with_len (a + 1) n)) (flat_map line_of (range_with_len (a + 1 + n) m)))
      ∙ ap (λ p. (line_of a ++ flat_map line_of (range_with_len (a + 1) n)) ++ flat_map line_of (range_with_len p m)) place

  pub one_line_more : (n : ℕ) → phase_lines s (n + 1) ≡ phase_lines s n ++ line_of n
  one_line_more n = lines_cut 0 n 1 ∙ ap (λ l. phase_lines s n ++ l) (append-nil (line_of (0 + n)) ∙ ap line_of (let e : 0 + n ≡ n = omega arith in e))

  pub lines_left : (n : ℕ) → n ≤ 8 → (rest : List ℕ) × (phase_lines s 8 ≡ phase_lines s n ++ rest)
  lines_left n le =
      let parts : n + (8 - n) ≡ 8 = omega arith in
      (flat_map line_of (range_with_len (0 + n) (8 - n)), ap (λ c. phase_lines s c) (sym parts) ∙ lines_cut 0 n (8 - n))

-- ---- before the first phase

none_below : (n : ℕ) (locks : List LockShape) → All (AllBelow n) (map (λ (lock : LockShape). []) locks)
none_below n locks = All-map (AllBelow n) (λ (lock : LockShape). []) locks (λ k d within. tt)

no_calls_yet : (locks : List LockShape) → sum_by {X = List Entry} length (map (λ (lock : LockShape). []) locks) ≡ 0
no_calls_yet [] = refl
no_calls_yet (lock ∷ locks) = sum_by-cons {X = List Entry} length [] (map (λ (lock : LockShape). []) locks) ∙ (let e = no_calls_yet locks in omega arith)

pub before_all : (s : DrillSettings) (shards : ShardsShape) → AreOfDrill s shards → length shards.locks ≡ 2 ^ s.bits → IsAfter s 0 (requests s) (first_pass shards)
before_all s shards of_drill count = record {
  drew = 0;
  drawn = all_left s;
  shards = of_drill;
  alone = record {
    first = refl;
    none_out = refl;
    some = omega arith;
    joined = λ n from less apart. absurd (omega arith);
    known = record { free_fits = (let e = of_drill.callers in omega arith); not_free = λ first. none_below 1 shards.locks };
  };
  free = (let e : 1 ≡ 0 * s.workers + 1 = omega arith in e);
  buckets = length-map shards.locks (λ (lock : LockShape). []) ∙ count;
  parts = λ bucket within.
      subst (λ past. IsPart s.bits bucket (15 * 0) past []) (ap reverse (sym (nothing_seen shards.locks bucket)))
      (record {
        alike = λ h mine. alike_itself (15 * 0) h [] (omega arith);
        elsewhere = λ h other. refl;
        on_time = omega arith;
        load_on_time = omega arith;
      });
  calls = no_calls_yet shards.locks ∙ (let e : 0 ≡ 0 + 0 * 2 ^ s.bits = omega arith in e);
}

-- the same, as far as there is memory for shards
pub opens : {E : Type 0} (s : DrillSettings) (result : Result (ShardsShape × PassShape) E) →
    IfOk result (λ r. r.0.settings ≡ load_settings) → IfOk result (λ r. r.0.bits ≡ s.bits) → IfOk result (λ r. r.0.callers ≡ 8 * s.workers + 1) →
    IfOk result (λ r. length r.0.locks ≡ 2 ^ s.bits) → IfOk result (λ r. r.1 ≡ first_pass r.0) →
    IfOk result (λ r. IsAfter s 0 (requests s) r.1)
opens s (Ok r) settings bits callers buckets pass =
    subst (IsAfter s 0 (requests s)) (sym pass) (before_all s r.0 (record { settings = settings; bits = bits; callers = callers }) buckets)
opens s (Err error) settings bits callers buckets pass = tt

-- ---- after the last phase

pub all_calls : (s : DrillSettings) (left : List (ℕ × Request)) (pass : PassShape) → IsAfter s 8 left pass → sum_by length pass.seen ≡ s.count + 8 * 2 ^ s.bits
all_calls s left pass is = is.calls ∙ ap (λ n. n + 8 * 2 ^ s.bits) (all_drawn_by s is.drew left is.drawn)
