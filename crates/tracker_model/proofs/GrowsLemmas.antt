-- Calls in order.
use Rattle.std.proofs.Common.{◌≡◌, ◌≢◌, ◌<◌, ℕ, true, false, List, [], ◌∷◌, ◌++◌, refl, sym, ◌∙◌, ap, subst, arith, length, map, cond, append_assoc, length-set, get_or-set_same, get_or-set_other}
use Rattle.std.proofs.lemmas.Bool.Decides.{nat_tests}
use Rattle.std.proofs.lemmas.List.{append-nil}
use Rattle.std.proofs.lemmas.List.Elements.{filter-append}
use Rattle.std.specs.Bool.{◌==◌}
use Rattle.std.specs.List.{filter, slice_set}
use Rattle.tracker_model.specs.Grows.{Move, Step, Grows, GrowsAlone, NoneBetween, OthersBetween, history_at, entries_in, entries_by}
use Rattle.tracker_model.specs.Legal.{IsLegalHistory}
use Rattle.tracker_model.specs.Settings.{Settings}
use Rattle.tracker_model.specs.declared.entry.Entry.{Entry}
use Rattle.tracker_model.proofs.Cases.{by_test}

same_number : (a b : ℕ) → (a == b) ≡ true → a ≡ b
same_number a b e = grind (arith, nat_tests)

other_number : (a b : ℕ) → (a == b) ≡ false → b ≢ a
other_number a b e = grind (arith, nat_tests)

unequal : (a b : ℕ) → a ≢ b → (a == b) ≡ false
unequal a b apart = grind (arith, nat_tests)

equal : (a b : ℕ) → a ≡ b → (a == b) ≡ true
equal a b same = grind (arith, nat_tests)

-- the entries on a bucket are those of the first call and those of the others
entries_in-more : (i : ℕ) (m : Move) (moves : List Move) → entries_in i (m ∷ moves) ≡ entries_in i (m ∷ []) ++ entries_in i moves
entries_in-more i m moves =
    elim (m.bucket == i) as (λ b. map (λ (k : Move). k.entry) (cond b (m ∷ filter (λ (k : Move). k.bucket == i) moves) (filter (λ (k : Move). k.bucket == i) moves)) ≡ map (λ (k : Move). k.entry) (cond b (m ∷ []) []) ++ entries_in i moves) [
      | true ↦ refl
      | false ↦ refl
    ]

module _ (Between : List Entry → Type 0) (g : Settings) (caller : ℕ) where
  pub grows-append : (old middle new : List (List Entry)) (moves more : List Move) → Grows Between g caller old moves middle → Grows Between g caller middle more new → Grows Between g caller old (moves ++ more) new
  grows-append old middle new [] more first then = let P : List (List Entry) → Type 0 = λ h. Grows Between g caller h more new in subst P first then
  grows-append old middle new (m ∷ moves) more first then = (first.0, first.1, grows-append first.0 middle new moves more first.2 then)

  pub grows-length : (old new : List (List Entry)) (moves : List Move) → Grows Between g caller old moves new → length new ≡ length old
  grows-length old new [] grows = ap length grows
  grows-length old new (m ∷ moves) grows = grows-length grows.0 new moves grows.2 ∙ ap length grows.1.grown ∙ length-set old m.bucket _

  step_here : (old : List (List Entry)) (m : Move) (new : List (List Entry)) (step : Step Between g caller old m new) → history_at new m.bucket ≡ history_at old m.bucket ++ (step.others ++ m.entry ∷ [])
  step_here old m new step = ap (λ h. history_at h m.bucket) step.grown ∙ get_or-set_same old m.bucket _ [] step.within

  step_elsewhere : (old : List (List Entry)) (m : Move) (new : List (List Entry)) (step : Step Between g caller old m new) (i : ℕ) → i ≢ m.bucket → history_at new i ≡ history_at old i
  step_elsewhere old m new step i apart = ap (λ h. history_at h i) step.grown ∙ get_or-set_other old m.bucket i _ [] apart

  step_legal : (old : List (List Entry)) (m : Move) (new : List (List Entry)) → Step Between g caller old m new → ((i : ℕ) → IsLegalHistory g (history_at old i)) → (i : ℕ) → IsLegalHistory g (history_at new i)
  step_legal old m new step legal i =
      by_test (m.bucket == i) (IsLegalHistory g (history_at new i))
      (λ yes. let P : ℕ → Type 0 = λ k. IsLegalHistory g (history_at new k) in subst P (same_number m.bucket i yes) step.legal)
      (λ no. let P : List Entry → Type 0 = λ h. IsLegalHistory g h in subst P (sym (step_elsewhere old m new step i (other_number m.bucket i no))) (legal i))

  pub grows-legal : (old new : List (List Entry)) (moves : List Move) → Grows Between g caller old moves new → ((i : ℕ) → IsLegalHistory g (history_at old i)) → (i : ℕ) → IsLegalHistory g (history_at new i)
  grows-legal old new [] grows legal i = let P : List (List Entry) → Type 0 = λ h. IsLegalHistory g (history_at h i) in subst P (sym grows) (legal i)
  grows-legal old new (m ∷ moves) grows legal i = grows-legal grows.0 new moves grows.2 (step_legal old m grows.0 grows.1 legal) i

  -- a history afterwards begins with what it was
  abbrev pub Begins : List Entry → List Entry → Type 0
  Begins old new = (more : List Entry) × (new ≡ old ++ more)

  step_begins : (old : List (List Entry)) (m : Move) (new : List (List Entry)) → Step Between g caller old m new → (i : ℕ) → Begins (history_at old i) (history_at new i)
  step_begins old m new step i =
      by_test (m.bucket == i) (Begins (history_at old i) (history_at new i))
      (λ yes. let P : ℕ → Type 0 = λ k. Begins (history_at old k) (history_at new k) in subst P (same_number m.bucket i yes) (step.others ++ m.entry ∷ [], step_here old m new step))
      (λ no. ([], step_elsewhere old m new step i (other_number m.bucket i no) ∙ sym (append-nil (history_at old i))))

  pub grows-begins : (old new : List (List Entry)) (moves : List Move) → Grows Between g caller old moves new → (i : ℕ) → Begins (history_at old i) (history_at new i)
  grows-begins old new [] grows i = ([], ap (λ h. history_at h i) grows ∙ sym (append-nil (history_at old i)))
  grows-begins old new (m ∷ moves) grows i =
      let first = step_begins old m grows.0 grows.1 i in
      let then = grows-begins grows.0 new moves grows.2 i in
      (first.0 ++ then.0, then.1 ∙ ap (λ l. l ++ then.0) first.1 ∙ append_assoc (history_at old i) first.0 then.0)

  -- what each step makes of a history all steps make of it, by a reading of histories
  module _ (read : List Entry → List Entry) (each : (old : List (List Entry)) (m : Move) (new : List (List Entry)) → Step Between g caller old m new → (i : ℕ) → read (history_at new i) ≡ read (history_at old i) ++ entries_in i (m ∷ [])) where
    grows-read : (old new : List (List Entry)) (moves : List Move) → Grows Between g caller old moves new → (i : ℕ) → read (history_at new i) ≡ read (history_at old i) ++ entries_in i moves
    grows-read old new [] grows i = ap (λ h. read (history_at h i)) grows ∙ sym (append-nil (read (history_at old i)))
    grows-read old new (m ∷ moves) grows i =
        grows-read grows.0 new moves grows.2 i
        ∙ ap (λ l. l ++ entries_in i moves) (each old m grows.0 grows.1 i)
        ∙ append_assoc (read (history_at old i)) (entries_in i (m ∷ [])) (entries_in i moves)
        ∙ ap (λ l. read (history_at old i) ++ l) (sym (entries_in-more i m moves))

module _ (g : Settings) (caller : ℕ) where
  -- of a caller that is alone
  alone_step : (old : List (List Entry)) (m : Move) (new : List (List Entry)) → Step NoneBetween g caller old m new → (i : ℕ) → history_at new i ≡ history_at old i ++ entries_in i (m ∷ [])
  alone_step old m new step i =
      by_test (m.bucket == i) (history_at new i ≡ history_at old i ++ entries_in i (m ∷ []))
      (λ yes. let P : ℕ → Type 0 = λ k. history_at new k ≡ history_at old k ++ entries_in i (m ∷ []) in
      subst P (same_number m.bucket i yes)
      (step_here NoneBetween g caller old m new step
      ∙ ap (λ l. history_at old m.bucket ++ (l ++ m.entry ∷ [])) step.between
      ∙ ap (λ b. history_at old m.bucket ++ map (λ (k : Move). k.entry) (cond b (m ∷ []) [])) (sym yes)))
      (λ no. step_elsewhere NoneBetween g caller old m new step i (other_number m.bucket i no)
      ∙ sym (append-nil (history_at old i))
      ∙ ap (λ b. history_at old i ++ map (λ (k : Move). k.entry) (cond b (m ∷ []) [])) (sym no))

  pub grows-alone : (old new : List (List Entry)) (moves : List Move) → GrowsAlone g caller old moves new → (i : ℕ) → history_at new i ≡ history_at old i ++ entries_in i moves
  grows-alone = grows-read NoneBetween g caller (λ h. h) alone_step

  -- none of the others' entries is the caller's
  not_own : (others : List Entry) → OthersBetween caller others → entries_by caller others ≡ []
  not_own [] apart = refl
  not_own (x ∷ others) apart = ap (λ b. cond b (x ∷ entries_by caller others) (entries_by caller others)) (unequal x.caller caller apart.0) ∙ not_own others apart.1

  among_step : (old : List (List Entry)) (m : Move) (new : List (List Entry)) → Step (OthersBetween caller) g caller old m new → (i : ℕ) → entries_by caller (history_at new i) ≡ entries_by caller (history_at old i) ++ entries_in i (m ∷ [])
  among_step old m new step i =
      let by = entries_by caller in
      let own : by (step.others ++ m.entry ∷ []) ≡ m.entry ∷ [] =
      filter-append (λ x. x.caller == caller) step.others (m.entry ∷ [])
      ∙ ap (λ l. l ++ by (m.entry ∷ [])) (not_own step.others step.between)
      ∙ ap (λ b. cond b (m.entry ∷ []) []) (equal m.entry.caller caller step.own) in
      by_test (m.bucket == i) (by (history_at new i) ≡ by (history_at old i) ++ entries_in i (m ∷ []))
      (λ yes. let P : ℕ → Type 0 = λ k. by (history_at new k) ≡ by (history_at old k) ++ entries_in i (m ∷ []) in
      subst P (same_number m.bucket i yes)
      (ap by (step_here (OthersBetween caller) g caller old m new step)
      ∙ filter-append (λ x. x.caller == caller) (history_at old m.bucket) (step.others ++ m.entry ∷ [])
      ∙ ap (λ l. by (history_at old m.bucket) ++ l) own
      ∙ ap (λ b. by (history_at old m.bucket) ++ map (λ (k : Move). k.entry) (cond b (m ∷ []) [])) (sym yes)))
      (λ no. ap by (step_elsewhere (OthersBetween caller) g caller old m new step i (other_number m.bucket i no))
      ∙ sym (append-nil (by (history_at old i)))
      ∙ ap (λ b. by (history_at old i) ++ map (λ (k : Move). k.entry) (cond b (m ∷ []) [])) (sym no))

  pub grows-among : (old new : List (List Entry)) (moves : List Move) → Grows (OthersBetween caller) g caller old moves new → (i : ℕ) → entries_by caller (history_at new i) ≡ entries_by caller (history_at old i) ++ entries_in i moves
  grows-among = grows-read (OthersBetween caller) g caller (entries_by caller) among_step

  -- one call of a caller that is alone
  pub grows-once : (old : List (List Entry)) (m : Move) → m.entry.caller ≡ caller → m.bucket < length old → IsLegalHistory g (history_at old m.bucket ++ m.entry ∷ []) →
      GrowsAlone g caller old (m ∷ []) (slice_set old m.bucket (history_at old m.bucket ++ m.entry ∷ []))
  grows-once old m own within legal =
      let new = slice_set old m.bucket (history_at old m.bucket ++ m.entry ∷ []) in
      let P : List Entry → Type 0 = λ h. IsLegalHistory g h in (
        new,
        record {
          others = [];
          own = own;
          between = refl;
          within = within;
          grown = refl;
          legal = subst P (sym (get_or-set_same old m.bucket (history_at old m.bucket ++ m.entry ∷ []) [] within)) legal;
        },
        refl,
      )
