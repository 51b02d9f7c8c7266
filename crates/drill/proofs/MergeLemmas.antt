-- One bucket's entries of a phase, by the workers that made them.
use Rattle.std.proofs.Common.{◌≡◌, ◌≢◌, ℕ, zero, suc, ◌+◌, ◌-◌, ◌%◌, ◌<◌, ◌≤◌, Bool, true, false, List, [], ◌∷◌, ◌++◌, length, map, cond, refl, sym, ap, subst, ◌∙◌, ⊎_elim, append-nil, get_or, arith}
use Rattle.std.specs.Bool.{◌==◌}
use Rattle.std.specs.List.{AllByRecursion, filter}
use Rattle.std.proofs.lemmas.Bool.{cases_lt}
use Rattle.std.proofs.lemmas.Bool.Decides.{nat_tests}
use Rattle.std.proofs.lemmas.List.Elements.{filter-append}
use Rattle.ot_base.specs.declared.minute.Minute.{Minute}
use Rattle.tracker_model.specs.Grows.{OthersBetween, entries_by}
use Rattle.tracker_model.specs.Placed.{bucket_for, bucket_in}
use Rattle.tracker_model.specs.declared.call.Call.{Call}
use Rattle.tracker_model.specs.declared.entry.Entry.{Entry}
use Rattle.tracker_model.proofs.Cases.{by_test}
use Rattle.load_model.specs.Alike.{IsOfPhase}
use Rattle.load_model.specs.Load.{call_of, caller_number, peer_number}
use Rattle.load_model.specs.declared.request.Request.{Request}
use Rattle.load_model.proofs.LoadLemmas.{call_caller}
use Rattle.load_model.proofs.PartLemmas.{all_both, all_mapped, all_weaker, part_of_all, passes_all}
use Rattle.load_model.proofs.Shuffle.{none_of_key}
use Rattle.drill.specs.Asking.{IsAsked}
use Rattle.drill.specs.Dealing.{share_of}
use Rattle.drill.specs.Phases.{HasMade}

-- ---- lists

module _ {X : Type 0} where
  pub all_each : (P : X → Type 0) → ((x : X) → P x) → (xs : List X) → AllByRecursion P xs
  all_each P each [] = tt
  all_each P each (x ∷ xs) = (each x, all_each P each xs)

  pub all_at : (P : X → Type 0) (xs : List X) → AllByRecursion P xs → (i : ℕ) (d : X) → i < length xs → P (get_or xs i d)
  all_at P [] all i d below = absurd (omega arith)
  all_at P (x ∷ xs) all zero d below = all.0
  all_at P (x ∷ xs) all (suc i) d below = all_at P xs all.1 i d (omega arith)

  -- tests that agree on all elements leave the same ones
  same_tests : (p q : X → Bool) (xs : List X) → AllByRecursion (λ x. p x ≡ q x) xs → filter p xs ≡ filter q xs
  same_tests p q [] all = refl
  same_tests p q (x ∷ xs) all = λ k. cond (all.0 k) (x ∷ same_tests p q xs all.1 k) (same_tests p q xs all.1 k)

  cond_tested : (p : X → Bool) (b : Bool) (x : X) (l : List X) → filter p (cond b (x ∷ l) l) ≡ cond b (cond (p x) (x ∷ filter p l) (filter p l)) (filter p l)
  cond_tested p true x l = refl
  cond_tested p false x l = refl

  conds_swap : (a b : Bool) (u v : List X) → cond a (cond b u v) v ≡ cond b (cond a u v) v
  conds_swap true true u v = refl
  conds_swap true false u v = refl
  conds_swap false true u v = refl
  conds_swap false false u v = refl

  -- of two tests either may come first
  tests_swap : (p q : X → Bool) (xs : List X) → filter p (filter q xs) ≡ filter q (filter p xs)
  tests_swap p q [] = refl
  tests_swap p q (x ∷ xs) =
      cond_tested p (q x) x (filter q xs)
      ∙ conds_swap (q x) (p x) (x ∷ filter p (filter q xs)) (filter p (filter q xs))
      ∙ ap (λ l. cond (p x) (cond (q x) (x ∷ l) l) l) (tests_swap p q xs)
      ∙ sym (cond_tested q (p x) x (filter p xs))

module _ {X Y : Type 0} (f : X → Y) where
  all_unmapped : (P : Y → Type 0) (xs : List X) → AllByRecursion P (map f xs) → AllByRecursion (λ x. P (f x)) xs
  all_unmapped P [] all = tt
  all_unmapped P (x ∷ xs) all = (all.0, all_unmapped P xs all.1)

  -- what passes a test of its value, and is mapped then
  test_of_value : (p : Y → Bool) (xs : List X) → filter p (map f xs) ≡ map f (filter (λ x. p (f x)) xs)
  test_of_value p [] = refl
  test_of_value p (x ∷ xs) =
      ap (λ l. cond (p (f x)) (f x ∷ l) l) (test_of_value p xs)
      ∙ (elim (p (f x)) as (λ b. cond b (f x ∷ map f (filter (λ y. p (f y)) xs)) (map f (filter (λ y. p (f y)) xs)) ≡ map f (cond b (x ∷ filter (λ y. p (f y)) xs) (filter (λ y. p (f y)) xs))) [ true ↦ refl | false ↦ refl ])

-- ---- one worker's entries

none_by : (caller : ℕ) (others : List Entry) → OthersBetween caller others → entries_by caller others ≡ []
none_by caller others apart = none_of_key (λ (x : Entry). x.caller) caller others apart

-- what a worker made is what the whole history has of it
pub own_entries : (minute : Minute) (bits bucket caller : ℕ) (rs : List Request) (before entries seen others after : List Entry) →
    after ≡ before ++ entries → after ≡ seen ++ others → OthersBetween caller before → OthersBetween caller others →
    IsAsked minute bits bucket caller rs before seen → IsAsked minute bits bucket caller rs [] entries
own_entries minute bits bucket caller rs before entries seen others after grown on none_before none_others asked =
    let by = entries_by caller in
    let mine : by after ≡ by entries =
    ap by grown ∙ filter-append (λ (x : Entry). x.caller == caller) before entries ∙ ap (λ l. l ++ by entries) (none_by caller before none_before) in
    let theirs : by after ≡ asked.entries =
    ap by on ∙ filter-append (λ (x : Entry). x.caller == caller) seen others ∙ ap (λ l. by seen ++ l) (none_by caller others none_others) ∙ append-nil (by seen)
    ∙ asked.own ∙ ap (λ l. l ++ asked.entries) (none_by caller before none_before) in
    record { entries = asked.entries; own = sym mine ∙ theirs; of_phase = asked.of_phase; calls = asked.calls }

-- ---- all workers' entries

abbrev pub AreFrom : (free workers : ℕ) → List Entry → Type 0
AreFrom free workers xs = AllByRecursion (λ x. (free ≤ x.caller) × (x.caller < free + workers)) xs

-- what holds of each caller's entries holds of all
all_by_callers : (P : Entry → Type 0) (free workers : ℕ) (xs : List Entry) → AreFrom free workers xs → ((i : ℕ) → i < workers → AllByRecursion P (entries_by (free + i) xs)) → AllByRecursion P xs
all_by_callers P free workers [] range each = tt
all_by_callers P free workers (x ∷ xs) range each =
    let i : ℕ = x.caller - free in
    let from : free ≤ x.caller = range.0.0 in
    let below : x.caller < free + workers = range.0.1 in
    let is_it : (x.caller == free + i) ≡ true = grind (arith, nat_tests) in
    let mine : AllByRecursion P (x ∷ entries_by (free + i) xs) = subst (λ b. AllByRecursion P (cond b (x ∷ entries_by (free + i) xs) (entries_by (free + i) xs))) is_it (each i (omega arith)) in
    let rest : (j : ℕ) → j < workers → AllByRecursion P (entries_by (free + j) xs) = λ j few.
    (elim (x.caller == free + j) as (λ b. AllByRecursion P (cond b (x ∷ entries_by (free + j) xs) (entries_by (free + j) xs)) → AllByRecursion P (entries_by (free + j) xs)) [ true ↦ λ all. all.1 | false ↦ λ all. all ]) (each j few) in
    (mine.0, all_by_callers P free workers xs range.1 rest)

module _ (minute : Minute) (bits bucket workers free : ℕ) (some : 1 ≤ workers) (dealt : List Request) (xs : List Entry) (range : AreFrom free workers xs) (own : (i : ℕ) → i < workers → IsAsked minute bits bucket (free + i) (share_of workers i dealt) [] xs) where
  abbrev key : Call → ℕ
  key c = caller_number c % workers

  abbrev mine : Call → Bool
  mine c = bucket_for (bucket_in bits) c == bucket

  all_of_phase : AllByRecursion (IsOfPhase minute) xs
  all_of_phase = all_by_callers (IsOfPhase minute) free workers xs range (λ i few. subst (AllByRecursion (IsOfPhase minute)) (sym (own i few).own) (own i few).of_phase)

  -- a request's key is its worker
  key_of_request : (i : ℕ) (r : Request) → (peer_number r % workers == i) ≡ true → key (call_of r) ≡ i
  key_of_request i r whose = ap (λ n. n % workers) (call_caller r) ∙ (let e : peer_number r % workers ≡ i = grind (arith, nat_tests) in e)

  keys_of : (i : ℕ) → i < workers → AllByRecursion (λ x. key x.call ≡ i) (entries_by (free + i) xs)
  keys_of i few =
      let Q : Call → Type 0 = λ c. key c ≡ i in
      let rs = share_of workers i dealt in
      let shares : AllByRecursion (λ r. Q (call_of r)) rs = all_weaker (λ r. (peer_number r % workers == i) ≡ true) (λ r. Q (call_of r)) (key_of_request i) rs (passes_all (λ r. peer_number r % workers == i) dealt) in
      let calls : AllByRecursion Q (filter mine (map call_of rs)) = part_of_all Q mine (map call_of rs) (all_mapped Q call_of rs shares) in
      subst (AllByRecursion (λ x. Q x.call)) (sym (own i few).own) (all_unmapped (λ (x : Entry). x.call) Q (own i few).entries (subst (AllByRecursion Q) (sym (own i few).calls) calls))

  -- an entry's caller tells its key
  keyed : AllByRecursion (λ x. x.caller ≡ free + key x.call) xs
  keyed = all_by_callers (λ x. x.caller ≡ free + key x.call) free workers xs range (λ i few.
      let both = all_both (λ (x : Entry). (x.caller == free + i) ≡ true) (λ (x : Entry). key x.call ≡ i) (entries_by (free + i) xs) (passes_all (λ (x : Entry). x.caller == free + i) xs) (keys_of i few) in
      all_weaker (λ (x : Entry). ((x.caller == free + i) ≡ true) × (key x.call ≡ i)) (λ (x : Entry). x.caller ≡ free + key x.call)
      (λ x is. let e : (x.caller == free + i) ≡ true = is.0 in let k : key x.call ≡ i = is.1 in let p : x.caller ≡ free + i = grind (arith, nat_tests) in p ∙ ap (λ n. free + n) (sym k))
      (entries_by (free + i) xs) both)

  agree_below : (k : ℕ) → k < workers → filter (λ c. key c == k) (map (λ x. x.call) xs) ≡ filter (λ c. key c == k) (filter mine (map call_of dealt))
  agree_below k few =
      let tests : AllByRecursion (λ (x : Entry). (key x.call == k) ≡ (x.caller == free + k)) xs =
      all_weaker (λ (x : Entry). x.caller ≡ free + key x.call) (λ (x : Entry). (key x.call == k) ≡ (x.caller == free + k)) (λ x is. let e : x.caller ≡ free + key x.call = is in same_test (key x.call) k x.caller e) xs keyed in
      let shares : map call_of (share_of workers k dealt) ≡ filter (λ c. key c == k) (map call_of dealt) =
      ap (map call_of) (same_tests (λ r. peer_number r % workers == k) (λ r. key (call_of r) == k) dealt (all_each (λ r. (peer_number r % workers == k) ≡ (key (call_of r) == k)) (λ r. ap (λ n. n % workers == k) (sym (call_caller r))) dealt))
      ∙ sym (test_of_value call_of (λ c. key c == k) dealt) in
      test_of_value (λ (x : Entry). x.call) (λ c. key c == k) xs
      ∙ ap (map (λ (x : Entry). x.call)) (same_tests (λ (x : Entry). key x.call == k) (λ (x : Entry). x.caller == free + k) xs tests ∙ (own k few).own)
      ∙ (own k few).calls
      ∙ ap (filter mine) shares
      ∙ tests_swap mine (λ c. key c == k) (map call_of dealt)
    where
      same_test : (key k caller : ℕ) → caller ≡ free + key → (key == k) ≡ (caller == free + k)
      same_test key k caller e = grind (arith, nat_tests)

  agree_above : (k : ℕ) → workers ≤ k → (cs : List Call) → filter (λ c. key c == k) cs ≡ []
  agree_above k many cs = none_of_key key k cs (all_each (λ c. key c ≢ k) (λ c. let e : caller_number c % workers < workers = omega arith in λ same. absurd (let s : caller_number c % workers ≡ k = same in omega arith)) cs)

  pub merged : (before after : List Entry) → after ≡ before ++ xs → HasMade minute bits bucket workers dealt before after
  merged before after grown = record {
    entries = xs;
    grown = grown;
    of_phase = all_of_phase;
    agree = λ k.
        ⊎_elim
        (λ (few : k < workers). agree_below k few)
        (λ (many : workers ≤ k). agree_above k many (map (λ (x : Entry). x.call) xs) ∙ sym (agree_above k many (filter mine (map call_of dealt))))
        (cases_lt k workers);
  }
