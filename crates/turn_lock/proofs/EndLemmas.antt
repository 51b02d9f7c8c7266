-- The rule at the start and at the end of a lock.
use Rattle.std.proofs.Common.{◌≡◌, ◌≤◌, ℕ, zero, suc, true, List, [], ◌∷◌, length, Option, Some, count_by, refl, sym, ap, ◌∙◌, subst, arith}
use mathlib.Core.Option.{some, some-injective, some-ne-none}
use lib.ListN.{get_elem?}
use Rattle.atomic_table.specs.Table.{State, opening, Final, Seen}
use Rattle.tracker_model.specs.declared.entry.Entry.{Entry}
use Rattle.turn_lock.specs.declared.know.Know.{Know}
use Rattle.turn_lock.specs.declared.know.Stage.TheVariants.{Free, Serves}
use Rattle.turn_lock.specs.Rule.{is_live, Fits, HasAll, others_of, NoneServes, IsKept, first_know}
use Rattle.turn_lock.proofs.Lists.{Pairwise, count_one}
use Rattle.turn_lock.proofs.HistoryLemmas.{goes_nowhere}
use Rattle.turn_lock.proofs.ViewLemmas.{serving_live, whole_live, LiveApart}
use Rattle.turn_lock.proofs.StepLemmas.{at_stage, is_root}

module _ {T : Type 0} (settings_of : T → List ℕ) (stands : T → List Entry → Type 0) (settings : List ℕ) (callers : ℕ) where
  abbrev St : Type 0
  St = State (Option T) Know

  abbrev Kept : St → Type 0
  Kept = IsKept settings_of stands settings callers

  first_fits : (j : ℕ) (u : Know) → get_elem? (first_know settings callers ∷ []) j ≡ some u → is_live u ≡ true → Fits settings callers [] 0 1 u
  first_fits zero u e live =
      let is : first_know settings callers ≡ u = some-injective (first_know settings callers) u e in
      subst (Fits settings callers [] 0 1) is
      record { settings_are = refl; callers_are = refl; behind = goes_nowhere (0 ∷ []) [] [] refl; below = (omega arith, tt); stage = tt }
  first_fits (suc j) u e live = absurd (some-ne-none u (sym e))

  alone : Pairwise LiveApart (first_know settings callers ∷ [])
  alone zero zero v w at_v at_w apart = absurd (apart refl)
  alone zero (suc j) v w at_v at_w apart = absurd (some-ne-none w (sym at_w))
  alone (suc i) j v w at_v at_w apart = absurd (some-ne-none v (sym at_v))

  pub begins : (x : T) → 1 ≤ callers → settings_of x ≡ settings → stands x [] → Kept (opening (0 ∷ 0 ∷ []) (Some x ∷ []) (first_know settings callers))
  begins x some_callers of_lock stands_for = record {
    log = [];
    next = 0;
    free = 1;
    home = some (Some x);
    words_are = refl;
    homes_are = refl;
    few = omega arith;
    tickets = refl;
    each = first_fits;
    apart = alone;
    whole = (0, first_know settings callers, refl, refl);
    root = first_know settings callers;
    rooted = record { here = refl; caller_is = refl; live = refl; free_is = refl; free_fits = some_callers; counted = refl; known = tt };
    at_home = λ _. record { value = x; home_is = refl; settings_are = of_lock; stands_for = stands_for };
  }

  -- what is left when no turn but the first is out
  pub record IsClosed (v : Know) (words : List ℕ) (slots : List (Option T)) : Type 0 where
    pub value : T
    pub count_is : get_elem? words 1 ≡ some (length v.seen)
    pub slot_is : get_elem? slots 0 ≡ some (Some value)
    pub settings_are : settings_of value ≡ settings
    pub stands_for : stands value v.seen

  closes_free : (id : ℕ) (v : Know) (words : List ℕ) (slots : List (Option T)) → v.caller ≡ 0 → v.out ≡ 0 → Final (Seen Kept id (at_stage v Free)) words slots → IsClosed v words slots
  closes_free id v words slots first none_out final =
      let s = final.0 in
      let k = final.1.0 in
      let at = final.1.1 in
      let free = at_stage v Free in
      let root : k.root ≡ free = is_root settings_of stands settings callers s k id free at refl first in
      let one : count_by is_live s.views ≡ 1 = k.rooted.counted ∙ ap (λ (y : Know). others_of y.out y.stage) root ∙ ap suc none_out in
      let only : (j : ℕ) (u : Know) → get_elem? s.views j ≡ some u → is_live u ≡ true → u ≡ free =
      λ j u e live. some-injective u free (sym e ∙ ap (get_elem? s.views) (count_one is_live s.views j id u free e at live refl one) ∙ at) in
      let none : NoneServes s.views = λ j u e serves. let stages : Free ≡ Serves = ap (λ (y : Know). y.stage) (sym (only j u e (serving_live u.stage serves))) ∙ serves in absurd (cc) in
      let whole = k.whole in
      let has : HasAll k.log free = subst (HasAll k.log) (only whole.0 whole.1 whole.2 (whole_live k.log whole.1.seen whole.1.stage whole.3)) whole.3 in
      let home = k.at_home none in
      record {
        value = home.value;
        count_is = ap (λ ws. get_elem? ws 1) (sym final.2 ∙ k.words_are) ∙ ap (λ (l : List Entry). some (length l)) (sym has);
        slot_is = final.4 0 (Some home.value) (ap (λ hs. get_elem? hs 0) k.homes_are ∙ ap some home.home_is);
        settings_are = home.settings_are;
        stands_for = subst (stands home.value) (sym has) home.stands_for;
      }

  pub closes : (id : ℕ) (v : Know) (words : List ℕ) (slots : List (Option T)) → v.stage ≡ Free → v.caller ≡ 0 → v.out ≡ 0 → Final (Seen Kept id v) words slots → IsClosed v words slots
  closes id v words slots free first none_out final =
      closes_free id v words slots first none_out (subst (λ (u : Know). Final (Seen Kept id u) words slots) (λ i. record v { stage = free i }) final)
