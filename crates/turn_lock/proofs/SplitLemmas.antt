-- A turn that is cut in two, and two that are made one, keep the rule.
use Rattle.std.proofs.Common.{◌≡◌, ◌≢◌, ◌<◌, ◌≤◌, ℕ, suc, true, true≢false, List, [], ◌∷◌, set, count_by, refl, sym, ap, ◌∙◌, subst, inl, inr, ⊎_elim, arith}
use Rattle.std.specs.List.{AllByRecursion}
use Rattle.std.proofs.lemmas.List.{set_comm}
use mathlib.Core.Logic.{dite}
use Rattle.std.specs.Prelude.{Option}
use mathlib.Core.Option.{some, some-injective}
use native.Mathlib.Decide.{ℕ_discrete}
use lib.ListN.{get_elem?}
use Rattle.atomic_table.specs.Table.{State, Splits, Joins as MayJoin}
use Rattle.atomic_table.proofs.Lists.{at_set, at_longer, set_else}
use Rattle.tracker_model.specs.declared.entry.Entry.{Entry}
use Rattle.turn_lock.specs.declared.know.Know.{Know}
use Rattle.turn_lock.specs.declared.know.Stage.TheVariants.{Free}
use Rattle.turn_lock.specs.Histories.{AllBelow}
use Rattle.turn_lock.specs.Rule.{is_live, has_ticket, claims_of, Fits, HasAll, others_of, IsKept}
use Rattle.turn_lock.specs.Plays.{kept_part, new_part, merged, nobody}
use Rattle.turn_lock.proofs.Lists.{here, each_set, each_push, Pairwise, pairs_set, pairs_push, count_set, count_push}
use Rattle.turn_lock.proofs.HistoryLemmas.{all_right, all_weaker, below_none}
use Rattle.turn_lock.proofs.ViewLemmas.{fits_freer, SomeHasAll, whole_set, none_serves_before, LiveApart}
use Rattle.turn_lock.proofs.StepLemmas.{at_stage, first_at, is_root, same_count}

module _ {T : Type 0} (settings_of : T → List ℕ) (stands : T → List Entry → Type 0) (settings : List ℕ) (callers : ℕ) where
  abbrev St : Type 0
  St = State (Option T) Know

  abbrev Kept : St → Type 0
  Kept = IsKept settings_of stands settings callers

  splits_free : (id number : ℕ) (v : Know) → v.caller ≡ 0 → v.free ≤ number → number < v.callers →
      Splits Kept id (at_stage v Free) (kept_part number (at_stage v Free)) (new_part number (at_stage v Free))
  splits_free id number v first from below s k at =
      let free = at_stage v Free in
      let left = kept_part number free in
      let right = new_part number free in
      let views = set s.views id left in
      let fits = k.each id free at refl in
      let root : k.root ≡ free = is_root settings_of stands settings callers s k id free at refl first in
      let free_is : k.free ≡ v.free = sym k.rooted.free_is ∙ ap (λ (y : Know). y.free) root in
      let most : k.free ≤ number = omega arith in
      let more : k.free ≤ suc number = omega arith in
      let few : v.callers ≡ callers = fits.callers_are in
      let behind = fits.behind in
      let later : AllBelow k.free behind.others = all_right (λ (y : Entry). y.caller < k.free) v.seen behind.others (subst (AllBelow k.free) behind.grown k.rooted.known) in
      let claims : (j : ℕ) (u : Know) → get_elem? views j ≡ some u → is_live u ≡ true → AllByRecursion (λ n. n < k.free) (claims_of u) =
      each_set (λ j u. is_live u ≡ true → AllByRecursion (λ n. n < k.free) (claims_of u)) s.views id left (λ j u ne e live. (k.each j u e live).below) (λ _. fits.below) in
      let count = same_count settings_of stands settings callers s.views id free left at refl in
      let pushed = count_push is_live views right in
      let tickets = k.tickets in
      let tickets_left = count_set has_ticket s.views id free left at in
      let tickets_right = count_push has_ticket views right in
      let before : count_by is_live s.views ≡ suc v.out = k.rooted.counted ∙ ap (λ (y : Know). others_of y.out y.stage) root in
      let whole = whole_set k.log s.views id free left at (λ has. has) k.whole in
      record {
        log = k.log;
        next = k.next;
        free = suc number;
        home = k.home;
        words_are = k.words_are;
        homes_are = k.homes_are;
        few = k.few;
        tickets = omega arith;
        each = each_push (λ u. is_live u ≡ true → Fits settings callers k.log k.next (suc number) u) views right
            (each_set (λ j u. is_live u ≡ true → Fits settings callers k.log k.next (suc number) u) s.views id left
            (λ j u ne e live. fits_freer settings callers k.log k.next k.free (suc number) u more (k.each j u e live))
            (λ _. record {
              settings_are = fits.settings_are;
              callers_are = fits.callers_are;
              behind = fits.behind;
              below = all_weaker (λ n. n < k.free) (λ n. n < suc number) (λ n lt. omega arith) (claims_of left) fits.below;
              stage = tt;
            }))
            (λ _. record {
              settings_are = fits.settings_are;
              callers_are = fits.callers_are;
              behind = record { others = behind.others; grown = behind.grown; apart = (below_none k.free number behind.others most later, tt) };
              below = (omega arith, tt);
              stage = tt;
            });
        apart = pairs_push LiveApart views right
            (pairs_set LiveApart s.views id left k.apart
            (λ j u ne e. (
              (λ _ live. record { tickets = λ t mine theirs. mine; numbers = (k.apart id j free u at e (λ q. ne (sym q)) refl live).numbers }),
              (λ live _. record { tickets = λ t theirs mine. mine; numbers = (k.apart j id u free e at ne live refl).numbers }),
            )))
            (λ j u e. (
              (λ _ live. record { tickets = λ t mine theirs. mine; numbers = ((λ is. let low = (claims j u e live).0 in omega arith), tt) }),
              (λ live _. record { tickets = λ t theirs mine. mine; numbers = all_weaker (λ n. n < k.free) (λ n. n ≢ number) (λ n lt is. omega arith) (claims_of u) (claims j u e live) }),
            ));
        whole = (whole.0, whole.1, at_longer views (right ∷ []) whole.0 whole.1 whole.2, whole.3);
        root = left;
        rooted = record {
          here = at_longer views (right ∷ []) 0 left (subst (λ (i : ℕ). get_elem? views i ≡ some left) (first_at settings_of stands settings callers s k id free at refl first) (here s.views id free left at));
          caller_is = first;
          live = refl;
          free_is = refl;
          free_fits = omega arith;
          counted = omega arith;
          known = all_weaker (λ (y : Entry). y.caller < k.free) (λ (y : Entry). y.caller < suc number) (λ y lt. omega arith) k.log k.rooted.known;
        };
        at_home = λ none. k.at_home (none_serves_before s.views id free left at (λ q. absurd (cc)) (λ j u e. none j u (at_longer views (right ∷ []) j u e)));
      }

  pub splits : (id number : ℕ) (v : Know) → v.stage ≡ Free → v.caller ≡ 0 → v.free ≤ number → number < v.callers → Splits Kept id v (kept_part number v) (new_part number v)
  splits id number v free first from below =
      let P : Know → Type 0 = λ u. Splits Kept id u (kept_part number u) (new_part number u) in
      subst P (λ i. record v { stage = sym free i }) (splits_free id number v first from below)

  -- who had seen the whole history when one of two turns took in the other
  whole_after : (old : List Know) (id other : ℕ) (v w both : Know) (log : List Entry) (new : List Know) → get_elem? old id ≡ some v → get_elem? old other ≡ some w → get_elem? new id ≡ some both →
      SomeHasAll log old → (HasAll log v → HasAll log both) → (HasAll log w → HasAll log both) →
      ((j : ℕ) (u : Know) → j ≢ id → j ≢ other → get_elem? old j ≡ some u → get_elem? new j ≡ some u) → SomeHasAll log new
  whole_after old id other v w both log new at there here_is some_has by_own by_other stays =
      dite (ℕ_discrete some_has.0 id)
      (λ e. let is : some_has.1 ≡ v = some-injective some_has.1 v (sym some_has.2 ∙ ap (get_elem? old) e ∙ at) in (id, both, here_is, by_own (subst (HasAll log) is some_has.3)))
      (λ away. dite (ℕ_discrete some_has.0 other)
      (λ e. let is : some_has.1 ≡ w = some-injective some_has.1 w (sym some_has.2 ∙ ap (get_elem? old) e ∙ there) in (id, both, here_is, by_other (subst (HasAll log) is some_has.3)))
      (λ apart. (some_has.0, some_has.1, stays some_has.0 some_has.1 away apart some_has.2, some_has.3)))

  not_live : {B : Type 0} → is_live nobody ≡ true → B
  not_live e = absurd (true≢false (sym e))

  joins_free : (id other : ℕ) (v w : Know) → v.caller ≡ 0 → w.caller ≢ 0 →
      MayJoin Kept id (at_stage v Free) other (at_stage w Free) (merged (at_stage v Free) (at_stage w Free)) nobody
  joins_free id other v w first second s k at ne at_other =
      let free = at_stage v Free in
      let taken = at_stage w Free in
      let both = merged free taken in
      let views = set s.views id both in
      let mid = set s.views other nobody in
      let there : get_elem? s.views other ≡ some taken = sym (set_else s.views id other both ne) ∙ at_other in
      let away : id ≢ other = λ e. ne (sym e) in
      let fits = k.each id free at refl in
      let other_fits = k.each other taken there refl in
      let root : k.root ≡ free = is_root settings_of stands settings callers s k id free at refl first in
      let swap : set views other nobody ≡ set mid id both = set_comm s.views id other both nobody away in
      let here_is : get_elem? (set views other nobody) id ≡ some both = set_else views other id nobody away ∙ here s.views id free both at in
      let counts = count_set is_live views other taken nobody at_other in
      let tickets = k.tickets in
      let tickets_here = count_set has_ticket s.views id free both at in
      let tickets_there = count_set has_ticket views other taken nobody at_other in
      let count = same_count settings_of stands settings callers s.views id free both at refl in
      let before : count_by is_live s.views ≡ suc v.out = k.rooted.counted ∙ ap (λ (y : Know). others_of y.out y.stage) root in
      let apart_mid : Pairwise LiveApart mid = pairs_set LiveApart s.views other nobody k.apart (λ j u _ e. ((λ dead _. not_live dead), (λ _ dead. not_live dead))) in
      let old : (j : ℕ) (u : Know) → j ≢ id → get_elem? mid j ≡ some u → is_live u ≡ true → (j ≢ other) × (get_elem? s.views j ≡ some u) =
      λ j u _ e live. ⊎_elim
      (λ (t : (j ≡ other) × (nobody ≡ u)). not_live (ap is_live t.1 ∙ live))
      (λ (t : (j ≢ other) × (get_elem? s.views j ≡ some u)). t)
      (at_set s.views other j nobody u e) in
      record {
        log = k.log;
        next = k.next;
        free = k.free;
        home = k.home;
        words_are = k.words_are;
        homes_are = k.homes_are;
        few = k.few;
        tickets = omega arith;
        each = each_set (λ j u. is_live u ≡ true → Fits settings callers k.log k.next k.free u) views other nobody
            (λ j u _ e. each_set (λ j u. is_live u ≡ true → Fits settings callers k.log k.next k.free u) s.views id both
            (λ j u _ e live. k.each j u e live)
            (λ _. record {
              settings_are = fits.settings_are;
              callers_are = fits.callers_are;
              behind = fits.behind;
              below = (fits.below.0, (other_fits.below.0, fits.below.1));
              stage = record { others = other_fits.behind.others; grown = other_fits.behind.grown; apart = (other_fits.behind.apart.0, tt) };
            }) j u e)
            (λ dead. not_live dead);
        apart = subst (Pairwise LiveApart) (sym swap)
            (pairs_set LiveApart mid id both apart_mid
            (λ j u apart e. (
              (λ _ live.
                  let is = old j u apart e live in
                  let mine = (k.apart id j free u at is.1 (λ q. apart (sym q)) refl live).numbers in
                  let theirs = (k.apart other j taken u there is.1 (λ q. is.0 (sym q)) refl live).numbers in
                  record { tickets = λ t own other. own; numbers = (mine.0, (theirs.0, mine.1)) }),
              (λ live _.
                  let is = old j u apart e live in
                  record { tickets = λ t theirs own. own; numbers = (k.apart j id u free is.1 at apart live refl).numbers }),
            )));
        whole = whole_after s.views id other free taken both k.log (set views other nobody) at there here_is k.whole (λ has. inl has) (λ has. inr has)
            (λ j u away_id away_other e. set_else views other j nobody away_other ∙ (set_else s.views id j both away_id ∙ e));
        root = both;
        rooted = record {
          here = subst (λ (i : ℕ). get_elem? (set views other nobody) i ≡ some both) (first_at settings_of stands settings callers s k id free at refl first) here_is;
          caller_is = first;
          live = refl;
          free_is = ap (λ (y : Know). y.free) (sym root) ∙ k.rooted.free_is;
          free_fits = k.rooted.free_fits;
          counted = omega arith;
          known = k.rooted.known;
        };
        at_home = λ none. k.at_home (none_serves_before s.views id free both at (λ q. absurd (cc)) (none_serves_before views other taken nobody at_other (λ q. absurd (cc)) none));
      }

  pub joins : (id other : ℕ) (v w : Know) → v.stage ≡ Free → v.caller ≡ 0 → w.stage ≡ Free → w.caller ≢ 0 → MayJoin Kept id v other w (merged v w) nobody
  joins id other v w free first other_free second =
      let P : Know × Know → Type 0 = λ p. MayJoin Kept id p.0 other p.1 (merged p.0 p.1) nobody in
      subst P (λ i. (record v { stage = sym free i }, record w { stage = sym other_free i })) (joins_free id other v w first second)
