-- The steps of one turn keep the rule.
use Rattle.std.proofs.Common.{◌≡◌, ◌≢◌, ◌+◌, ◌%◌, ◌^◌, ◌<◌, ◌≤◌, ℕ, suc, pred, eqb, cond, eq-eqb, ne_eqb, Bool, true, false, List, [], ◌∷◌, ◌++◌, length, set, slice_index, count_by, Option, Some, MatchBool, refl, sym, ap, ◌∙◌, subst, length-append, mod-eq_of_lt, arith}
use Rattle.std.specs.List.{AllByRecursion}
use mathlib.Core.Logic.{dite}
use mathlib.Core.Option.{none, some, some-injective}
use mathlib.Core.Option as maybe
use native.Mathlib.Decide.{ℕ_discrete}
use prog.Atomic.{either}
use lib.ListN.{get_elem?}
use Rattle.atomic_table.specs.Table.{State, Me, Act, keeps, takes, gives, Valid, stepped, carried_after, step, Allows}
use Rattle.atomic_table.proofs.Lists.{set_else, set_again}
use Rattle.tracker_model.specs.declared.entry.Entry.{Entry}
use Rattle.turn_lock.specs.declared.know.Know.{Know}
use Rattle.turn_lock.specs.declared.know.Stage.{Stage}
use Rattle.turn_lock.specs.declared.know.Stage.TheVariants.{Free, Waits, Serves, Joins}
use Rattle.turn_lock.specs.Histories.{AllBelow}
use Rattle.turn_lock.specs.Rule.{is_live, has_ticket, claims_of, Fits, others_of, IsRoot, NoneServes, IsHome, IsKept}
use Rattle.turn_lock.specs.Plays.{drawn, IsServed, watched, advanced, IsSettled, settled}
use Rattle.turn_lock.specs.Seats.{IsFilled}
use Rattle.turn_lock.proofs.Lists.{here, each_set, pairs_set, count_set, count_some, set_same}
use Rattle.turn_lock.proofs.HistoryLemmas.{all_append, goes_nowhere, goes_both, below_before, compare_histories, longer_whole}
use Rattle.turn_lock.proofs.ViewLemmas.{ticket_within, serving_live, serves_next, fits_later, fits_longer, SomeHasAll, whole_set, none_serves_before, AreBothApart, LiveApart}

-- a word was found, or another
by_number : (n m : ℕ) (F : Bool → Type 0) → (n ≡ m → F true) → (n ≢ m → F false) → F (eqb n m)
by_number n m F hit miss = dite (ℕ_discrete n m) (λ e. subst F (sym (eq-eqb n m e)) (hit e)) (λ ne. subst F (sym (ne_eqb n m ne)) (miss ne))

abbrev pub at_stage : Know → Stage → Know
at_stage v st = record v { stage = st }

-- a turn at a stage that it is known to be at
module _ {S : Type 0} (P : Me S Know → Type 0) (st : Stage) where
  pub at_known_stage : (me : Me S Know) → me.0.stage ≡ st → P (at_stage me.0 st, me.1) → P me
  at_known_stage me is at = subst P (λ i. (record me.0 { stage = sym is i }, me.1)) at

module _ {T : Type 0} (settings_of : T → List ℕ) (stands : T → List Entry → Type 0) (settings : List ℕ) (callers : ℕ) where
  abbrev St : Type 0
  St = State (Option T) Know

  abbrev M : Type 0
  M = Me (Option T) Know

  abbrev Kept : St → Type 0
  Kept = IsKept settings_of stands settings callers

  abbrev Home : List Entry → maybe.Option (Option T) → Type 0
  Home = IsHome settings_of stands settings callers

  -- the turn of caller 0 is the first
  pub first_at : (s : St) (k : Kept s) (id : ℕ) (v : Know) → get_elem? s.views id ≡ some v → is_live v ≡ true → v.caller ≡ 0 → id ≡ 0
  first_at s k id v at live first =
      dite (ℕ_discrete id 0) (λ e. e)
      (λ ne. absurd ((k.apart 0 id k.root v k.rooted.here at (λ e. ne (sym e)) k.rooted.live live).numbers.0 (k.rooted.caller_is ∙ sym first)))

  pub is_root : (s : St) (k : Kept s) (id : ℕ) (v : Know) → get_elem? s.views id ≡ some v → is_live v ≡ true → v.caller ≡ 0 → k.root ≡ v
  is_root s k id v at live first = some-injective k.root v (sym k.rooted.here ∙ ap (get_elem? s.views) (sym (first_at s k id v at live first)) ∙ at)

  -- what caller 0 has seen is of numbers that aren't free
  known_to : (s : St) (k : Kept s) (id : ℕ) (v : Know) → get_elem? s.views id ≡ some v → is_live v ≡ true → v.caller ≡ 0 → AllBelow v.free k.log
  known_to s k id v at live first =
      let same : v.free ≡ k.free = ap (λ (y : Know). y.free) (sym (is_root s k id v at live first)) ∙ k.rooted.free_is in
      subst (λ n. AllBelow n k.log) (sym same) k.rooted.known

  -- what stays as it is of caller 0's turn, where it is the one that makes a step
  pub record Same (v w : Know) : Type 0 where
    pub live_before : is_live v ≡ true
    pub live_after : is_live w ≡ true
    pub caller_is : w.caller ≡ v.caller
    pub free_is : w.free ≡ v.free
    pub others_are : others_of w.out w.stage ≡ others_of v.out v.stage

  pub same_count : (views : List Know) (id : ℕ) (v w : Know) → get_elem? views id ≡ some v → is_live v ≡ is_live w → count_by is_live (set views id w) ≡ count_by is_live views
  same_count views id v w at same =
      let sum = count_set is_live views id v w at in
      let ones : cond {A = ℕ} (is_live v) 1 0 ≡ cond (is_live w) 1 0 = ap (λ (b : Bool). cond {A = ℕ} b 1 0) same in
      omega arith

  rooted_after : (s : St) (k : Kept s) (id : ℕ) (v w : Know) (log : List Entry) → get_elem? s.views id ≡ some v → Same v w → AllBelow k.free log → (r : Know) × IsRoot callers log k.free (set s.views id w) r
  rooted_after s k id v w log at same known =
      let count = same_count s.views id v w at (same.live_before ∙ sym same.live_after) in
      dite (ℕ_discrete id 0)
      (λ e. let is : k.root ≡ v = some-injective k.root v (sym k.rooted.here ∙ ap (get_elem? s.views) (sym e) ∙ at) in (
        w,
        record {
          here = subst (λ (i : ℕ). get_elem? (set s.views id w) i ≡ some w) e (here s.views id v w at);
          caller_is = same.caller_is ∙ ap (λ (y : Know). y.caller) (sym is) ∙ k.rooted.caller_is;
          live = same.live_after;
          free_is = same.free_is ∙ ap (λ (y : Know). y.free) (sym is) ∙ k.rooted.free_is;
          free_fits = k.rooted.free_fits;
          counted = count ∙ k.rooted.counted ∙ ap (λ (y : Know). others_of y.out y.stage) is ∙ sym same.others_are;
          known = known;
        },
      ))
      (λ ne. (
        k.root,
        record {
          here = set_else s.views id 0 w (λ e. ne (sym e)) ∙ k.rooted.here;
          caller_is = k.rooted.caller_is;
          live = k.rooted.live;
          free_is = k.rooted.free_is;
          free_fits = k.rooted.free_fits;
          counted = count ∙ k.rooted.counted;
          known = known;
        },
      ))

  -- One turn's view goes from v to w, and the history, the next ticket and what is at home to
  -- others
  moved : (s : St) (k : Kept s) (id : ℕ) (v w : Know) → get_elem? s.views id ≡ some v → Same v w →
      (words : List ℕ) (homes : List (maybe.Option (Option T))) (log : List Entry) (next : ℕ) (home : maybe.Option (Option T)) →
      words ≡ next ∷ length log ∷ [] → homes ≡ home ∷ [] → next ≤ 2 ^ 62 → next ≡ length log + count_by has_ticket (set s.views id w) →
      ((j : ℕ) (u : Know) → j ≢ id → get_elem? s.views j ≡ some u → is_live u ≡ true → Fits settings callers log next k.free u) →
      Fits settings callers log next k.free w →
      ((j : ℕ) (u : Know) → j ≢ id → get_elem? s.views j ≡ some u → is_live u ≡ true → AreBothApart w u) →
      SomeHasAll log (set s.views id w) → AllBelow k.free log → (NoneServes (set s.views id w) → Home log home) →
      Kept record { words = words; homes = homes; views = set s.views id w }
  moved s k id v w at same words homes log next home words_are homes_are few tickets others mine apart whole known at_home =
      let root = rooted_after s k id v w log at same known in
      record {
        log = log;
        next = next;
        free = k.free;
        home = home;
        words_are = words_are;
        homes_are = homes_are;
        few = few;
        tickets = tickets;
        each = each_set (λ j u. is_live u ≡ true → Fits settings callers log next k.free u) s.views id w (λ j u ne e live. others j u ne e live) (λ _. mine);
        apart = pairs_set LiveApart s.views id w k.apart (λ j u ne e. ((λ _ live. (apart j u ne e live).0), (λ live _. (apart j u ne e live).1)));
        whole = whole;
        root = root.0;
        rooted = root.1;
        at_home = at_home;
      }

  -- a step that changes nothing
  pub stays : (s : St) (i id : ℕ) (v : Know) (c : List (ℕ × Option T)) → get_elem? s.views id ≡ some v → Kept s → Kept (stepped s i (slice_index s.words i) id c v keeps)
  stays s i id v c at k = subst Kept (λ j. record { words = sym (set_same s.words i) j; homes = s.homes; views = sym (set_again s.views id v at) j }) k

  -- a ticket is drawn
  draws_free : (id slots ticket new : ℕ) (v : Know) (c : List (ℕ × Option T)) → new ≡ ticket + 1 → ticket < 2 ^ 62 →
      Allows Kept slots id (at_stage v Free, c) 0 (λ n. either (eqb n ticket) new n) (drawn (step slots 0 ticket new none) (at_stage v Free, c))
  draws_free id slots ticket new v c is few s k wide at _ =
      let free = at_stage v Free in
      let waiting = at_stage v (Waits ticket) in
      let n : ℕ = slice_index s.words 0 in
      let next_is : n ≡ k.next = ap (λ ws. slice_index ws 0) k.words_are in
      by_number n ticket
      (λ b. (w : Know) × (a : Act (Option T)) × Valid s.homes c a × Kept (stepped s 0 (either b new n) id c w a) × ◌≡◌ {A = M} (w, carried_after c a) (cond b (waiting, c) (free, c)))
      (λ hit. (
        waiting,
        keeps,
        tt,
        (let fits = k.each id free at refl in
            let here_is : k.next ≡ ticket = sym next_is ∙ hit in
            let counts = count_set has_ticket s.views id free waiting at in
            let tickets = k.tickets in
            let later : k.next ≤ new = omega arith in
            moved s k id free waiting at record { live_before = refl; live_after = refl; caller_is = refl; free_is = refl; others_are = refl }
            (set s.words 0 new) s.homes k.log new k.home (ap (λ ws. set ws 0 new) k.words_are) k.homes_are (omega arith) (omega arith)
            (λ j u ne e live. fits_later settings callers k.log k.next new k.free u later (k.each j u e live))
            record { settings_are = fits.settings_are; callers_are = fits.callers_are; behind = fits.behind; below = fits.below; stage = (omega arith, omega arith) }
            (λ j u ne e live. let old = k.each j u e live in (
              record {
                tickets = λ t mine theirs. let within = ticket_within k.log k.next u.seen u.stage t old.stage theirs in omega arith;
                numbers = (k.apart id j free u at e (λ q. ne (sym q)) refl live).numbers;
              },
              record {
                tickets = λ t theirs mine. let within = ticket_within k.log k.next u.seen u.stage t old.stage theirs in omega arith;
                numbers = (k.apart j id u free e at ne live refl).numbers;
              },
            ))
            (whole_set k.log s.views id free waiting at (λ has. has) k.whole)
            k.rooted.known
            (λ serves. k.at_home (none_serves_before s.views id free waiting at (λ q. absurd (cc)) serves))),
        refl,
      ))
      (λ miss. (free, keeps, tt, stays s 0 id free c at k, refl))

  pub draws : (id slots ticket new : ℕ) (me : M) → new ≡ ticket + 1 → ticket < 2 ^ 62 → me.0.stage ≡ Free →
      Allows Kept slots id me 0 (λ n. either (eqb n ticket) new n) (drawn (step slots 0 ticket new none) me)
  draws id slots ticket new me is few free =
      at_known_stage (λ (m : M). Allows Kept slots id m 0 (λ n. either (eqb n ticket) new n) (drawn (step slots 0 ticket new none) m)) Free me free
      (draws_free id slots ticket new me.0 me.1 is few)

  -- no turn is served while one waits whose ticket is next
  none_served : (s : St) (k : Kept s) (id ticket : ℕ) (v : Know) → get_elem? s.views id ≡ some (at_stage v (Waits ticket)) → length k.log ≡ ticket → NoneServes s.views
  none_served s k id ticket v at next j u at_u serves =
      let waiting = at_stage v (Waits ticket) in
      let live : is_live u ≡ true = serving_live u.stage serves in
      dite (ℕ_discrete j id)
      (λ e. let same : u ≡ waiting = some-injective u waiting (sym at_u ∙ ap (get_elem? s.views) e ∙ at) in
      let stages : Waits ticket ≡ Serves = ap (λ (y : Know). y.stage) (sym same) ∙ serves in absurd (cc))
      (λ ne. let fits = (k.each j u at_u live).stage in
      (k.apart id j waiting u at at_u (λ q. ne (sym q)) refl live).tickets ticket refl
      (serves_next k.log k.next u.seen u.stage ticket serves next fits))

  -- a turn whose ticket is next is served
  watches_waiting : (id slots ticket : ℕ) (v : Know) (c : List (ℕ × Option T)) →
      Allows Kept slots id (at_stage v (Waits ticket), c) 1 (λ n. n)
      (watched settings_of stands (step slots 1 0 0 none) (at_stage v (Waits ticket), c))
  watches_waiting id slots ticket v c s k wide at _ =
      let waiting = at_stage v (Waits ticket) in
      let n : ℕ = slice_index s.words 1 in
      let next_is : n ≡ length k.log = ap (λ ws. slice_index ws 1) k.words_are in
      let fits = k.each id waiting at refl in
      by_number n ticket
      (λ b. (w : Know) × (a : Act (Option T)) × Valid s.homes c a × Kept (stepped s 1 n id c w a)
      × MatchBool b (IsServed settings_of stands (waiting, c) (w, carried_after c a)) (◌≡◌ {A = M} (w, carried_after c a) (waiting, c)))
      (λ hit.
      let here_is : length k.log ≡ ticket = sym next_is ∙ hit in
      let home = k.at_home (none_served s k id ticket v at here_is) in
      let serving = record v { seen = k.log; stage = Serves } in
      let counts = count_set has_ticket s.views id waiting serving at in
      let tickets = k.tickets in (
        serving,
        takes 0 (Some home.value),
        ap (λ hs. get_elem? hs 0) k.homes_are ∙ ap some home.home_is,
        moved s k id waiting serving at record { live_before = refl; live_after = refl; caller_is = refl; free_is = refl; others_are = refl }
            (set s.words 1 n) (set s.homes 0 none) k.log k.next none
            (ap (λ ws. set ws 1 n) k.words_are ∙ ap (λ (t : ℕ). k.next ∷ t ∷ []) next_is)
            (ap (λ hs. set hs 0 none) k.homes_are) k.few (omega arith)
            (λ j u ne e live. k.each j u e live)
            record { settings_are = fits.settings_are; callers_are = fits.callers_are; behind = goes_nowhere (v.caller ∷ v.joined) k.log k.log refl; below = fits.below; stage = (refl, omega (arith, fits.stage.1)) }
            (λ j u ne e live.
            let one = k.apart id j waiting u at e (λ q. ne (sym q)) refl live in
            let other = k.apart j id u waiting e at ne live refl in (
              record { tickets = λ t mine theirs. one.tickets t (sym here_is ∙ mine) theirs; numbers = one.numbers },
              record { tickets = λ t theirs mine. other.tickets t theirs (sym here_is ∙ mine); numbers = other.numbers },
            ))
            (id, serving, here s.views id waiting serving at, refl)
            k.rooted.known
            (λ none_serves. absurd (none_serves id serving (here s.views id waiting serving at) refl)),
        record {
          value = home.value;
          know_is = refl;
          slot_is = refl;
          settings_are = home.settings_are ∙ sym fits.settings_are;
          stands_for = home.stands_for;
          goes_on = fits.behind;
          known = λ first. known_to s k id waiting at refl first;
        },
      ))
      (λ miss. (waiting, keeps, tt, stays s 1 id waiting c at k, refl))

  pub watches : (id slots ticket : ℕ) (me : M) → me.0.stage ≡ Waits ticket →
      Allows Kept slots id me 1 (λ n. n) (watched settings_of stands (step slots 1 0 0 none) me)
  watches id slots ticket me waits =
      at_known_stage (λ (m : M). Allows Kept slots id m 1 (λ n. n) (watched settings_of stands (step slots 1 0 0 none) m)) (Waits ticket) me waits
      (watches_waiting id slots ticket me.0 me.1)

  -- the turn that is served adds its entry
  advances_serving : (id slots : ℕ) (v : Know) (x : T) (entry : Entry) → entry.caller ≡ v.caller → settings_of x ≡ v.settings → stands x (v.seen ++ entry ∷ []) →
      Allows Kept slots id (at_stage v Serves, (0, Some x) ∷ []) 1 (λ n. (n + 1) % 2 ^ 64) (advanced entry (step slots 1 1 0 none) (at_stage v Serves, (0, Some x) ∷ []))
  advances_serving id slots v x entry own of_lock stands_for s k wide at _ =
      let serving = at_stage v Serves in
      let n : ℕ = slice_index s.words 1 in
      let next_is : n ≡ length k.log = ap (λ ws. slice_index ws 1) k.words_are in
      let fits = k.each id serving at refl in
      let seen_is : v.seen ≡ k.log = fits.stage.0 in
      let over = record v { seen = v.seen ++ entry ∷ []; stage = Free } in
      let log = k.log ++ entry ∷ [] in
      let log_is : v.seen ++ entry ∷ [] ≡ log = ap (λ l. l ++ entry ∷ []) seen_is in
      let longer : length log ≡ length k.log + 1 = length-append k.log (entry ∷ []) in
      let few : length k.log < k.next = fits.stage.1 in
      let most : k.next ≤ 2 ^ 62 = k.few in
      let counts = count_set has_ticket s.views id serving over at in
      let tickets = k.tickets in
      let word : (n + 1) % 2 ^ 64 ≡ length log = mod-eq_of_lt (omega arith) ∙ omega arith in (
        over,
        gives,
        tt,
        moved s k id serving over at record { live_before = refl; live_after = refl; caller_is = refl; free_is = refl; others_are = refl }
            (set s.words 1 ((n + 1) % 2 ^ 64)) (set s.homes 0 (some (Some x))) log k.next (some (Some x))
            (ap (λ ws. set ws 1 ((n + 1) % 2 ^ 64)) k.words_are ∙ ap (λ (t : ℕ). k.next ∷ t ∷ []) word)
            (ap (λ hs. set hs 0 (some (Some x))) k.homes_are) k.few (omega arith)
            (λ j u ne e live.
            let other = k.apart j id u serving e at ne live refl in
            fits_longer settings callers k.log k.next k.free entry u
            (λ theirs. other.tickets (length k.log) theirs (ap length seen_is))
            (subst (λ (c : ℕ). AllByRecursion (λ number. number ≢ c) (claims_of u)) (sym own) other.numbers)
            (k.each j u e live))
            record { settings_are = fits.settings_are; callers_are = fits.callers_are; behind = goes_nowhere (v.caller ∷ v.joined) (v.seen ++ entry ∷ []) log log_is; below = fits.below; stage = tt }
            (λ j u ne e live. (
              record { tickets = λ t mine theirs. mine; numbers = (k.apart id j serving u at e (λ q. ne (sym q)) refl live).numbers },
              record { tickets = λ t theirs mine. mine; numbers = (k.apart j id u serving e at ne live refl).numbers },
            ))
            (id, over, here s.views id serving over at, log_is)
            (all_append (λ (y : Entry). y.caller < k.free) k.log (entry ∷ []) k.rooted.known (subst (λ (c : ℕ). c < k.free) (sym own) fits.below.0, tt))
            (λ _. record {
              value = x;
              home_is = refl;
              settings_are = of_lock ∙ fits.settings_are;
              stands_for = subst (stands x) log_is stands_for;
            }),
        (next_is ∙ ap length (sym seen_is), refl),
      )

  pub advances : (id slots : ℕ) (me : M) (entry : Entry) → me.0.stage ≡ Serves → entry.caller ≡ me.0.caller → IsFilled settings_of stands entry me →
      Allows Kept slots id me 1 (λ n. (n + 1) % 2 ^ 64) (advanced entry (step slots 1 1 0 none) me)
  advances id slots me entry serves own filled =
      let P : M → Type 0 = λ m. Allows Kept slots id m 1 (λ n. (n + 1) % 2 ^ 64) (advanced entry (step slots 1 1 0 none) m) in
      subst P (λ i. (record me.0 { stage = sym serves i }, sym filled.slots_are i))
      (advances_serving id slots me.0 filled.value entry own filled.settings_are filled.stands_for)

  -- the two histories are compared
  settles_joining : (id slots : ℕ) (v : Know) (c : List (ℕ × Option T)) (number : ℕ) (heard : List Entry) → v.caller ≡ 0 →
      Allows Kept slots id (at_stage v (Joins number heard), c) 0 (λ n. n) (settled (step slots 0 0 0 none) (at_stage v (Joins number heard), c))
  settles_joining id slots v c number heard first s k wide at _ =
      let joining = at_stage v (Joins number heard) in
      let fits = k.each id joining at refl in
      let both = compare_histories (v.caller ∷ v.joined) (number ∷ []) v.seen heard k.log fits.behind fits.stage in
      let root : k.root ≡ joining = is_root s k id joining at refl first in
      let counted : count_by is_live s.views ≡ v.out = k.rooted.counted ∙ ap (λ (y : Know). others_of y.out y.stage) root in
      let some_live : 1 ≤ count_by is_live s.views = count_some is_live s.views id joining at refl in
      let out_is : v.out ≡ suc (pred v.out) = omega arith in
      let settled_v = record v { seen = both.longer; joined = number ∷ v.joined; out = pred v.out; stage = Free } in
      let counts = count_set has_ticket s.views id joining settled_v at in
      let tickets = k.tickets in
      let behind = goes_both v.caller number v.joined both.longer k.log both.first_behind both.second_behind in
      let n : ℕ = slice_index s.words 0 in (
        settled_v,
        keeps,
        tt,
        moved s k id joining settled_v at record { live_before = refl; live_after = refl; caller_is = refl; free_is = refl; others_are = sym out_is }
            (set s.words 0 n) s.homes k.log k.next k.home (set_same s.words 0 ∙ k.words_are) k.homes_are k.few (omega arith)
            (λ j u ne e live. k.each j u e live)
            record { settings_are = fits.settings_are; callers_are = fits.callers_are; behind = behind; below = fits.below; stage = tt }
            (λ j u ne e live. (
              record { tickets = λ t mine theirs. mine; numbers = (k.apart id j joining u at e (λ q. ne (sym q)) refl live).numbers },
              record { tickets = λ t theirs mine. mine; numbers = (k.apart j id u joining e at ne live refl).numbers },
            ))
            (whole_set k.log s.views id joining settled_v at (longer_whole (v.caller ∷ v.joined) (number ∷ []) v.seen heard k.log both) k.whole)
            k.rooted.known
            (λ none_serves. k.at_home (none_serves_before s.views id joining settled_v at (λ q. absurd (cc)) none_serves)),
        (λ number' heard' is.
            let number_is : number ≡ number' = cc in
            let heard_is : heard ≡ heard' = cc in
            subst (λ (y : ℕ × List Entry). IsSettled y.0 y.1 (joining, c) (settled_v, c)) (λ i. (number_is i, heard_is i))
            record {
              know_is = refl;
              slots_are = refl;
              out_is = out_is;
              longer = both.one_of;
              goes_on = both.from_first;
              heard_goes_on = both.from_second;
              known = λ _. below_before v.free (v.caller ∷ v.joined) both.longer k.log both.first_behind (known_to s k id joining at refl first);
            }),
      )

  pub settles : (id slots : ℕ) (me : M) (number : ℕ) (heard : List Entry) → me.0.stage ≡ Joins number heard → me.0.caller ≡ 0 →
      Allows Kept slots id me 0 (λ n. n) (settled (step slots 0 0 0 none) me)
  settles id slots me number heard joins first =
      at_known_stage (λ (m : M). Allows Kept slots id m 0 (λ n. n) (settled (step slots 0 0 0 none) m)) (Joins number heard) me joins
      (settles_joining id slots me.0 me.1 number heard first)
