-- What the rule says of one turn and of two, as the history and the words go on.
use Rattle.std.proofs.Common.{◌≡◌, ◌≢◌, ◌+◌, ◌<◌, ◌≤◌, ℕ, true, List, [], ◌∷◌, ◌++◌, length, set, refl, sym, ap, ◌∙◌, subst, length-append, arith}
use Rattle.std.specs.List.{AllByRecursion}
use mathlib.Core.Logic.{dite}
use mathlib.Core.Option.{some, some-injective}
use native.Mathlib.Decide.{ℕ_discrete}
use lib.ListN.{get_elem?}
use Rattle.atomic_table.proofs.Lists.{set_else}
use Rattle.tracker_model.specs.declared.entry.Entry.{Entry}
use Rattle.turn_lock.specs.declared.know.Know.{Know}
use Rattle.turn_lock.specs.declared.know.Stage.{Stage}
use Rattle.turn_lock.specs.declared.know.Stage.TheVariants.{Free, Waits, Serves, Joins, Spent}
use Rattle.turn_lock.specs.Rule.{is_live, is_live_at, IsTicketAt, IsTicket, claims_at, claims_of, FitsStage, Fits, AreApart, HasHeardAll, HasAll, NoneServes}
use Rattle.turn_lock.proofs.Lists.{here}
use Rattle.turn_lock.proofs.HistoryLemmas.{all_weaker, goes_further}

-- a ticket is one of those that were drawn and not served before
pub ticket_within : (log : List Entry) (next : ℕ) (seen : List Entry) (st : Stage) (ticket : ℕ) → FitsStage log next seen st → IsTicketAt seen st ticket → (length log ≤ ticket) × (ticket < next)
ticket_within log next seen Free ticket fits is = absurd is
ticket_within log next seen (Waits mine) ticket fits is = (omega arith, omega arith)
ticket_within log next seen Serves ticket fits is = let same : length seen ≡ length log = ap length fits.0 in (omega arith, omega arith)
ticket_within log next seen (Joins number heard) ticket fits is = absurd is
ticket_within log next seen Spent ticket fits is = absurd is

stage_later : (log : List Entry) (next later : ℕ) (seen : List Entry) (st : Stage) → next ≤ later → FitsStage log next seen st → FitsStage log later seen st
stage_later log next later seen Free le fits = tt
stage_later log next later seen (Waits mine) le fits = (fits.0, omega arith)
stage_later log next later seen Serves le fits = (fits.0, omega arith)
stage_later log next later seen (Joins number heard) le fits = fits
stage_later log next later seen Spent le fits = tt

stage_longer : (log : List Entry) (next : ℕ) (seen : List Entry) (x : Entry) (joined : List ℕ) (st : Stage) → ¬ IsTicketAt seen st (length log) → AllByRecursion (λ n. n ≢ x.caller) (claims_at joined st) → FitsStage log next seen st → FitsStage (log ++ x ∷ []) next seen st
stage_longer log next seen x joined Free other apart fits = tt
stage_longer log next seen x joined (Waits mine) other apart fits =
    let ne : mine ≢ length log = other in
    let sum : length (log ++ x ∷ []) ≡ length log + 1 = length-append log (x ∷ []) in
    (omega arith, fits.1)
stage_longer log next seen x joined Serves other apart fits = absurd (other (ap length fits.0))
stage_longer log next seen x joined (Joins number heard) other apart fits = goes_further (number ∷ []) heard log x (apart.0, tt) fits
stage_longer log next seen x joined Spent other apart fits = tt

-- what holds of all claims holds of the numbers that were joined
joined_of : (P : ℕ → Type 0) (joined : List ℕ) (st : Stage) → AllByRecursion P (claims_at joined st) → AllByRecursion P joined
joined_of P joined Free all = all
joined_of P joined (Waits ticket) all = all
joined_of P joined Serves all = all
joined_of P joined (Joins number heard) all = all.1
joined_of P joined Spent all = all

module _ (settings : List ℕ) (callers : ℕ) where
  pub fits_later : (log : List Entry) (next later free : ℕ) (v : Know) → next ≤ later → Fits settings callers log next free v → Fits settings callers log later free v
  fits_later log next later free v le fits = record {
    settings_are = fits.settings_are;
    callers_are = fits.callers_are;
    behind = fits.behind;
    below = fits.below;
    stage = stage_later log next later v.seen v.stage le fits.stage;
  }

  pub fits_freer : (log : List Entry) (next free more : ℕ) (v : Know) → free ≤ more → Fits settings callers log next free v → Fits settings callers log next more v
  fits_freer log next free more v le fits = record {
    settings_are = fits.settings_are;
    callers_are = fits.callers_are;
    behind = fits.behind;
    below = all_weaker (λ n. n < free) (λ n. n < more) (λ n lt. omega arith) (claims_of v) fits.below;
    stage = fits.stage;
  }

  -- another turn added its entry
  pub fits_longer : (log : List Entry) (next free : ℕ) (x : Entry) (v : Know) → ¬ IsTicket v (length log) → AllByRecursion (λ n. n ≢ x.caller) (claims_of v) → Fits settings callers log next free v → Fits settings callers (log ++ x ∷ []) next free v
  fits_longer log next free x v other apart fits = record {
    settings_are = fits.settings_are;
    callers_are = fits.callers_are;
    behind = goes_further (v.caller ∷ v.joined) v.seen log x (apart.0, joined_of (λ n. n ≢ x.caller) v.joined v.stage apart.1) fits.behind;
    below = fits.below;
    stage = stage_longer log next v.seen x v.joined v.stage other apart.1 fits.stage;
  }

-- a turn that serves is live, and one that has seen all is
pub serving_live : (st : Stage) → st ≡ Serves → is_live_at st ≡ true
serving_live st is = ap is_live_at is

-- the ticket of the turn that is served is the number of entries so far
pub serves_next : (log : List Entry) (next : ℕ) (seen : List Entry) (st : Stage) (ticket : ℕ) → st ≡ Serves → length log ≡ ticket → FitsStage log next seen st → IsTicketAt seen st ticket
serves_next log next seen st ticket is at fits =
    let fits' = subst (FitsStage log next seen) is fits in
    subst (λ (z : Stage). IsTicketAt seen z ticket) (sym is) (ap length fits'.0 ∙ at)

pub whole_live : (log seen : List Entry) (st : Stage) → HasHeardAll log seen st → is_live_at st ≡ true
whole_live log seen Free has = refl
whole_live log seen (Waits ticket) has = refl
whole_live log seen Serves has = refl
whole_live log seen (Joins number heard) has = refl
whole_live log seen Spent has = absurd has

-- some turn has seen the whole history
abbrev pub SomeHasAll : List Entry → List Know → Type 0
SomeHasAll log views = (j : ℕ) × (u : Know) × (get_elem? views j ≡ some u) × HasAll log u

pub whole_set : (log : List Entry) (views : List Know) (id : ℕ) (v w : Know) → get_elem? views id ≡ some v → (HasAll log v → HasAll log w) → SomeHasAll log views → SomeHasAll log (set views id w)
whole_set log views id v w at keeps some_has =
    dite (ℕ_discrete some_has.0 id)
    (λ e. let is : some_has.1 ≡ v = some-injective some_has.1 v (sym some_has.2 ∙ ap (get_elem? views) e ∙ at) in (id, w, here views id v w at, keeps (subst (HasAll log) is some_has.3)))
    (λ ne. (some_has.0, some_has.1, set_else views id some_has.0 w ne ∙ some_has.2, some_has.3))

pub none_serves_before : (views : List Know) (id : ℕ) (v w : Know) → get_elem? views id ≡ some v → v.stage ≢ Serves → NoneServes (set views id w) → NoneServes views
none_serves_before views id v w at rests none j u at_u serves =
    dite (ℕ_discrete j id)
    (λ e. let is : u ≡ v = some-injective u v (sym at_u ∙ ap (get_elem? views) e ∙ at) in rests (sym (ap (λ (y : Know). y.stage) is) ∙ serves))
    (λ ne. none j u (set_else views id j w ne ∙ at_u) serves)

-- both directions of what the rule says of two turns
abbrev pub AreBothApart : (v w : Know) → Type 0
AreBothApart v w = AreApart v w × AreApart w v

abbrev pub LiveApart : (v w : Know) → Type 0
LiveApart v w = is_live v ≡ true → is_live w ≡ true → AreApart v w
