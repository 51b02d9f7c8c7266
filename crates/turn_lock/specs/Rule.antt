-- The rule of a lock's table: what holds of its words, its slot and all turns between any two
-- steps.
use Rattle.std.specs.Prelude.{◌≡◌, ◌≢◌, ◌+◌, ◌<◌, ◌≤◌, ◌^◌, ◌⊎◌, ℕ, suc, Bool, true, false, List, [], ◌∷◌, length, count_by, Option, Some}
use Rattle.std.specs.List.{AllByRecursion}
use mathlib.Core.Option.{some}
use mathlib.Core.Option as maybe
use lib.ListN.{get_elem?}
use Rattle.atomic_table.specs.Table.{State}
use Rattle.tracker_model.specs.declared.entry.Entry.{Entry}
use Rattle.turn_lock.specs.declared.know.Know.{Know}
use Rattle.turn_lock.specs.declared.know.Stage.{Stage}
use Rattle.turn_lock.specs.declared.know.Stage.TheVariants.{Free, Waits, Serves, Joins, Spent}
use Rattle.turn_lock.specs.Histories.{GoesOn, AllBelow}

abbrev pub is_live_at : Stage → Bool
is_live_at Free = true
is_live_at (Waits ticket) = true
is_live_at Serves = true
is_live_at (Joins number heard) = true
is_live_at Spent = false

-- somebody has the turn
abbrev pub is_live : Know → Bool
is_live v = is_live_at v.stage

abbrev pub IsTicketAt : (seen : List Entry) → Stage → ℕ → Type 0
IsTicketAt seen Free ticket = ⊥
IsTicketAt seen (Waits mine) ticket = mine ≡ ticket
IsTicketAt seen Serves ticket = length seen ≡ ticket
IsTicketAt seen (Joins number heard) ticket = ⊥
IsTicketAt seen Spent ticket = ⊥

-- the turn has that ticket: one that is served has the number of the entries so far
abbrev pub IsTicket : Know → ℕ → Type 0
IsTicket v ticket = IsTicketAt v.seen v.stage ticket

abbrev pub has_ticket_at : Stage → Bool
has_ticket_at Free = false
has_ticket_at (Waits ticket) = true
has_ticket_at Serves = true
has_ticket_at (Joins number heard) = false
has_ticket_at Spent = false

-- the turn has a ticket, and isn't over yet
abbrev pub has_ticket : Know → Bool
has_ticket v = has_ticket_at v.stage

abbrev pub claims_at : List ℕ → Stage → List ℕ
claims_at joined Free = joined
claims_at joined (Waits ticket) = joined
claims_at joined Serves = joined
claims_at joined (Joins number heard) = number ∷ joined
claims_at joined Spent = joined

-- the numbers under which no other turn adds an entry: its own, and those of the turns joined to it
abbrev pub claims_of : Know → List ℕ
claims_of v = v.caller ∷ claims_at v.joined v.stage

-- a stage fits the history and the next ticket
abbrev pub FitsStage : (log : List Entry) (next : ℕ) (seen : List Entry) → Stage → Type 0
FitsStage log next seen Free = Unit {0}
FitsStage log next seen (Waits ticket) = (length log ≤ ticket) × (ticket < next)
FitsStage log next seen Serves = (seen ≡ log) × (length log < next)
FitsStage log next seen (Joins number heard) = GoesOn (number ∷ []) heard log
FitsStage log next seen Spent = Unit {0}

-- what the rule says of a turn by itself
pub record Fits
    (settings : List ℕ) (callers : ℕ) (log : List Entry) (next free : ℕ) (v : Know)
    : Type 0 where
  pub settings_are : v.settings ≡ settings
  pub callers_are : v.callers ≡ callers
  pub behind : GoesOn (v.caller ∷ v.joined) v.seen log
  pub below : AllByRecursion (λ number. number < free) (claims_of v)
  pub stage : FitsStage log next v.seen v.stage

-- what the rule says of two turns
pub record AreApart (v w : Know) : Type 0 where
  pub tickets : (ticket : ℕ) → IsTicket v ticket → ¬ IsTicket w ticket
  pub numbers : AllByRecursion (λ number. number ≢ w.caller) (claims_of v)

abbrev pub HasHeardAll : (log : List Entry) → (seen : List Entry) → Stage → Type 0
HasHeardAll log seen Free = seen ≡ log
HasHeardAll log seen (Waits ticket) = seen ≡ log
HasHeardAll log seen Serves = seen ≡ log
HasHeardAll log seen (Joins number heard) = (seen ≡ log) ⊎ (heard ≡ log)
HasHeardAll log seen Spent = ⊥

-- a turn has seen the whole history
abbrev pub HasAll : List Entry → Know → Type 0
HasAll log v = HasHeardAll log v.seen v.stage

abbrev pub others_of : (out : ℕ) → Stage → ℕ
others_of out Free = suc out
others_of out (Waits ticket) = suc out
others_of out Serves = suc out
others_of out (Joins number heard) = out
others_of out Spent = suc out

-- caller 0's turn, which is the first: the turns that somebody has are itself and those out
pub record IsRoot (callers : ℕ) (log : List Entry) (free : ℕ) (views : List Know) (v : Know)
    : Type 0 where
  pub here : get_elem? views 0 ≡ some v
  pub caller_is : v.caller ≡ 0
  pub live : is_live v ≡ true
  pub free_is : v.free ≡ free
  pub free_fits : free ≤ callers
  pub counted : count_by is_live views ≡ others_of v.out v.stage
  pub known : AllBelow free log

-- no turn is served
abbrev pub NoneServes : List Know → Type 0
NoneServes views = (j : ℕ) (v : Know) → get_elem? views j ≡ some v → v.stage ≢ Serves

module _ {T : Type 0} (settings_of : T → List ℕ) (stands : T → List Entry → Type 0)
    (settings : List ℕ) (callers : ℕ) where
  -- the slot has a value that stands for the history
  pub record IsHome (log : List Entry) (home : maybe.Option (Option T)) : Type 0 where
    pub value : T
    pub home_is : home ≡ some (Some value)
    pub settings_are : settings_of value ≡ settings
    pub stands_for : stands value log

  -- There is one history. The serving word says how many entries it has, and the ticket word is
  -- past that by the turns that have a ticket. Each turn has seen a beginning of the history, and
  -- the value at home stands for it
  pub record IsKept (s : State (Option T) Know) : Type 0 where
    pub log : List Entry
    pub next : ℕ
    pub free : ℕ
    pub home : maybe.Option (Option T)
    pub words_are : s.words ≡ next ∷ length log ∷ []
    pub homes_are : s.homes ≡ home ∷ []
    pub few : next ≤ 2 ^ 62
    pub tickets : next ≡ length log + count_by has_ticket s.views
    pub each : (j : ℕ) (v : Know) → get_elem? s.views j ≡ some v → is_live v ≡ true →
        Fits settings callers log next free v
    pub apart : (i j : ℕ) (v w : Know) → get_elem? s.views i ≡ some v →
        get_elem? s.views j ≡ some w → i ≢ j → is_live v ≡ true → is_live w ≡ true →
        AreApart v w
    pub whole : (j : ℕ) × (v : Know) × (get_elem? s.views j ≡ some v) × HasAll log v
    pub root : Know
    pub rooted : IsRoot callers log free s.views root
    pub at_home : NoneServes s.views → IsHome log home

-- what the first turn knows
abbrev pub first_know : (settings : List ℕ) (callers : ℕ) → Know
first_know settings callers = record {
  settings = settings;
  callers = callers;
  caller = 0;
  seen = [];
  free = 1;
  joined = [];
  out = 0;
  stage = Free;
}
