-- What a turn's seat at the table is seen as.
use Rattle.std.specs.Prelude.{◌≡◌, ◌≢◌, ◌<◌, ◌≤◌, ℕ, Bool, true, false, List, [], ◌∷◌, ◌++◌, Option, Some, None}
use Rattle.atomic_table.specs.Table.{Me}
use Rattle.atomic_table.specs.Seated.{TableId}
use Rattle.atomic_table.specs.declared.shared.Seat.{Seat}
use Rattle.tracker_model.specs.declared.entry.Entry.{Entry}
use Rattle.turn_lock.specs.declared.know.Know.{Know}
use Rattle.turn_lock.specs.declared.know.Stage.{Stage}
use Rattle.turn_lock.specs.declared.know.Stage.TheVariants.{Free, Waits, Serves, Joins, Spent}
use Rattle.turn_lock.specs.Plays.{HasKnown}
use Rattle.turn_lock.specs.Shape.{TurnShape}

-- a lock's table has two words and a slot
pub record IsSized (table : TableId) : Type 0 where
  pub words : table.words ≡ 2
  pub slots : table.slots ≡ 1

abbrev pub IsSamePlace : {T : Type 0} → (old new : Seat (Option T) Know) → Type 0
IsSamePlace old new = (new.table_id ≡ old.table_id) × (new.id ≡ old.id)

abbrev pub holds_at : Stage → Bool
holds_at Free = false
holds_at (Waits ticket) = false
holds_at Serves = true
holds_at (Joins number heard) = false
holds_at Spent = false

abbrev pub turn_of : {T : Type 0} → Seat (Option T) Know → TurnShape
turn_of place = record {
  lock = record {
    table = place.table_id;
    settings = place.me.0.settings;
    callers = place.me.0.callers;
  };
  caller = place.me.0.caller;
  seen = place.me.0.seen;
  free = place.me.0.free;
  joined = place.me.0.joined;
  out = place.me.0.out;
  holds = holds_at place.me.0.stage;
}

-- between two calls a turn is free, with no slot, or is served, with a slot that it has emptied
abbrev pub RestsAt : {T : Type 0} → List (ℕ × Option T) → Stage → Type 0
RestsAt slots Free = slots ≡ []
RestsAt slots (Waits ticket) = ⊥
RestsAt slots Serves = slots ≡ (0, None) ∷ []
RestsAt slots (Joins number heard) = ⊥
RestsAt slots Spent = ⊥

-- what holds of a turn between two calls
pub record IsTurn {T : Type 0} (me : Me (Option T) Know) : Type 0 where
  pub rests : RestsAt me.1 me.0.stage
  pub not_free : me.0.caller < me.0.free
  pub first_free : me.0.free ≤ me.0.callers
  -- only caller 0's turn has free numbers
  pub none_free : me.0.caller ≢ 0 → me.0.free ≡ me.0.callers
  pub known : HasKnown me.0

-- the slot was filled again, with a value that stands for what was seen with an entry added
pub record IsFilled {T : Type 0} (settings_of : T → List ℕ) (stands : T → List Entry → Type 0)
    (entry : Entry) (me : Me (Option T) Know) : Type 0 where
  pub value : T
  pub slots_are : me.1 ≡ (0, Some value) ∷ []
  pub settings_are : settings_of value ≡ me.0.settings
  pub stands_for : stands value (me.0.seen ++ entry ∷ [])
