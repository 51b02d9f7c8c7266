-- What each step on the table tells its turn: of the step, the turn before, the number found in the
-- word, and the turn after.
use Rattle.std.specs.Prelude.{◌≡◌, ◌⊎◌, ℕ, suc, List, [], ◌∷◌, ◌++◌, ◌==◌, if◌then◌else◌, length, Option, Some, MatchBool}
use Rattle.atomic_table.specs.Table.{Me, Step, rest}
use Rattle.tracker_model.specs.declared.answer.Answer.TheVariants.{NoMemory}
use Rattle.tracker_model.specs.declared.call.Call.TheVariants.{Drain}
use Rattle.tracker_model.specs.declared.entry.Entry.{Entry}
use Rattle.turn_lock.specs.declared.know.Know.{Know}
use Rattle.turn_lock.specs.declared.know.Stage.{Stage}
use Rattle.turn_lock.specs.declared.know.Stage.TheVariants.{Free, Waits, Serves, Joins, Spent}
use Rattle.turn_lock.specs.Histories.{GoesOn, AllBelow}

-- an entry, where one is needed and none is meant
abbrev pub no_entry : Entry
no_entry = record { caller = 0; minute = record { 0 = 0 }; call = Drain; answer = NoMemory }

-- what caller 0 has seen is of numbers that aren't free
abbrev pub HasKnown : Know → Type 0
HasKnown v = v.caller ≡ 0 → AllBelow v.free v.seen

-- the ticket that a turn waits with
abbrev pub ticket_of : Stage → ℕ
ticket_of (Waits ticket) = ticket
ticket_of _ = 0

-- a ticket was drawn where the word was still as expected, and else nothing changed
abbrev pub drawn : {S : Type 0} → Step S → Me S Know → ℕ → Me S Know → Type 0
drawn step old found new =
    new ≡ (if found == step.first then (record old.0 { stage = Waits step.first }, old.1) else old)

module _ {T : Type 0} (settings_of : T → List ℕ) (stands : T → List Entry → Type 0) where
  -- a turn is served: it has seen the whole history, and has the slot, with a value that stands for
  -- that history
  pub record IsServed (old new : Me (Option T) Know) : Type 0 where
    pub value : T
    pub know_is : new.0 ≡ record old.0 { seen = new.0.seen; stage = Serves }
    pub slot_is : new.1 ≡ (0, Some value) ∷ old.1
    pub settings_are : settings_of value ≡ old.0.settings
    pub stands_for : stands value new.0.seen
    pub goes_on : GoesOn (old.0.caller ∷ old.0.joined) old.0.seen new.0.seen
    pub known : HasKnown new.0

  -- the turn is served where the word is its ticket, and else nothing changed
  abbrev pub watched : Step (Option T) → Me (Option T) Know → ℕ → Me (Option T) Know → Type 0
  watched step old found new =
      MatchBool (found == ticket_of old.0.stage) (IsServed old new) (new ≡ old)

-- the turn is over: its entry was added, at the place that the word said, and the slot given back
abbrev pub advanced : {S : Type 0} → Entry → Step S → Me S Know → ℕ → Me S Know → Type 0
advanced entry step old found new =
    (found ≡ length old.0.seen)
    × (new ≡ (record old.0 { seen = old.0.seen ++ entry ∷ []; stage = Free }, rest old.1))

-- the history that was seen and the one that was heard of are compared, and the longer one is seen
pub record IsSettled {S : Type 0} (number : ℕ) (heard : List Entry) (old new : Me S Know)
    : Type 0 where
  pub know_is : new.0 ≡ record old.0 {
    seen = new.0.seen;
    joined = number ∷ old.0.joined;
    out = new.0.out;
    stage = Free;
  }
  pub slots_are : new.1 ≡ old.1
  pub out_is : old.0.out ≡ suc new.0.out
  pub longer : (new.0.seen ≡ old.0.seen) ⊎ (new.0.seen ≡ heard)
  pub goes_on : GoesOn (old.0.caller ∷ old.0.joined) old.0.seen new.0.seen
  pub heard_goes_on : GoesOn (number ∷ []) heard new.0.seen
  pub known : HasKnown new.0

abbrev pub settled : {S : Type 0} → Step S → Me S Know → ℕ → Me S Know → Type 0
settled step old found new =
    (number : ℕ) (heard : List Entry) → old.0.stage ≡ Joins number heard →
    IsSettled number heard old new

-- a turn whose number was handed to a new one
abbrev pub kept_part : ℕ → Know → Know
kept_part number v = record v { free = suc number; out = suc v.out }

-- the new turn, which has seen the same
abbrev pub new_part : ℕ → Know → Know
new_part number v =
    record v { caller = number; free = v.callers; joined = []; out = 0; stage = Free }

-- a turn that has taken in another
abbrev pub merged : Know → Know → Know
merged v w = record v { stage = Joins w.caller w.seen }

-- what is left of a turn that was taken in
abbrev pub nobody : Know
nobody = record {
  settings = [];
  callers = 0;
  caller = 0;
  seen = [];
  free = 0;
  joined = [];
  out = 0;
  stage = Spent;
}
