-- What contracts see of a lock and of its turns.
use Rattle.std.specs.Prelude.{◌≡◌, ◌<◌, ◌≤◌, ℕ, Bool, false, List, []}
use Rattle.atomic_table.specs.Seated.{TableId}
use Rattle.ot_base.specs.declared.minute.Minute.{Minute}
use Rattle.tracker_model.specs.declared.answer.Answer.{Answer}
use Rattle.tracker_model.specs.declared.call.Call.{Call}
use Rattle.tracker_model.specs.declared.entry.Entry.{Entry}
use Rattle.turn_lock.specs.Histories.{AllBelow}

pub record LockShape : Type 0 where
  -- what tells it from all other locks
  pub table : TableId
  -- the settings of its value, which never change
  pub settings : List ℕ
  -- how many caller numbers it has
  pub callers : ℕ

pub record TurnShape : Type 0 where
  -- the lock that it is a turn of
  pub lock : LockShape
  -- its number, from 0 on
  pub caller : ℕ
  -- the history that it has seen, with the oldest entry first
  pub seen : List Entry
  -- its free numbers are those from this one on that are below the lock's number of callers
  pub free : ℕ
  -- the numbers of the turns that were joined to it
  pub joined : List ℕ
  -- how many turns that were split from it aren't joined yet
  pub out : ℕ
  -- whether it has the value
  pub holds : Bool

-- a number is one of a turn's free ones
pub record IsSpare (turn : TurnShape) (number : ℕ) : Type 0 where
  pub from : turn.free ≤ number
  pub below : number < turn.lock.callers

-- A turn's own number isn't free, and its free numbers are the lock's. All that caller 0 has seen
-- is of numbers that aren't free
pub record KnowsCallers (turn : TurnShape) : Type 0 where
  pub own : turn.caller < turn.free
  pub first_free : turn.free ≤ turn.lock.callers
  pub not_free : turn.caller ≡ 0 → AllBelow turn.free turn.seen

-- a turn that nothing was joined to, with no number free
abbrev pub new_turn : LockShape → (caller : ℕ) → List Entry → TurnShape
new_turn lock caller seen = record {
  lock = lock;
  caller = caller;
  seen = seen;
  free = lock.callers;
  joined = [];
  out = 0;
  holds = false;
}

-- the turn that a lock begins with
abbrev pub first_turn : LockShape → TurnShape
first_turn lock = record (new_turn lock 0 []) { free = 1 }

-- the entry of a call
abbrev pub entry_of : (caller : ℕ) → Minute → Call → Answer → Entry
entry_of caller minute call answer = record {
  caller = caller;
  minute = minute;
  call = call;
  answer = answer;
}
