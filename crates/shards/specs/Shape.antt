-- What contracts see of shards and of the passes of their callers.
use Rattle.std.specs.Prelude.{◌≡◌, ◌<◌, ◌≤◌, ◌^◌, ◌∷◌, ℕ, false, if◌then◌else◌, List, [], All, length, map}
use Rattle.std.specs.List.{range_with_len}
use Rattle.tracker_model.specs.Settings.{Settings}
use Rattle.tracker_model.specs.declared.entry.Entry.{Entry}
use Rattle.turn_lock.specs.Histories.{AllBelow}
use Rattle.turn_lock.specs.Shape.{LockShape, TurnShape}

pub record ShardsShape : Type 0 where
  -- the lock of each bucket, in order
  pub locks : List LockShape
  -- the settings of each bucket, which never change
  pub settings : Settings
  -- how many bits of a hash tell its bucket
  pub bits : ℕ
  -- how many caller numbers there are
  pub callers : ℕ

pub record PassShape : Type 0 where
  -- the shards that it is a pass of
  pub shards : ShardsShape
  -- its number, from 0 on, which is the same in every lock
  pub caller : ℕ
  -- its free numbers are those from this one on that are below the shards' number of callers
  pub free : ℕ
  -- the numbers of the passes that were joined to it
  pub joined : List ℕ
  -- how many passes that were split from it aren't joined yet
  pub out : ℕ
  -- the history that it has seen of each bucket, in order, with the oldest entry first
  pub seen : List (List Entry)

-- A pass's free numbers are the shards'. All that caller 0's has seen is of numbers that aren't
-- free
pub record KnowsNumbers (pass : PassShape) : Type 0 where
  pub free_fits : pass.free ≤ pass.shards.callers
  pub not_free : pass.caller ≡ 0 → All (AllBelow pass.free) pass.seen

-- a pass that nothing was joined to, with no number free
abbrev pub new_pass : ShardsShape → (caller : ℕ) → (seen : List (List Entry)) → PassShape
new_pass shards caller seen = record {
  shards = shards;
  caller = caller;
  free = shards.callers;
  joined = [];
  out = 0;
  seen = seen;
}

-- the pass that shards begin with, which has seen no entry of any bucket
abbrev pub first_pass : ShardsShape → PassShape
first_pass shards =
    record (new_pass shards 0 (map (λ (lock : LockShape). []) shards.locks)) { free = 1 }

-- the passes that are split from one: they have its next numbers, and have seen what it has seen
abbrev pub new_passes : PassShape → (n : ℕ) → List PassShape
new_passes pass n =
    map (λ caller. new_pass pass.shards caller pass.seen) (range_with_len pass.free n)

-- the settings of a bucket, as a lock over it has them
abbrev pub numbers_of : Settings → List ℕ
numbers_of g = g.limits.peers ∷ g.limits.torrents ∷ (if g.sync then 1 else 0) ∷ []

-- a bucket's lock
pub record IsLockFor (settings : Settings) (callers : ℕ) (lock : LockShape) : Type 0 where
  pub settings_are : lock.settings ≡ numbers_of settings
  pub callers_are : lock.callers ≡ callers

-- what holds of shards: there is a lock for each bucket
pub record AreShards (shards : ShardsShape) : Type 0 where
  pub few_bits : shards.bits ≤ 10
  pub buckets : length shards.locks ≡ 2 ^ shards.bits
  pub some_callers : 1 ≤ shards.callers
  pub few_callers : shards.callers ≤ 1024
  pub each : All (IsLockFor shards.settings shards.callers) shards.locks

-- the numbers of the turns that were joined, which are the same at each lock
abbrev pub joined_of : List TurnShape → List ℕ
joined_of [] = []
joined_of (turn ∷ turns) = turn.joined

-- a turn that nobody waits for or has, with these numbers. If it is caller 0's, all that it has
-- seen is of numbers that aren't free
pub record IsAlike (caller free : ℕ) (joined : List ℕ) (out : ℕ) (turn : TurnShape)
    : Type 0 where
  pub caller_is : turn.caller ≡ caller
  pub free_is : turn.free ≡ free
  pub joined_are : turn.joined ≡ joined
  pub out_is : turn.out ≡ out
  pub rests : turn.holds ≡ false
  pub not_free : caller ≡ 0 → AllBelow free turn.seen

-- what holds of a pass: it has a turn at each lock, and all are alike
pub record IsPass (shards : ShardsShape) (caller free out : ℕ) (turns : List TurnShape)
    : Type 0 where
  pub known : AreShards shards
  pub locks_are : map (λ turn. turn.lock) turns ≡ shards.locks
  pub alike : All (IsAlike caller free (joined_of turns) out) turns
  pub few_out : out < free
  pub free_fits : free ≤ shards.callers
