-- What a cleaning of all buckets tells.
use Rattle.std.specs.Prelude.{ℕ, ◌+◌, List, [], ◌∷◌, Option, Some, None}
use Rattle.std.specs.Option.{option_and_then, option_map}
use Rattle.tracker_model.specs.declared.answer.Answer.{Answer}
use Rattle.tracker_model.specs.declared.answer.Answer.TheVariants as answered

-- how many peers are left, where this answers a cleaning
abbrev pub held_left : Answer → Option ℕ
held_left (answered.Cleaned held) = Some held
held_left (answered.Told counts peers) = None
held_left (answered.Stats counts known) = None
held_left (answered.Rows rows) = None
held_left answered.Applied = None
held_left (answered.Drained notes dropped) = None
held_left (answered.SwarmFull count) = None
held_left (answered.BucketFull count) = None
held_left answered.NoMemory = None

-- how many peers are left in all, where each of the answers is one to a cleaning
abbrev pub held_sum : List Answer → Option ℕ
held_sum [] = Some 0
held_sum (answer ∷ answers) =
    option_and_then (λ held. option_map (λ others. held + others) (held_sum answers))
    (held_left answer)
