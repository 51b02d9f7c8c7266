-- Calls that are made on the buckets of a tracker, one after another.
use Rattle.std.specs.Prelude.{◌≡◌, ℕ, List, [], ◌∷◌, Result, Ok, Err}
use Rattle.ot_base.specs.declared.minute.Minute.{Minute}
use Rattle.ot_base.specs.declared.peer.Row.{Row}
use Rattle.tracker_model.specs.declared.answer.Answer.{Answer}
use Rattle.tracker_model.specs.declared.answer.Answer.TheVariants.{Rows, NoMemory}
use Rattle.tracker_model.specs.declared.call.Call.{Call}

-- `made old bucket minute call answer new`: in the state old the call on the bucket may have this
-- answer at this minute, and the state is new then
abbrev pub MakingRelation : Type 0 → Type 1
MakingRelation T = T → ℕ → Minute → Call → Answer → T → Type 0

module _ {T : Type 0} (made : MakingRelation T) where
  -- The calls were made at a minute, each on its bucket, in order and with nothing else of this
  -- caller between them, and they have these answers.
  abbrev pub Makes : Minute → T → List (ℕ × Call) → List Answer → T → Type 0
  Makes minute old [] [] new = new ≡ old
  Makes minute old [] (answer ∷ answers) new = ⊥
  Makes minute old (placed ∷ others) [] new = ⊥
  Makes minute old (placed ∷ others) (answer ∷ answers) new =
      (middle : T) × made old placed.0 minute placed.1 answer middle
      × Makes minute middle others answers new

-- the answer to a scan that found these rows, or no memory for them
abbrev pub scanned : {E : Type 0} → Result (List Row) E → Answer
scanned (Ok rows) = Rows rows
scanned (Err error) = NoMemory
