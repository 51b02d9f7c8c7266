-- Calls that a plan makes on a tracker, and what their answers give.
use Rattle.std.specs.Prelude.{◌≡◌, ℕ, List, Option, Some, take}
use Rattle.ot_base.specs.declared.minute.Minute.{Minute}
use Rattle.tracker_model.specs.Making.{Makes, MakingRelation}
use Rattle.tracker_model.specs.declared.answer.Answer.{Answer}
use Rattle.tracker_model.specs.declared.call.Call.{Call}

-- the calls were made from the state old to the state new, and their answers give this
pub record Gives {T X : Type 0}
    (made : MakingRelation T) (minute : Minute) (old : T) (placed : List (ℕ × Call))
    (gives : List Answer → Option X) (new : T) (given : X) : Type 0 where
  pub answers : List Answer
  pub makes : Makes made minute old placed answers new
  pub came : gives answers ≡ Some given

-- of the calls the first ones were made, and no other
pub record MakesFront {T : Type 0}
    (made : MakingRelation T) (minute : Minute) (old : T) (placed : List (ℕ × Call)) (new : T)
    : Type 0 where
  pub count : ℕ
  pub answers : List Answer
  pub makes : Makes made minute old (take count placed) answers new
