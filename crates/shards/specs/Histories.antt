-- How the histories that a pass has seen go on.
use Rattle.std.specs.Prelude.{◌≡◌, ◌⊎◌, ◌+◌, ℕ, List, [], ◌∷◌}
use Rattle.tracker_model.specs.declared.entry.Entry.{Entry}
use Rattle.turn_lock.specs.Histories.{AllBelow, GoesOn}
use Rattle.turn_lock.specs.Shape.{TurnShape}

-- a bucket's history once a pass was joined: the longer of what the two had seen, in which each of
-- them goes on without the numbers under which nobody but itself has added an entry
pub record IsJoined (callers : List ℕ) (other : ℕ) (mine theirs joined : List Entry)
    : Type 0 where
  pub longer : (joined ≡ mine) ⊎ (joined ≡ theirs)
  pub goes_on : GoesOn callers mine joined
  pub other_goes_on : GoesOn (other ∷ []) theirs joined

-- a turn once another one was joined to it
pub record IsJoinedTurn (old other new : TurnShape) : Type 0 where
  pub turn : new ≡ record old {
    seen = new.seen;
    joined = other.caller ∷ old.joined;
    out = new.out;
  }
  pub one_less : old.out ≡ new.out + 1
  pub not_free : new.caller ≡ 0 → AllBelow new.free new.seen
  pub seen : IsJoined (old.caller ∷ old.joined) other.caller old.seen other.seen new.seen
