-- A pass that several others were joined to.
use Rattle.std.specs.Prelude.{◌≡◌, ℕ, ◌+◌, List, [], ◌∷◌, ◌++◌, length, map}
use Rattle.std.specs.List.{AllByRecursion}
use Rattle.tracker_model.specs.Grows.{history_at}
use Rattle.tracker_model.specs.declared.entry.Entry.{Entry}
use Rattle.turn_lock.specs.Histories.{GoesOn}
use Rattle.shards.specs.Shape.{PassShape}

-- Each bucket's history begins with what a pass has seen of it, and goes on with nothing of its
-- number. So the entries of its number are exactly those that it has seen.
abbrev pub HoldAllOf : (histories : List (List Entry)) → PassShape → Type 0
HoldAllOf histories pass = (bucket : ℕ) →
    GoesOn (pass.caller ∷ []) (history_at pass.seen bucket) (history_at histories bucket)

-- these passes were joined to one, and so it has seen all that they have seen
pub record AreJoined (others : List PassShape) (old new : PassShape) : Type 0 where
  pub pass : new ≡ record old {
    seen = new.seen;
    joined = map (λ (other : PassShape). other.caller) others ++ old.joined;
    out = new.out;
  }
  pub out : old.out ≡ new.out + length others
  pub buckets : length new.seen ≡ length old.seen
  pub seen : (bucket : ℕ) → GoesOn (old.caller ∷ old.joined)
      (history_at old.seen bucket) (history_at new.seen bucket)
  pub others_seen : AllByRecursion (HoldAllOf new.seen) others
