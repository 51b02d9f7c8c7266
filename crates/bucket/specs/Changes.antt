-- What is left of the torrents where some are taken out.
use Rattle.std.specs.Prelude.{◌≡◌, ℕ, false, List, ◌++◌, All}
use Rattle.std.specs.List.Sorted.{IsPermutation}
use Rattle.age_ring.specs.Ring.{Ring}
use Rattle.ot_base.specs.declared.hash.InfoHash.{InfoHash}
use Rattle.tracker_model.specs.Shape.{Torrent, is_known_in}

-- the ring's time and ages are the same
pub record KeepsClock (old new : Ring InfoHash) : Type 0 where
  pub time : new.time ≡ old.time
  pub ages : new.ages ≡ old.ages

-- some elements have gone, each of them one of which P holds
pub record Drops {X : Type 0} (P : X → Type 0) (old new : List X) : Type 0 where
  pub gone : List X
  pub moves : IsPermutation old (gone ++ new)
  pub each : All P gone

-- torrents have gone that aren't known at a minute
abbrev pub DropsUnknown : ℕ → (old new : List Torrent) → Type 0
DropsUnknown minute old new = Drops (λ torrent. is_known_in minute torrent ≡ false) old new
