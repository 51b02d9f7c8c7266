-- What the pass that shards begin with has seen: nothing.
use Rattle.std.proofs.Common.{◌≡◌, ℕ, zero, suc, List, [], ◌∷◌, map, refl}
use Rattle.tracker_model.specs.Grows.{history_at}
use Rattle.turn_lock.specs.Shape.{LockShape}

-- of no bucket it has seen an entry
pub nothing_seen : (locks : List LockShape) (bucket : ℕ) → history_at (map (λ (lock : LockShape). []) locks) bucket ≡ []
nothing_seen [] bucket = refl
nothing_seen (lock ∷ locks) zero = refl
nothing_seen (lock ∷ locks) (suc bucket) = nothing_seen locks bucket
