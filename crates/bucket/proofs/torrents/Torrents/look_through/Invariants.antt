-- The hash has none of the places before this one.
use Rattle.std.proofs.Common.{◌≢◌, ℕ, ◌<◌, Some}
use Rattle.bucket.specs.Torrents.{place_of}
use Rattle.bucket.proofs.torrents.Torrents.look_through.Given as goal

abbrev pub invariant-loop-place : goal.invariant-loop-place
invariant-loop-place l = (i : ℕ) → i < l.place → place_of l.fn.hash l.fn.self.torrents ≢ Some i
