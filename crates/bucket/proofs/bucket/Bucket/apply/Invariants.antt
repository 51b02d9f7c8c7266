-- A counter of its own.
use Rattle.bucket.proofs.bucket.Bucket.apply.Given as goal

abbrev pub ghosts-apply : goal.ghosts-apply
ghosts-apply a = record { name = a.blank.name; parts = a.blank.parts }
