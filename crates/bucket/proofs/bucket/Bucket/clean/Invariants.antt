-- A counter of its own.
use Rattle.bucket.proofs.bucket.Bucket.clean.Given as goal

abbrev pub ghosts-clean : goal.ghosts-clean
ghosts-clean a = record { name = a.blank.name; parts = a.blank.parts }
