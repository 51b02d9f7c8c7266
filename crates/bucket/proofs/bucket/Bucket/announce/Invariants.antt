-- A counter of its own for each function.
use Rattle.bucket.proofs.bucket.Bucket.announce.Given as goal

abbrev pub ghosts-refuse : goal.ghosts-refuse
ghosts-refuse a = record { name = a.blank.name; parts = a.blank.parts }

abbrev pub ghosts-announce : goal.ghosts-announce
ghosts-announce a = record { name = a.blank.name; parts = a.blank.parts }
