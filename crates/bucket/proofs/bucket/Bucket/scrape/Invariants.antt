-- A counter of its own.
use Rattle.bucket.proofs.bucket.Bucket.scrape.Given as goal

abbrev pub ghosts-scrape : goal.ghosts-scrape
ghosts-scrape a = record { name = a.blank.name; parts = a.blank.parts }
