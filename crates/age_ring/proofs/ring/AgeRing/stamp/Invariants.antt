-- A counter of its own: reading a stamp is one step.
use Rattle.age_ring.proofs.ring.AgeRing.stamp.Given as goal

abbrev pub ghosts-pair : goal.ghosts-pair
ghosts-pair g a = record { name = a.blank.name; parts = a.blank.parts }
