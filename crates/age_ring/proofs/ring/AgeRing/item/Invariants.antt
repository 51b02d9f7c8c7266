-- A counter of its own: reading an item is one step.
use Rattle.age_ring.proofs.ring.AgeRing.item.Given as goal

abbrev pub ghosts-pair : goal.ghosts-pair
ghosts-pair g a = record { name = a.blank.name; parts = a.blank.parts }
