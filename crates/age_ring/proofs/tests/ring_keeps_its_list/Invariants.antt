-- A counter of its own.
use Rattle.age_ring.proofs.tests.ring_keeps_its_list.Given as goal

abbrev pub ghosts-keep_a_list : goal.ghosts-keep_a_list
ghosts-keep_a_list g a = record { name = a.blank.name; parts = a.blank.parts }
