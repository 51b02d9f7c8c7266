-- A counter of its own.
use Rattle.age_ring.proofs.tests.ring_follows_a_plain_list.Given as goal

abbrev pub ghosts-follow_a_list : goal.ghosts-follow_a_list
ghosts-follow_a_list g a = record { name = a.blank.name; parts = a.blank.parts }
