-- A counter of its own.
use Rattle.age_ring.proofs.tests.ring_holds_many.Given as goal

abbrev pub ghosts-hold_many : goal.ghosts-hold_many
ghosts-hold_many g a = record { name = a.blank.name; parts = a.blank.parts }
