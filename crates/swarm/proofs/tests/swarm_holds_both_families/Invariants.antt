-- A counter of its own.
use Rattle.swarm.proofs.tests.swarm_holds_both_families.Given as goal

abbrev pub ghosts-hold_many : goal.ghosts-hold_many
ghosts-hold_many g a = record { name = a.blank.name; parts = a.blank.parts }
