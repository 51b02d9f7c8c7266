-- A counter of its own.
use Rattle.swarm.proofs.tests.swarm_follows_plain_lists.Given as goal

abbrev pub ghosts-follow_lists : goal.ghosts-follow_lists
ghosts-follow_lists g a = record { name = a.blank.name; parts = a.blank.parts }
