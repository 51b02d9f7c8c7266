-- A counter of its own.
use Rattle.node_table.proofs.tests.fills_up_by_quarters.Given as goal

abbrev pub ghosts-fill : goal.ghosts-fill
ghosts-fill g a = record { name = a.blank.name; parts = a.blank.parts }
