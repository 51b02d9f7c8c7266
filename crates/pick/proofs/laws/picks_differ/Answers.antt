-- The three facts of picks.
use Rattle.pick.proofs.PickLemmas.{picks_apart}
use Rattle.pick.proofs.laws.picks_differ.Goals as goal

pub returns-clause-count : goal.returns-clause-count
returns-clause-count c words n k few within = (picks_apart words n k few within).count

pub returns-clause-below : goal.returns-clause-below
returns-clause-below c words n k few within = (picks_apart words n k few within).below

pub returns-clause-distinct : goal.returns-clause-distinct
returns-clause-distinct c words n k few within = (picks_apart words n k few within).distinct
