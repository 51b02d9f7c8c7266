use Rattle.tracker_model.specs.Grows.{NoneBetween}
use Rattle.tracker_model.proofs.GrowsLemmas.{grows-alone, grows-append, grows-legal, grows-length, grows-once}
use Rattle.tracker_model.proofs.laws.calls_of_one_caller.Goals as goal

pub returns-clause-once : goal.returns-clause-once
returns-clause-once c = grows-once

pub returns-clause-appended : goal.returns-clause-appended
returns-clause-appended c = grows-append NoneBetween

pub returns-clause-grown : goal.returns-clause-grown
returns-clause-grown c = grows-alone

pub returns-clause-legal : goal.returns-clause-legal
returns-clause-legal c = grows-legal NoneBetween

pub returns-clause-as_many : goal.returns-clause-as_many
returns-clause-as_many c = grows-length NoneBetween
