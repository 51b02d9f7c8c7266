use Rattle.tracker_model.specs.Grows.{OthersBetween}
use Rattle.tracker_model.proofs.GrowsLemmas.{grows-among, grows-append, grows-begins, grows-legal, grows-length}
use Rattle.tracker_model.proofs.laws.calls_among_others.Goals as goal

pub returns-clause-appended : goal.returns-clause-appended
returns-clause-appended c = λ g caller. grows-append (OthersBetween caller) g caller

pub returns-clause-grown : goal.returns-clause-grown
returns-clause-grown c = λ g caller. grows-begins (OthersBetween caller) g caller

pub returns-clause-own : goal.returns-clause-own
returns-clause-own c = grows-among

pub returns-clause-legal : goal.returns-clause-legal
returns-clause-legal c = λ g caller. grows-legal (OthersBetween caller) g caller

pub returns-clause-as_many : goal.returns-clause-as_many
returns-clause-as_many c = λ g caller. grows-length (OthersBetween caller) g caller
