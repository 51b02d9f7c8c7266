use Rattle.serve.proofs.CompletenessLemmas.{taken_up}
use Rattle.serve.proofs.laws.datagrams_are_taken_up.Goals as goal

pub returns : goal.returns
returns c = taken_up
