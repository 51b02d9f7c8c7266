use Rattle.serve.proofs.CompletenessLemmas.{replied_to}
use Rattle.serve.proofs.laws.connections_are_replied_to.Goals as goal

pub returns : goal.returns
returns c = replied_to
