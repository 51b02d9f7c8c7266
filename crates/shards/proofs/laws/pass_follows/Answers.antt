use Rattle.shards.proofs.PassingLemmas.{made_follows}
use Rattle.shards.proofs.laws.pass_follows.Goals as goal

pub returns : goal.returns
returns c = made_follows
