-- What buckets stand for is legal.
use Rattle.std.proofs.Common.{rules}
use Rattle.server.proofs.SummaryLemmas.{legal_all}
use Rattle.server.proofs.run.conclude.Goals as goal

pub returns-clause-legal : goal.returns-clause-legal
returns-clause-legal g c = legal_all c.args.shards.settings c.args.pass.seen c.in-Ok.closed.shelf (search rules) (search rules)
