-- A pass more was joined to one to which none was.
use Rattle.std.specs.Prelude.{[]}
use Rattle.shards.proofs.JoiningLemmas.{none_joined, one_more_joined}
use Rattle.server.proofs.closing.join_one.Goals as goal

pub returns-clause-joined : goal.returns-clause-joined
returns-clause-joined c =
    let joins = c.join.ensures in
    one_more_joined [] c.args.other c.args.pass.now c.args.pass.now c.join.new.pass (none_joined c.args.pass.now) joins.pass joins.out joins.buckets joins.seen
