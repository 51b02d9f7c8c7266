-- The map's change, in the words of the index.
use Rattle.std.proofs.Common.{Some}
use Rattle.bucket.proofs.IndexLemmas.{puts_updated}
use Rattle.bucket.proofs.index.Index.add.Goals as goal

pub returns-clause-ok : goal.returns-clause-ok
returns-clause-ok c =
    puts_updated _ c.hashes_in_order.ensures c.args.self.now.places c.insert.new.self c.args.hash (Some c.args.place) c.in_ok-insert.ensures.updates.0
