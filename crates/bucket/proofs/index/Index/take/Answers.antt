-- The map's change, in the words of the index.
use Rattle.std.proofs.Common.{None}
use Rattle.bucket.proofs.IndexLemmas.{puts_updated}
use Rattle.bucket.proofs.index.Index.take.Goals as goal

pub returns : goal.returns
returns c =
    puts_updated _ c.hashes_in_order.ensures c.args.self.now.places c.remove.new.self c.args.hash.now None c.remove.ensures.updates.0
