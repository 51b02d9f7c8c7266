-- The ring has the hashes and touches.
use Rattle.std.proofs.Common.{sym}
use Rattle.bucket.proofs.TableLemmas.{pairs_by}
use Rattle.bucket.proofs.torrents.Torrents.ring.Goals as goal

pub returns-clause-pairs : goal.returns-clause-pairs
returns-clause-pairs c =
    let k = c.self.inside in
    rw (← c.self.view_is) (sym (pairs_by k.ring.pairs k.list.items c.self.invariant.as_many))
