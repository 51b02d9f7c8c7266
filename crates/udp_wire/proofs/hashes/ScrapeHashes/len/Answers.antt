use Rattle.std.proofs.Common.{sym}
use Rattle.udp_wire.proofs.HashLemmas.{length-hashes_of}
use Rattle.udp_wire.proofs.hashes.ScrapeHashes.len.Goals as goal

pub returns-clause-value : goal.returns-clause-value
returns-clause-value c =
    let k = c.self.inside in
    rw (← c.self.view_is) (sym (length-hashes_of k.count k.datagram.now))
