-- Each hash of the list lies within the datagram.
use Rattle.std.proofs.Common.{◌<◌, List, Some, sym, ◌∙◌, ap, length, arith}
use Rattle.ot_base.specs.declared.hash.InfoHash.{InfoHash}
use Rattle.udp_wire.proofs.HashLemmas.{hash_in, length-hashes_of}
use Rattle.udp_wire.proofs.hashes.ScrapeHashes.get.Goals as goal

pub overflow_mul-i : goal.overflow_mul-i
overflow_mul-i c =
    let k = c.self.inside in
    omega (arith, c.requires, ap (λ (l : List InfoHash). length l) c.self.view_is, length-hashes_of k.count k.datagram.now, c.self.invariant.0)

pub overflow_add-i : goal.overflow_add-i
overflow_add-i c =
    let k = c.self.inside in
    omega (arith, c.requires, ap (λ (l : List InfoHash). length l) c.self.view_is, length-hashes_of k.count k.datagram.now, c.self.invariant.0)

pub info_hash_at-requires : goal.info_hash_at-requires
info_hash_at-requires c =
    let k = c.self.inside in
    omega (arith, c.requires, ap (λ (l : List InfoHash). length l) c.self.view_is, length-hashes_of k.count k.datagram.now, c.self.invariant.1)

pub returns : goal.returns
returns c =
    let k = c.self.inside in
    let below : c.args.i < k.count = omega (arith, c.requires, ap (λ (l : List InfoHash). length l) c.self.view_is, length-hashes_of k.count k.datagram.now) in
    rw (← c.self.view_is) (hash_in k.count c.args.i k.datagram.now below ∙ ap Some (sym c.info_hash_at.ensures))
