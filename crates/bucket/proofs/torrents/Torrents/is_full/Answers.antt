-- The ring has as many hashes as there are torrents.
use Rattle.std.proofs.Common.{ap, sym, ◌∙◌, length}
use Rattle.std.specs.Bool.{◌==◌}
use Rattle.bucket.specs.Table.{Table}
use Rattle.bucket.proofs.TableLemmas.{length_by}
use Rattle.bucket.proofs.torrents.Torrents.is_full.Goals as goal

pub returns : goal.returns
returns c =
    let k = c.self.inside in
    ap (λ n. n == k.limits.torrents) (c.len.ensures.len ∙ sym (length_by k.ring.pairs k.list.items c.self.invariant.as_many)) ∙ ap (λ (v : Table). length v.torrents == v.limits.torrents) c.self.view_is
