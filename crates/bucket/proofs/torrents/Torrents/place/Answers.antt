-- A torrent's place is what a look through all of them finds, or what the index tells.
use Rattle.std.proofs.Common.{sym, ◌∙◌}
use Rattle.bucket.specs.Index.{place_in}
use Rattle.bucket.proofs.FoundLemmas.{place_by}
use Rattle.bucket.proofs.torrents.Torrents.place.Goals as goal

pub returns-in-None : goal.returns-in-None
returns-in-None c =
    let k = c.self.inside in
    rw (← c.self.view_is) (c.get.ensures ∙ sym (place_by k.ring.pairs k.list.items (place_in k.index) c.args.hash.now c.self.invariant.as_many c.self.invariant.indexed))
