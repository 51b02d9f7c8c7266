-- The peers of what is stored are those of the torrents.
use Rattle.std.proofs.Common.{ap, ◌∙◌}
use Rattle.std.specs.List.{sum_by}
use Rattle.swarm.specs.Shape.{peer_count}
use Rattle.bucket.specs.declared.stored.Stored.{Stored}
use Rattle.bucket.proofs.TableLemmas.{held_by}
use Rattle.bucket.proofs.torrents.Torrents.held.Goals as goal

pub returns : goal.returns
returns c =
    let k = c.self.inside in
    rw (← c.self.view_is) (c.peers_held.ensures ∙ ap (λ l. sum_by (λ (s : Stored). peer_count s.swarm) l) c.deref.ensures.value ∙ held_by k.ring.pairs k.list.items c.self.invariant.as_many)
