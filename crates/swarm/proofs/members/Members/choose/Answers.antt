-- Without the asker's place, the others are left.
use Rattle.std.specs.List.{filter}
use Rattle.ot_base.specs.Same.{same_endpoint}
use Rattle.std.proofs.Common.{◌≡◌, List, min, not, sym, ◌∙◌, ap, length, map, get_or}
use Rattle.ot_base.specs.Address.{no_endpoint}
use Rattle.ot_base.specs.declared.address.Endpoint.{Endpoint}
use Rattle.pick.specs.Picks.{picks}
use Rattle.age_ring.specs.Ring.{items_of}
use Rattle.swarm.specs.Index.{at_of, place_in}
use Rattle.swarm.specs.Members.{HeldAt, peers_by}
use Rattle.swarm.specs.Peers.{others, place_of, without}
use Rattle.swarm.proofs.ChoiceLemmas.{others_left}
use Rattle.swarm.proofs.PeerLemmas.{endpoints-peers}
use Rattle.swarm.proofs.PlaceLemmas.{place_indexed, indexed_peers}
use Rattle.swarm.proofs.members.Members.choose.Goals as goal

pub returns : goal.returns
returns c =
    let k = c.self.inside in
    let look = place_in k.index in
    let peers = peers_by look k.order.pairs in
    let names = items_of k.order.pairs in
    let words = c.args.words.now in
    let it = c.self.invariant.indexed in
    let value : HeldAt = record { peers = peers; time = k.order.time } in
    let place : c.place-place.result ≡ at_of (look c.args.asker.now) = c.place-place.ensures ∙ sym (ap (λ (v : HeldAt). place_of c.args.asker.now v.peers) c.self.view_is) ∙ place_indexed peers look c.args.asker.now (indexed_peers look k.order.pairs it) in
    let rest : without c.place-place.result names ≡ others c.args.asker.now peers =
    ap (λ o. without o names) place ∙ others_left c.args.asker.now names look it ∙ ap (λ (l : List Endpoint). filter (λ e. not (same_endpoint c.args.asker.now e)) l) (sym (endpoints-peers look k.order.pairs)) in
    rw (← c.self.view_is) (c.choose_others.ensures ∙ ap (λ (l : List Endpoint). map (λ p. get_or l p no_endpoint) (picks words (length l) (min c.args.want (length l)))) rest)
