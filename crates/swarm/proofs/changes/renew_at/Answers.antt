-- The endpoint stands where the index says.
use Rattle.std.proofs.Common.{ℕ, List, sym, ◌∙◌, ap, subst, arith}
use Rattle.std.proofs.Math.ListN.{set}
use Rattle.std.proofs.lemmas.List.{length-map, map-set}
use Rattle.std.proofs.lemmas.Option.{slice_get_within}
use Rattle.ot_base.specs.declared.address.Endpoint.{Endpoint}
use Rattle.ot_base.specs.declared.peer.Held.{Held}
use Rattle.age_ring.specs.Ring.{items_of}
use Rattle.swarm.specs.Index.{IsIndexed, at_of, place_in}
use Rattle.swarm.specs.Members.{flags_of, peers_by}
use Rattle.swarm.proofs.FlagLemmas.{flag_found}
use Rattle.swarm.proofs.Indexed.{indexed_seed}
use Rattle.swarm.proofs.PeerLemmas.{peers_renewed, first_at}
use Rattle.swarm.proofs.changes.renew_at.Goals as goal

pub renew-requires : goal.renew-requires
renew-requires g c =
    let here = c.requires.indexed.there c.args.who.now c.args.place.at (ap (λ o. at_of o) c.requires.known) in
    omega (arith, slice_get_within (items_of c.args.order.now.pairs) c.args.place.at c.args.who.now here, length-map c.args.order.now.pairs (λ (p : Endpoint × ℕ). p.0))

pub returns-clause-peers : goal.returns-clause-peers
returns-clause-peers g c =
    let ring = c.args.order.now in
    let here = c.requires.indexed.there c.args.who.now c.args.place.at (ap (λ o. at_of o) c.requires.known) in
    let d : Endpoint × ℕ = (c.args.who.now, 0) in
    ap (λ l. peers_by (place_in c.set_seed.new.index) l) (c.renew.ensures.pairs d ∙ ap (λ e. set ring.pairs c.args.place.at (e, ring.time)) (first_at ring.pairs c.args.place.at c.args.who.now d here))
    ∙ peers_renewed (place_in c.args.index.now) (place_in c.set_seed.new.index) ring.pairs c.args.who.now c.args.place c.args.seed ring.time c.requires.indexed c.requires.known c.set_seed.ensures.puts

pub returns-clause-indexed : goal.returns-clause-indexed
returns-clause-indexed g c =
    let P : List Endpoint → Type 0 = λ l. IsIndexed l (place_in c.set_seed.new.index) in
    subst P (sym c.renew.ensures.items) (indexed_seed (items_of c.args.order.now.pairs) (place_in c.args.index.now) (place_in c.set_seed.new.index) c.args.who.now c.args.seed c.requires.indexed c.set_seed.ensures.puts)

pub set_seed-requires-clause-flag : goal.set_seed-requires-clause-flag
set_seed-requires-clause-flag g c =
    flag_found (place_in c.args.index.now) c.args.order.now.pairs c.args.flags.now.items c.args.who.now c.args.place c.requires.indexed c.requires.flags c.requires.known

pub returns-clause-flags : goal.returns-clause-flags
returns-clause-flags g c =
    let ring = c.args.order.now in
    let peers = peers_by (place_in c.args.index.now) ring.pairs in
    let at = c.args.place.at in
    let peer : Held = record { who = c.args.who.now; seed = c.args.seed; stamp = record { 0 = ring.time } } in
    c.set_seed.ensures.flags
    ∙ ap (λ l. set l at c.args.seed) c.requires.flags
    ∙ sym (map-set (λ (h : Held). h.seed) peers at peer)
    ∙ ap (λ l. flags_of l) (sym (returns-clause-peers g c))
