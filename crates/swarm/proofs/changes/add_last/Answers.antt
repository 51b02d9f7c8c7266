-- The new endpoint stands last, and the index says so.
use Rattle.std.proofs.Common.{◌≡◌, ◌∷◌, [], ◌++◌, ℕ, List, sym, ◌∙◌, ap, subst, length}
use Rattle.std.proofs.lemmas.List.{map-append, length-map}
use Rattle.ot_base.specs.declared.address.Endpoint.{Endpoint}
use Rattle.age_ring.specs.Ring.{Ring, items_of}
use Rattle.swarm.specs.Index.{IsIndexed, place_in}
use Rattle.swarm.specs.Members.{peers_by}
use Rattle.swarm.specs.declared.index.Place.{Place}
use Rattle.swarm.proofs.Indexed.{indexed_push}
use Rattle.swarm.proofs.PeerLemmas.{peers_push}
use Rattle.swarm.proofs.changes.add_last.Goals as goal

pub returns-clause-ok : goal.returns-clause-ok
returns-clause-ok g c =
    let ring = c.args.order.now in
    let place : Place = record { at = c.len.result; seed = c.args.seed } in
    let reserved : c.reserve.new.self.pairs ≡ ring.pairs = ap (λ (r : Ring Endpoint). r.pairs) c.in_ok-reserve.ensures.same in
    let time : c.reserve.new.self.time ≡ ring.time = ap (λ (r : Ring Endpoint). r.time) c.in_ok-reserve.ensures.same in
    let pairs : c.insert.new.self.pairs ≡ ring.pairs ++ (c.args.who, ring.time) ∷ [] = c.insert.ensures.pairs ∙ ap (λ l. l ++ (c.args.who, c.reserve.new.self.time) ∷ []) reserved ∙ ap (λ t. ring.pairs ++ (c.args.who, t) ∷ []) time in
    ap (λ l. peers_by (place_in c.add.new.self) l) pairs
    ∙ peers_push (place_in c.args.index.now) (place_in c.add.new.self) ring.pairs c.args.who place ring.time c.requires.indexed c.requires.unknown c.in_ok-add.ensures.ok

pub returns-clause-indexed : goal.returns-clause-indexed
returns-clause-indexed g c =
    let ring = c.args.order.now in
    let place : Place = record { at = c.len.result; seed = c.args.seed } in
    let reserved : c.reserve.new.self.pairs ≡ ring.pairs = ap (λ (r : Ring Endpoint). r.pairs) c.in_ok-reserve.ensures.same in
    let last : c.len.result ≡ length (items_of ring.pairs) = c.len.ensures.len ∙ ap length reserved ∙ sym (length-map ring.pairs (λ (p : Endpoint × ℕ). p.0)) in
    let names : items_of c.insert.new.self.pairs ≡ items_of ring.pairs ++ c.args.who ∷ [] = ap (λ l. items_of l) (c.insert.ensures.pairs ∙ ap (λ l. l ++ (c.args.who, c.reserve.new.self.time) ∷ []) reserved) ∙ map-append (λ (p : Endpoint × ℕ). p.0) ring.pairs ((c.args.who, c.reserve.new.self.time) ∷ []) in
    let P : List Endpoint → Type 0 = λ l. IsIndexed l (place_in c.add.new.self) in
    subst P (sym names) (indexed_push (items_of ring.pairs) (place_in c.args.index.now) (place_in c.add.new.self) c.args.who place c.requires.indexed c.requires.unknown last c.in_ok-add.ensures.ok)
