-- The new torrent stands last, and the index says so.
use Rattle.std.proofs.Common.{◌≡◌, ℕ, ◌∷◌, [], ◌++◌, List, Some, sym, ◌∙◌, ap, subst, length}
use Rattle.std.proofs.lemmas.List.{map-append, length-map}
use Rattle.age_ring.specs.Ring.{Ring, items_of}
use Rattle.ot_base.specs.declared.hash.InfoHash.{InfoHash}
use Rattle.bucket.specs.Index.{IsIndexed, Puts, place_in}
use Rattle.bucket.specs.Table.{torrents_by}
use Rattle.bucket.proofs.Indexed.{indexed_push}
use Rattle.bucket.proofs.TableLemmas.{by_push}
use Rattle.bucket.proofs.changes.add_last.Goals as goal

pub returns-clause-torrents : goal.returns-clause-torrents
returns-clause-torrents g c =
    let ring = c.args.ring.now in
    let made : c.make_room.new.ring.pairs ≡ ring.pairs = ap (λ (r : Ring InfoHash). r.pairs) c.in_ok-make_room.ensures.ring in
    let time : c.make_room.new.ring.time ≡ ring.time = ap (λ (r : Ring InfoHash). r.time) c.in_ok-make_room.ensures.ring in
    let pairs : c.insert.new.self.pairs ≡ ring.pairs ++ (c.args.hash, ring.time) ∷ [] = c.insert.ensures.pairs ∙ (λ i. made i ++ (c.args.hash, time i) ∷ []) in
    let list = c.push_reserved.ensures.items ∙ ap (λ l. l ++ c.args.stored ∷ []) c.in_ok-make_room.ensures.list in
    (λ i. torrents_by (pairs i) (list i)) ∙ by_push ring.pairs c.args.list.now.items (c.args.hash, ring.time) c.args.stored c.requires.as_many

pub returns-clause-pairs : goal.returns-clause-pairs
returns-clause-pairs g c =
    let ring = c.args.ring.now in
    let made : c.make_room.new.ring.pairs ≡ ring.pairs = ap (λ (r : Ring InfoHash). r.pairs) c.in_ok-make_room.ensures.ring in
    let time : c.make_room.new.ring.time ≡ ring.time = ap (λ (r : Ring InfoHash). r.time) c.in_ok-make_room.ensures.ring in
    c.insert.ensures.pairs ∙ (λ i. made i ++ (c.args.hash, time i) ∷ [])

pub returns-clause-indexed : goal.returns-clause-indexed
returns-clause-indexed g c =
    let ring = c.args.ring.now in
    let hash = c.args.hash in
    let made : c.make_room.new.ring.pairs ≡ ring.pairs = ap (λ (r : Ring InfoHash). r.pairs) c.in_ok-make_room.ensures.ring in
    let last : c.len.result ≡ length (items_of ring.pairs) = c.len.ensures.len ∙ ap length made ∙ sym (length-map ring.pairs (λ (p : InfoHash × ℕ). p.0)) in
    let hashes : items_of c.insert.new.self.pairs ≡ items_of ring.pairs ++ hash ∷ [] = ap (λ l. items_of l) (c.insert.ensures.pairs ∙ ap (λ l. l ++ (hash, c.make_room.new.ring.time) ∷ []) made) ∙ map-append (λ (p : InfoHash × ℕ). p.0) ring.pairs ((hash, c.make_room.new.ring.time) ∷ []) in
    let P : List InfoHash → Type 0 = λ l. IsIndexed l (place_in c.add.new.self) in
    let Q : ℕ → Type 0 = λ n. Puts (place_in c.args.index.now) (place_in c.add.new.self) hash (Some n) in
    subst P (sym hashes) (indexed_push (items_of ring.pairs) (place_in c.args.index.now) (place_in c.add.new.self) hash c.requires.indexed c.requires.unknown (subst Q last c.in_ok-add.ensures.ok))
