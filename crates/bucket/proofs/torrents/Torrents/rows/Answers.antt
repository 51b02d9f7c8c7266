-- The index's entries are in order, and each tells the place of its torrent.
use Rattle.std.proofs.Common.{◌≡◌, ℕ, ◌<◌, List, ◌∷◌, [], ◌++◌, refl, sym, subst, length, map, arith, rules}
use Rattle.std.specs.BTreeMap as tree
use Rattle.std.specs.List.{AllZip}
use Rattle.std.specs.Map.Iter.{deref_pair}
use Rattle.std.proofs.lemmas.List.{length-map, map_push}
use Rattle.std.proofs.lemmas.Map.Iter.{btree_map_turn, iter_end}
use Rattle.std.proofs.lemmas.Option.{slice_get_read, slice_get_within}
use Rattle.age_ring.specs.Ring.{items_of}
use Rattle.ot_base.specs.declared.hash.InfoHash.{InfoHash}
use Rattle.ot_base.specs.declared.peer.Row.{Row}
use Rattle.ot_base.proofs.OrderLemmas.{hash_cmp_total}
use Rattle.bucket.specs.Calls.{AreRowsOf}
use Rattle.bucket.specs.Index.{place_in}
use Rattle.bucket.proofs.RowLemmas.{IsRowOf, rows_more, rows_of, sorted_like}
use Rattle.bucket.proofs.SoundLemmas.{table_by}
use Rattle.bucket.proofs.torrents.Torrents.rows.Goals as goal

pub loop-hash-init : goal.loop-hash-init
loop-hash-init c =
    let P : List Row → Type 0 = λ l. AllZip (IsRowOf (place_in c.self.inside.index) c.self.inside.list.items) [] l in
    subst P (sym c.in_ok-rows.ensures.items) tt

pub index-requires : goal.index-requires
index-requires c =
    let k = c.self.inside in
    let start : c.into_iter-hash-iterator.result ≡ k.index.places.entries = search rules in
    let sorted = sorted_like _ c.hashes_in_order.ensures (tree.keys k.index.places) (search rules) in
    let turn = btree_map_turn deref_pair c.loop-hash.yielded c.into_iter-hash-iterator.result c.loop-hash.hash-iterator c.next.new.self c.next.result (c.in-Some.hash, c.in-Some.place) c.loop-hash.yielded_by c.in-Some.is c.next.ensures.steps hash_cmp_total k.index.places start sorted in
    let here = c.self.invariant.indexed.there c.in-Some.hash.now c.in-Some.place.now turn.1 in
    omega (arith, slice_get_within (items_of k.ring.pairs) c.in-Some.place.now c.in-Some.hash.now here, length-map k.ring.pairs (λ (p : InfoHash × ℕ). p.0), c.self.invariant.as_many, k.list.ok.0)

pub loop-hash-preserved : goal.loop-hash-preserved
loop-hash-preserved c =
    let k = c.self.inside in
    let look = place_in k.index in
    let start : c.into_iter-hash-iterator.result ≡ k.index.places.entries = search rules in
    let sorted = sorted_like _ c.hashes_in_order.ensures (tree.keys k.index.places) (search rules) in
    let turn = btree_map_turn deref_pair c.loop-hash.yielded c.into_iter-hash-iterator.result c.loop-hash.hash-iterator c.next.new.self c.next.result (c.in-Some.hash, c.in-Some.place) c.loop-hash.yielded_by c.in-Some.is c.next.ensures.steps hash_cmp_total k.index.places start sorted in
    let here = c.self.invariant.indexed.there c.in-Some.hash.now c.in-Some.place.now turn.1 in
    let within : c.in-Some.place.now < length k.list.items = omega (arith, slice_get_within (items_of k.ring.pairs) c.in-Some.place.now c.in-Some.hash.now here, length-map k.ring.pairs (λ (p : InfoHash × ℕ). p.0), c.self.invariant.as_many) in
    let stored = c.index.result.now in
    let entry : InfoHash × ℕ = (c.in-Some.hash.now, c.in-Some.place.now) in
    let row : Row = record { hash = c.in-Some.hash.now; counts = c.counts.result } in
    let is_row : IsRowOf look k.list.items entry row = record {
      hash = refl;
      known = turn.1;
      stored = stored;
      stands = slice_get_read k.list.items (length k.list.items) c.in-Some.place.now stored refl within c.index.ensures;
      counted = c.counts.ensures;
    } in
    let P : List Row → Type 0 = λ l. AllZip (IsRowOf look k.list.items) (map deref_pair (c.loop-hash.yielded ++ (c.in-Some.hash, c.in-Some.place) ∷ [])) l in
    let Q : List (InfoHash × ℕ) → Type 0 = λ l. AllZip (IsRowOf look k.list.items) l (c.loop-hash.rows.items ++ row ∷ []) in
    subst P (sym c.in_ok-push.ensures.items) (subst Q (sym (map_push deref_pair c.loop-hash.yielded (c.in-Some.hash, c.in-Some.place)))
    (rows_more look k.list.items (map deref_pair c.loop-hash.yielded) c.loop-hash.rows.items entry row c.loop-hash.invariant is_row))

pub returns : goal.returns
returns c =
    let k = c.self.inside in
    let start : c.into_iter-hash-iterator.result ≡ k.index.places.entries = search rules in
    let sorted = sorted_like _ c.hashes_in_order.ensures (tree.keys k.index.places) (search rules) in
    let all = iter_end deref_pair k.index.places.entries c.loop-hash.yielded c.into_iter-hash-iterator.result c.loop-hash.hash-iterator c.next.new.self c.next.result start c.loop-hash.yielded_by c.in-None.is c.next.ensures.steps in
    let P : List (InfoHash × ℕ) → Type 0 = λ l. AllZip (IsRowOf (place_in k.index) k.list.items) l c.loop-hash.rows.items in
    let Q : List Row → Type 0 = λ l. AreRowsOf (table_by k.limits k.ring.time k.ring.pairs k.list.items) l in
    rw (← c.self.view_is) (subst Q (sym c.from.ensures) (rows_of k.limits k.ring.time k.ring.pairs k.list.items k.index.places c.loop-hash.rows.items c.self.invariant.as_many c.self.invariant.indexed sorted (subst P all.0 c.loop-hash.invariant)))
