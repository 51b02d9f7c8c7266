-- The first that has the hash is the one that the index tells of, and where none has it, it tells of none.
use Rattle.std.proofs.Common.{◌≡◌, ◌≢◌, ℕ, true, false, List, Option, Some, None, inl, inr, refl, sym, ◌∙◌, ap, length, arith}
use Rattle.std.specs.List.{slice_get}
use Rattle.std.proofs.lemmas.Bool.{cases_eq}
use Rattle.std.proofs.lemmas.List.{length-map}
use Rattle.std.proofs.lemmas.Option.{same_Some, slice_get_within}
use Rattle.age_ring.specs.Ring.{items_of}
use Rattle.ot_base.specs.Same.{same_hash}
use Rattle.ot_base.specs.declared.hash.InfoHash.{InfoHash}
use Rattle.tracker_model.specs.Shape.{Torrent}
use Rattle.bucket.specs.Index.{IsIndexed, place_in}
use Rattle.bucket.specs.Table.{Table, torrents_by}
use Rattle.bucket.specs.Torrents.{place_of}
use Rattle.bucket.specs.declared.stored.Stored.{Stored}
use Rattle.bucket.proofs.FoundLemmas.{place_by}
use Rattle.bucket.proofs.torrents.Torrents.look_through.Goals as goal

-- a place of a torrent is one of the ring
told_by : (pairs : List (InfoHash × ℕ)) (list : List Stored) (look : InfoHash → Option ℕ) (hash : InfoHash) (torrents : List Torrent) → torrents_by pairs list ≡ torrents → length list ≡ length pairs → IsIndexed (items_of pairs) look → (i : ℕ) → place_of hash torrents ≡ Some i → slice_get (items_of pairs) i ≡ Some hash
told_by pairs list look hash torrents are as_many it i at =
    it.there hash i (sym (place_by pairs list look hash as_many it) ∙ ap (λ l. place_of hash l) are ∙ at)

none_of : (o : Option ℕ) → ((i : ℕ) → o ≢ Some i) → None ≡ o
none_of None never = refl
none_of (Some i) never = absurd (never i refl)

pub returns-then-eq : goal.returns-then-eq
returns-then-eq c =
    let k = c.self.inside in
    let item = c.item.result in
    let hash = c.args.hash.now in
    let same : same_hash item hash ≡ true = sym (c.equal_hashes.ensures.compared item hash) ∙ sym c.eq.ensures ∙ c.if-eq.true in
    let is : item ≡ hash = (c.equal_hashes.ensures.same item hash).0 same in
    let here = c.self.invariant.indexed.found hash c.loop-place.place (c.item.ensures ∙ ap Some is) in
    rw (← c.self.view_is) (sym here ∙ sym (place_by k.ring.pairs k.list.items (place_in k.index) hash c.self.invariant.as_many c.self.invariant.indexed))

pub loop-place-preserved : goal.loop-place-preserved
loop-place-preserved c i within at =
    let k = c.self.inside in
    let item = c.item.result in
    let hash = c.args.hash.now in
    let place = c.loop-place.place in
    let told = told_by k.ring.pairs k.list.items (place_in k.index) hash c.args.self.now.torrents (ap (λ (v : Table). v.torrents) c.self.view_is) c.self.invariant.as_many c.self.invariant.indexed i at in
    elim (cases_eq i place) [
      | inl same ↦
          let is : item ≡ hash = same_Some item hash (sym c.item.ensures ∙ ap (λ n. slice_get (items_of k.ring.pairs) n) (sym same) ∙ told) in
          let clash : true ≡ false = sym ((c.equal_hashes.ensures.same item hash).1 is) ∙ sym (c.equal_hashes.ensures.compared item hash) ∙ sym c.eq.ensures ∙ c.if-eq.false in
          absurd (cc)
      | inr apart ↦ c.loop-place.invariant i (omega (arith, apart, within)) at
    ]

pub returns : goal.returns
returns c =
    let k = c.self.inside in
    let hash = c.args.hash.now in
    let torrents = c.args.self.now.torrents in
    let hashes = items_of k.ring.pairs in
    none_of (place_of hash torrents) (λ i at.
    let told = told_by k.ring.pairs k.list.items (place_in k.index) hash torrents (ap (λ (v : Table). v.torrents) c.self.view_is) c.self.invariant.as_many c.self.invariant.indexed i at in
    let within = slice_get_within hashes i hash told in
    c.loop-place.invariant i (omega (arith, within, length-map k.ring.pairs (λ (pair : InfoHash × ℕ). pair.0), c.len-place-end.ensures.len, c.loop-place-test.false)) at)
