-- The last torrent moves into the gap, and the index follows it.
use Rattle.std.proofs.Common.{◌≡◌, ◌+◌, ◌≤◌, ℕ, List, sym, ◌∙◌, ap, subst, arith, length}
use Rattle.std.specs.List.{slice_get, swap_remove}
use Rattle.std.proofs.lemmas.List.{length-map}
use Rattle.age_ring.specs.Ring.{items_of}
use Rattle.ot_base.specs.declared.hash.InfoHash.{InfoHash}
use Rattle.swarm.proofs.ListLemmas.{left_gap}
use Rattle.bucket.specs.Index.{IsIndexed, place_in}
use Rattle.bucket.specs.Table.{torrents_by}
use Rattle.bucket.specs.declared.index.Index.{Index}
use Rattle.bucket.proofs.Indexed.{indexed_moved, indexed_without_last}
use Rattle.bucket.proofs.TableLemmas.{by_swap_remove}
use Rattle.bucket.proofs.changes.remove_at.Goals as goal
use Rattle.bucket.proofs.changes.remove_at.Goals.{then-at-len, else-at-len}

pub returns-clause-torrents : goal.returns-clause-torrents
returns-clause-torrents g c t =
    let pair : InfoHash × ℕ = (c.remove-hash.result, 0) in
    (λ i. torrents_by (c.remove-hash.ensures.pairs pair i) (c.swap_remove.ensures.items i))
    ∙ by_swap_remove c.args.ring.now.pairs c.args.list.now.items c.args.at pair c.swap_remove.result t c.requires.as_many c.requires.within

pub returns-clause-indexed : goal.returns-clause-indexed
returns-clause-indexed g c =
    let hashes = items_of c.args.ring.now.pairs in
    let gone = c.remove-hash.result in
    let look = place_in c.args.index.now in
    let left : items_of c.remove-hash.new.self.pairs ≡ swap_remove hashes c.args.at gone = c.remove-hash.ensures.items in
    let P : List InfoHash → Type 0 = λ l. IsIndexed l (place_in c.if-at-len.index) in
    let Q : Index → Type 0 = λ x. IsIndexed (swap_remove hashes c.args.at gone) (place_in x) in
    subst P (sym left) (elim c.if-at-len.branch [
      | then-at-len w ↦
          let last = left_gap hashes c.args.at gone w.item-moved.result (ap (λ l. slice_get l c.args.at) (sym left) ∙ w.item-moved.ensures) in
          subst Q (sym w.index-is) (indexed_moved hashes look (place_in c.take.new.self) (place_in w.move_to.new.self) gone w.item-moved.result gone c.args.at c.requires.indexed c.remove-hash.ensures.item last.1 last.0 c.take.ensures w.move_to.ensures)
      | else-at-len w ↦
          let last : length hashes ≤ c.args.at + 1 = omega (arith, c.remove-hash.ensures.len, c.len.ensures.len, w.if-at-len.false, length-map c.args.ring.now.pairs (λ (p : InfoHash × ℕ). p.0)) in
          subst Q (sym w.index-is) (indexed_without_last hashes look (place_in c.take.new.self) gone gone c.args.at c.requires.indexed c.remove-hash.ensures.item last c.take.ensures)
    ])
