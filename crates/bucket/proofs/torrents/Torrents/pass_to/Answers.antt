-- Who is left is young, so the ring drops no one.
use Rattle.std.proofs.Common.{◌≡◌, ℕ, ◌≤◌, List, sym, ◌∙◌, ap, subst, length, arith}
use Rattle.std.specs.List.{All}
use Rattle.age_ring.specs.Ring.{IsYoung, items_of}
use Rattle.ot_base.specs.declared.hash.InfoHash.{InfoHash}
use Rattle.tracker_model.specs.declared.limits.TheConstants.{TORRENT_MINUTES}
use Rattle.bucket.specs.Calls.{Forgets}
use Rattle.bucket.specs.Changes.{DropsUnknown}
use Rattle.bucket.specs.Index.{IsIndexed, place_in}
use Rattle.bucket.specs.Table.{Table, torrents_by}
use Rattle.bucket.proofs.ForgetLemmas.{forgets_left, kept_left}
use Rattle.bucket.proofs.SoundLemmas.{table_by}
use Rattle.bucket.proofs.torrents.Torrents.pass_to.Goals as goal

pub invariant_of-self : goal.invariant_of-self
invariant_of-self g c =
    let k = c.self.inside in
    let d = c.drop_due in
    let a = c.advance in
    let ages : d.new.ring.ages ≡ TORRENT_MINUTES = d.ensures.clock.ages ∙ c.self.invariant.ages in
    let P : ℕ → Type 0 = λ n. All (IsYoung n c.args.minute) d.new.ring.pairs in
    let still : a.new.self.pairs ≡ d.new.ring.pairs = a.ensures.still (subst P (sym ages) d.ensures.young) in
    let Q : ℕ → Type 0 = λ n. All (IsYoung n c.args.minute) a.new.self.pairs in
    let R : ℕ → Type 0 = λ t. All (IsYoung TORRENT_MINUTES t) a.new.self.pairs in
    let S : List (InfoHash × ℕ) → Type 0 = λ l. IsIndexed (items_of l) (place_in d.new.index) in
    let later : k.ring.time ≤ a.new.self.time = omega (arith, ap (λ (v : Table). v.time) c.self.view_is, a.ensures.time, c.requires) in
    kept_left k.limits k.ring a.new.self (place_in k.index) (place_in d.new.index) k.list.items d.new.list.items c.self.invariant later (a.ensures.ages ∙ ages)
    (subst R (sym a.ensures.time) (subst Q ages a.ensures.young)) (d.ensures.as_many ∙ ap length (sym still)) (subst S (sym still) d.ensures.indexed) d.ensures.list

pub returns : goal.returns
returns g c =
    let k = c.self.inside in
    let d = c.drop_due in
    let a = c.advance in
    let ages : d.new.ring.ages ≡ TORRENT_MINUTES = d.ensures.clock.ages ∙ c.self.invariant.ages in
    let P : ℕ → Type 0 = λ n. All (IsYoung n c.args.minute) d.new.ring.pairs in
    let still : a.new.self.pairs ≡ d.new.ring.pairs = a.ensures.still (subst P (sym ages) d.ensures.young) in
    let S : List (InfoHash × ℕ) → Type 0 = λ l. DropsUnknown c.args.minute (torrents_by k.ring.pairs k.list.items) (torrents_by l d.new.list.items) in
    let V : Table → Type 0 = λ v. Forgets c.args.minute v (table_by k.limits a.new.self.time a.new.self.pairs d.new.list.items) in
    subst V c.self.view_is (forgets_left k.limits c.args.minute k.ring a.new.self (place_in k.index) (place_in d.new.index) k.list.items d.new.list.items c.self.invariant (invariant_of-self g c) a.ensures.time (subst S (sym still) d.ensures.drops))
