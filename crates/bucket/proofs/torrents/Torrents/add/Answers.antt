-- The torrent that its first peer makes stands last.
use Rattle.std.proofs.Common.{◌≡◌, ℕ, ◌<◌, List, Result, refl, subst, sym, ap, ◌∙◌, length, arith}
use Rattle.ot_base.specs.declared.hash.InfoHash.{InfoHash}
use Rattle.bucket.specs.Calls.{Adds, Stays}
use Rattle.bucket.specs.Index.{IsIndexed, place_in}
use Rattle.bucket.specs.Stored.{IsFit, empty_stored, put_stored}
use Rattle.bucket.specs.Table.{Table, torrents_by}
use Rattle.bucket.specs.Torrents.{place_of}
use Rattle.bucket.specs.declared.joining.JoinError.{JoinError}
use Rattle.bucket.proofs.FoundLemmas.{place_indexed}
use Rattle.bucket.proofs.JoinLemmas.{gave_memory}
use Rattle.bucket.proofs.PutLemmas.{adds_full, adds_none, adds_one, kept_added, stays_itself}
use Rattle.bucket.proofs.PlaceLemmas.{stays_by}
use Rattle.bucket.proofs.SoundLemmas.{table_by}
use Rattle.bucket.proofs.TableLemmas.{hashes_by, length_by}
use Rattle.bucket.proofs.torrents.Torrents.add.Goals as goal

pub returns-then-place-self-clause-stays : goal.returns-then-place-self-clause-stays
returns-then-place-self-clause-stays g c =
    let k = c.self.inside in
    stays_itself k.limits k.ring (place_in k.index) k.list.items c.args.self.now c.self.invariant c.self.view_is

pub returns-then-place-self-clause-adds : goal.returns-then-place-self-clause-adds
returns-then-place-self-clause-adds g c =
    let k = c.self.inside in
    adds_full k.limits k.ring.time k.ring.pairs k.list.items c.args.joining.now c.args.self.now c.self.view_is c.self.invariant.as_many (sym c.len-place.ensures.len ∙ c.if-place-self.true)

pub returns-in_err-stored-clause-stays : goal.returns-in_err-stored-clause-stays
returns-in_err-stored-clause-stays g c =
    let k = c.self.inside in
    stays_itself k.limits k.ring (place_in k.index) k.list.items c.args.self.now c.self.invariant c.self.view_is

pub returns-in_err-stored-clause-adds : goal.returns-in_err-stored-clause-adds
returns-in_err-stored-clause-adds g c =
    let k = c.self.inside in
    let less : length k.ring.pairs < k.limits.torrents = omega (arith, c.len-place.ensures.len, c.if-place-self.false, c.self.invariant.few, c.self.invariant.as_many) in
    let gave = c.from_residual.ensures in
    let P : Result ℕ JoinError → Type 0 = λ r. Adds c.args.joining.now c.args.self.now c.args.self.now r in
    subst P (sym (gave_memory c.from_residual.result gave.0 gave.1)) (adds_none k.limits k.ring.time k.ring.pairs k.list.items c.args.joining.now c.args.self.now c.args.self.now c.self.view_is c.self.invariant.as_many less refl)

pub add_last-requires-clause-unknown : goal.add_last-requires-clause-unknown
add_last-requires-clause-unknown g c =
    let k = c.self.inside in
    let hash = c.args.joining.now.hash in
    let P : List InfoHash → Type 0 = λ l. IsIndexed l (place_in k.index) in
    let it = subst P (sym (hashes_by k.ring.pairs k.list.items c.self.invariant.as_many)) c.self.invariant.indexed in
    sym (place_indexed (torrents_by k.ring.pairs k.list.items) (place_in k.index) hash it) ∙ ap (λ (v : Table). place_of hash v.torrents) c.self.view_is ∙ c.requires

pub returns-in_err-add_last-clause-stays : goal.returns-in_err-add_last-clause-stays
returns-in_err-add_last-clause-stays g c =
    let k = c.self.inside in
    let e = c.in_err-add_last.ensures in
    let same : table_by k.limits c.add_last.new.ring.time c.add_last.new.ring.pairs c.add_last.new.list.items ≡ c.args.self.now = (λ i. table_by k.limits (e.clock.time i) (e.err_pairs i) (e.err_list i)) ∙ c.self.view_is in
    let P : Table → Type 0 = λ v. Stays c.args.self.now v in
    subst P (sym same) (stays_itself k.limits k.ring (place_in k.index) k.list.items c.args.self.now c.self.invariant c.self.view_is)

pub returns-in_err-add_last-clause-adds : goal.returns-in_err-add_last-clause-adds
returns-in_err-add_last-clause-adds g c =
    let k = c.self.inside in
    let less : length k.ring.pairs < k.limits.torrents = omega (arith, c.len-place.ensures.len, c.if-place-self.false, c.self.invariant.few, c.self.invariant.as_many) in
    let gave = c.from_residual-in_err-add_last.ensures in
    let e = c.in_err-add_last.ensures in
    let same : table_by k.limits c.add_last.new.ring.time c.add_last.new.ring.pairs c.add_last.new.list.items ≡ c.args.self.now = (λ i. table_by k.limits (e.clock.time i) (e.err_pairs i) (e.err_list i)) ∙ c.self.view_is in
    let P : Result ℕ JoinError → Type 0 = λ r. Adds c.args.joining.now c.args.self.now (table_by k.limits c.add_last.new.ring.time c.add_last.new.ring.pairs c.add_last.new.list.items) r in
    subst P (sym (gave_memory c.from_residual-in_err-add_last.result gave.0 gave.1)) (adds_none k.limits k.ring.time k.ring.pairs k.list.items c.args.joining.now c.args.self.now _ c.self.view_is c.self.invariant.as_many less same)

pub invariant_of-self-2 : goal.invariant_of-self-2
invariant_of-self-2 g c =
    let k = c.self.inside in
    let less : length k.list.items < k.limits.torrents = omega (arith, c.len-place.ensures.len, c.if-place-self.false, c.self.invariant.few, c.self.invariant.as_many) in
    let e = c.in_ok-add_last.ensures in
    let T : ℕ → Type 0 = λ t. IsFit k.limits.peers t c.in_ok-stored.stored in
    let fit = subst T c.time.ensures.time (c.in_ok-stored.ensures.fit k.limits.peers c.self.invariant.limited.some_peers) in
    kept_added k.limits k.ring c.add_last.new.ring (place_in k.index) (place_in c.add_last.new.index) k.list.items c.add_last.new.list.items c.args.joining.now.hash c.in_ok-stored.stored c.self.invariant e.pairs e.list less e.indexed e.clock.time e.clock.ages fit

pub returns-clause-stays : goal.returns-clause-stays
returns-clause-stays g c =
    let k = c.self.inside in
    stays_by c.args.self.now k.limits k.ring c.add_last.new.ring (place_in c.add_last.new.index) k.list.items c.add_last.new.list.items c.self.view_is c.add_last.ensures.clock.time (invariant_of-self-2 g c)

pub returns-clause-adds : goal.returns-clause-adds
returns-clause-adds g c =
    let k = c.self.inside in
    let less : length k.ring.pairs < k.limits.torrents = omega (arith, c.len-place.ensures.len, c.if-place-self.false, c.self.invariant.few, c.self.invariant.as_many) in
    let T : ℕ → Type 0 = λ t. c.in_ok-stored.stored ≡ put_stored c.args.joining.now (empty_stored t) in
    adds_one k.limits k.ring.time k.ring.pairs k.list.items c.args.joining.now c.args.self.now _ c.in_ok-stored.stored c.self.view_is c.self.invariant.as_many less c.in_ok-add_last.ensures.torrents (subst T c.time.ensures.time c.in_ok-stored.ensures.value)

pub returns-clause-place : goal.returns-clause-place
returns-clause-place g c =
    let k = c.self.inside in
    c.len-place.ensures.len ∙ sym (length_by k.ring.pairs k.list.items c.self.invariant.as_many) ∙ ap (λ (v : Table). length v.torrents) c.self.view_is
