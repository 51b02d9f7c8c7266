-- Torrent after torrent drops its stale peers.
use Rattle.std.proofs.Common.{◌≡◌, ◌≢◌, ℕ, zero, suc, ◌+◌, ◌≤◌, List, [], ◌∷◌, ◌++◌, Some, refl, sym, ◌∙◌, ap, subst, length, take, arith, set}
use Rattle.std.specs.List.{AllZip, slice_get}
use Rattle.std.proofs.Math.Seq.{take-length}
use Rattle.std.proofs.lemmas.List.{length-set, take_more_set}
use Rattle.std.proofs.lemmas.List.Elements.{all_zip_more}
use Rattle.std.proofs.lemmas.Option.{get_or_from_slice_get, slice_get_within}
use Rattle.tracker_model.specs.Shape.{Torrent}
use Rattle.bucket.specs.Calls.{Stays}
use Rattle.bucket.specs.Table.{Table}
use Rattle.bucket.specs.Torrents.{Freshens, Turns}

-- the torrents before a place are fresh, and the others are as they were
pub record AreFreshening (place : ℕ) (old new : Table) : Type 0 where
  pub stays : Stays old new
  pub fresh : AllZip (Freshens old.time) (take place old.torrents) (take place new.torrents)
  pub others : (k : ℕ) → place ≤ k → slice_get new.torrents k ≡ slice_get old.torrents k
  pub as_many : length new.torrents ≡ length old.torrents

pub freshening_none : (old : Table) → Stays old old → AreFreshening 0 old old
freshening_none old stays = record { stays = stays; fresh = tt; others = λ k h. refl; as_many = refl }

slice_get_set : {X : Type 0} (xs : List X) (i k : ℕ) (x : X) → k ≢ i → slice_get (set xs i x) k ≡ slice_get xs k
slice_get_set [] i k x apart = refl
slice_get_set (y ∷ ys) zero zero x apart = absurd (apart refl)
slice_get_set (y ∷ ys) zero (suc k) x apart = refl
slice_get_set (y ∷ ys) (suc i) zero x apart = refl
slice_get_set (y ∷ ys) (suc i) (suc k) x apart = slice_get_set ys i k x (λ e. apart (ap suc e))

pub freshening_one : (place : ℕ) (old mid new : Table) → AreFreshening place old mid → Stays mid new → Turns place (Freshens mid.time) mid.torrents new.torrents → AreFreshening (place + 1) old new
freshening_one place old mid new it stays turns =
    let stood : slice_get old.torrents place ≡ Some turns.before = sym (it.others place (omega arith)) ∙ turns.stood in
    let within = slice_get_within old.torrents place turns.before stood in
    let P : ℕ → Type 0 = λ t. Freshens t turns.before turns.after in
    let Q : List Torrent → Type 0 = λ l. AllZip (Freshens old.time) (take (place + 1) old.torrents) l in
    let is : take (place + 1) new.torrents ≡ take place mid.torrents ++ turns.after ∷ [] = ap (λ l. take (place + 1) l) turns.set ∙ take_more_set mid.torrents place turns.after (omega (arith, it.as_many)) in
    record {
      stays = record { limits = stays.limits ∙ it.stays.limits; time = stays.time ∙ it.stays.time; sound = stays.sound };
      fresh = subst Q (sym is) (all_zip_more (Freshens old.time) old.torrents (take place mid.torrents) place turns.before turns.after within
          (sym (get_or_from_slice_get old.torrents place turns.before turns.before stood)) it.fresh (subst P it.stays.time turns.turned));
      others = λ k h.
          ap (λ l. slice_get l k) turns.set ∙ slice_get_set mid.torrents place k turns.after (λ e. omega arith) ∙ it.others k (omega arith);
      as_many = ap length turns.set ∙ length-set mid.torrents place turns.after ∙ it.as_many;
    }

pub freshened_all : (place : ℕ) (old new : Table) → AreFreshening place old new → place ≡ length old.torrents → AllZip (Freshens old.time) old.torrents new.torrents
freshened_all place old new it all =
    let P : List Torrent → Type 0 = λ l. AllZip (Freshens old.time) l (take place new.torrents) in
    let Q : List Torrent → Type 0 = λ l. AllZip (Freshens old.time) old.torrents l in
    subst Q (ap (λ n. take n new.torrents) (all ∙ sym it.as_many) ∙ take-length new.torrents) (subst P (ap (λ n. take n old.torrents) all ∙ take-length old.torrents) it.fresh)
