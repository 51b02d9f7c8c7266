-- The histories of a shelf's buckets grow by the calls that are made on it.
use Rattle.std.proofs.Common.{◌≡◌, ℕ, zero, suc, ◌<◌, List, [], ◌∷◌, ◌++◌, refl, sym, ◌∙◌, ap, subst, arith, length, get_or, set, length-set, get_or-set_same}
use Rattle.std.specs.List.{AllZip}
use Rattle.std.proofs.lemmas.List.Elements.{All-get_or, All-set}
use Rattle.std.proofs.lemmas.Option.{slice_get-get_or}
use Rattle.std.proofs.lemmas.Slice.Zip.{AllZip-long}
use Rattle.ot_base.specs.declared.minute.Minute.{Minute}
use Rattle.tracker_model.specs.Grows.{GrowsAlone, NoneBetween, Step, history_at}
use Rattle.tracker_model.specs.Legal.{IsLegalHistory}
use Rattle.tracker_model.specs.Making.{Makes}
use Rattle.tracker_model.specs.Placed.{moves_of}
use Rattle.tracker_model.specs.Settings.{Settings}
use Rattle.tracker_model.specs.Stands.{StandsFor}
use Rattle.tracker_model.specs.declared.answer.Answer.{Answer}
use Rattle.tracker_model.specs.declared.call.Call.{Call}
use Rattle.tracker_model.specs.declared.entry.Entry.{Entry}
use Rattle.bucket.specs.Shelf.{AllStand, Follows, MadeOnShelf, ShelfShape, StandsOnWith, bucket_at}

module _ {A B : Type 0} (R : A → B → Type 0) where
  zip_at : (xs : List A) (ys : List B) (i : ℕ) (d : A) (e : B) → AllZip R xs ys → i < length ys → R (get_or xs i d) (get_or ys i e)
  zip_at [] [] i d e zipped within = absurd (omega arith)
  zip_at [] (y ∷ ys) i d e zipped within = absurd zipped
  zip_at (x ∷ xs) [] i d e zipped within = absurd zipped
  zip_at (x ∷ xs) (y ∷ ys) zero d e zipped within = zipped.0
  zip_at (x ∷ xs) (y ∷ ys) (suc i) d e zipped within = zip_at xs ys i d e zipped.1 (omega arith)

  zip_set : (xs : List A) (ys : List B) (i : ℕ) (x : A) (y : B) → AllZip R xs ys → R x y → AllZip R (set xs i x) (set ys i y)
  zip_set [] [] i x y zipped it = tt
  zip_set [] (b ∷ ys) i x y zipped it = absurd zipped
  zip_set (a ∷ xs) [] i x y zipped it = absurd zipped
  zip_set (a ∷ xs) (b ∷ ys) zero x y zipped it = (it, zipped.1)
  zip_set (a ∷ xs) (b ∷ ys) (suc i) x y zipped it = (zipped.0, zip_set xs ys i x y zipped.1 it)

-- the entry of a call by caller 0
abbrev entry_of : Minute → Call → Answer → Entry
entry_of minute call answer = record { caller = 0; minute = minute; call = call; answer = answer }

-- the histories after one more entry of a bucket
abbrev grown : List (List Entry) → ℕ → Entry → List (List Entry)
grown histories i x = set histories i (history_at histories i ++ x ∷ [])

-- one call on a bucket
module _ (minute : Minute) (old new : ShelfShape) (i : ℕ) (call : Call) (answer : Answer) (made : MadeOnShelf old i minute call answer new) (histories : List (List Entry)) (stand : AllStand histories old) where
  within_buckets : i < length old.buckets
  within_buckets = rw stand.whole.full made.within

  stands_on : StandsOnWith (entry_of minute call answer) (bucket_at old i) made.bucket
  stands_on = made.follows (bucket_at old i) (slice_get-get_or old.buckets i _ within_buckets)

  same_settings : made.bucket.settings ≡ old.settings
  same_settings = stands_on.settings ∙ All-get_or (λ bucket. bucket.settings ≡ old.settings) old.buckets i _ within_buckets stand.whole.same

  stands_after : StandsFor (history_at histories i ++ entry_of minute call answer ∷ []) made.bucket
  stands_after = stands_on.stands (history_at histories i) (zip_at StandsFor histories old.buckets i _ _ stand.each within_buckets)

  all_stand : AllStand (grown histories i (entry_of minute call answer)) new
  all_stand =
      let P : ShelfShape → Type 0 = λ s. AllStand (grown histories i (entry_of minute call answer)) s in
      subst P (sym made.changed) (record {
        whole = record {
          few = stand.whole.few;
          full = length-set old.buckets i made.bucket ∙ stand.whole.full;
          same = All-set (λ bucket. bucket.settings ≡ old.settings) old.buckets i made.bucket same_settings stand.whole.same;
        };
        each = zip_set StandsFor histories old.buckets i _ made.bucket stand.each stands_after;
      })

  step : Step NoneBetween old.settings 0 histories (record { bucket = i; entry = entry_of minute call answer }) (grown histories i (entry_of minute call answer))
  step =
      let within : i < length histories = omega (arith, AllZip-long StandsFor histories old.buckets stand.each, within_buckets) in
      let Legal : Settings → Type 0 = λ g. IsLegalHistory g (history_at histories i ++ entry_of minute call answer ∷ []) in
      let LegalAs : List Entry → Type 0 = λ h. IsLegalHistory old.settings h in
      record {
        others = [];
        own = refl;
        between = refl;
        within = within;
        grown = refl;
        legal = subst LegalAs (sym (get_or-set_same histories i _ [] within)) (subst Legal same_settings stands_after.legal);
      }

  -- and then others
  follows_on : (last : ShelfShape) (placed : List (ℕ × Call)) (answers : List Answer) → Follows minute new placed answers last (grown histories i (entry_of minute call answer)) →
      Follows minute old ((i, call) ∷ placed) (answer ∷ answers) last histories
  follows_on last placed answers then =
      let P : Settings → Type 0 = λ g. GrowsAlone g 0 (grown histories i (entry_of minute call answer)) (moves_of 0 minute placed answers) then.next in
      record {
        next = then.next;
        answered = ap suc then.answered;
        grows = (grown histories i (entry_of minute call answer), step, subst P (ap (λ s. s.settings) made.changed) then.grows);
        stands = then.stands;
      }

-- the buckets stand for the histories that grew by the calls, each of which was answered right
-- just there
pub shelf_follows : (minute : Minute) (old new : ShelfShape) (placed : List (ℕ × Call)) (answers : List Answer) (histories : List (List Entry)) → AllStand histories old → Makes MadeOnShelf minute old placed answers new →
    Follows minute old placed answers new histories
shelf_follows minute old new [] [] histories stand makes =
    let P : ShelfShape → Type 0 = λ s. AllStand histories s in
    record { next = histories; answered = refl; grows = refl; stands = subst P (sym makes) stand }
shelf_follows minute old new [] (answer ∷ answers) histories stand makes = absurd makes
shelf_follows minute old new (one ∷ placed) [] histories stand makes = absurd makes
shelf_follows minute old new (one ∷ placed) (answer ∷ answers) histories stand makes =
    let x = entry_of minute one.1 answer in
    let stand_then = all_stand minute old makes.0 one.0 one.1 answer makes.1 histories stand in
    follows_on minute old makes.0 one.0 one.1 answer makes.1 histories stand new placed answers (shelf_follows minute makes.0 new placed answers (grown histories one.0 x) stand_then makes.2)
