-- Torrents are dropped one after the other.
use Rattle.std.proofs.Common.{◌≡◌, ℕ, zero, suc, ◌+◌, ◌-◌, ◌<◌, ◌≤◌, false, nat_lt, List, [], ◌∷◌, ◌++◌, Option, Some, refl, sym, ◌∙◌, ap, subst, length, drop, arith}
use Rattle.std.specs.List.{All, slice_get, slice_index, swap_remove}
use Rattle.std.specs.Option.{option_map}
use Rattle.std.proofs.lemmas.Bool.Decides.{nat_tests}
use Rattle.std.proofs.lemmas.List.{drop_at, length-append}
use Rattle.std.proofs.lemmas.List.Elements.{All-drop, All-push, All-same}
use Rattle.std.proofs.lemmas.List.Sorted.{All-permutation, IsPermutation-refl, IsPermutation-pop_more, IsPermutation-swap_remove, length_permutation}
use Rattle.std.proofs.lemmas.Option.{slice_get-map, slice_get_within, get_or_from_slice_get}
use Rattle.age_ring.specs.Ring.{Ring, items_of, stamps_of}
use Rattle.ot_base.specs.declared.hash.InfoHash.{InfoHash}
use Rattle.tracker_model.specs.Shape.{Torrent, is_known_in}
use Rattle.tracker_model.specs.declared.limits.TheConstants.{TORRENT_MINUTES}
use Rattle.bucket.specs.Changes.{Drops, DropsUnknown, KeepsClock}
use Rattle.bucket.specs.Index.{IsIndexed}
use Rattle.bucket.specs.Stored.{torrent_by}
use Rattle.bucket.specs.Table.{torrents_by}
use Rattle.bucket.specs.declared.stored.Stored.{Stored}
use Rattle.bucket.proofs.TableLemmas.{by_at}

-- what holds while torrents are dropped that aren't known at a minute
pub record AreDropping (minute : ℕ) (old ring : Ring InfoHash) (look : InfoHash → Option ℕ)
    (before list : List Stored) : Type 0 where
  pub clock : KeepsClock old ring
  pub indexed : IsIndexed (items_of ring.pairs) look
  pub as_many : length list ≡ length ring.pairs
  pub dropped : DropsUnknown minute (torrents_by old.pairs before) (torrents_by ring.pairs list)
  pub left : Drops (λ stored. Unit {0}) before list

drops_none : {X : Type 0} (P : X → Type 0) (xs : List X) → Drops P xs xs
drops_none P xs = record { gone = []; moves = IsPermutation-refl xs; each = λ i d h. absurd (omega arith) }

-- one more goes
drops_one : {X : Type 0} (P : X → Type 0) (old mid new : List X) (at : ℕ) (x : X) → Drops P old mid → slice_get mid at ≡ Some x → P x → new ≡ swap_remove mid at x → Drops P old new
drops_one {X} P old mid new at x it here holds is =
    let within = slice_get_within mid at x here in
    let Q : List X → Type 0 = λ l. Drops P old l in
    subst Q (sym is) (record {
      gone = it.gone ++ x ∷ [];
      moves = IsPermutation-pop_more old it.gone mid (swap_remove mid at x) x it.moves (IsPermutation-swap_remove mid at x within (sym (get_or_from_slice_get mid at x x here)));
      each = All-push P it.gone x it.each holds;
    })

-- what holds of each holds of those that are left, which aren't more
pub all_left : {X : Type 0} (P Q : X → Type 0) (old new : List X) → Drops P old new → All Q old → All Q new
all_left P Q old new it all =
    let rest : drop (length it.gone) (it.gone ++ new) ≡ new = drop_at it.gone new (length it.gone) refl in
    All-same Q new (drop (length it.gone) (it.gone ++ new)) (sym rest) (All-drop Q (length it.gone) (it.gone ++ new) (All-permutation Q old (it.gone ++ new) it.moves all))

pub fewer_left : {X : Type 0} (P : X → Type 0) (old new : List X) → Drops P old new → length new ≤ length old
fewer_left P old new it = omega (arith, length_permutation old (it.gone ++ new) it.moves, length-append it.gone new)

pub some_at : {X : Type 0} (xs : List X) (i : ℕ) → i < length xs → (x : X) × (slice_get xs i ≡ Some x)
some_at [] i within = absurd (omega arith)
some_at (x ∷ xs) zero within = (x, refl)
some_at (x ∷ xs) (suc i) within = some_at xs i (omega arith)

-- who is due isn't known
due_unknown : (minute touch : ℕ) → touch + TORRENT_MINUTES ≤ minute → nat_lt (minute - touch) TORRENT_MINUTES ≡ false
due_unknown minute touch due = let more : TORRENT_MINUTES ≤ minute - touch = omega arith in grind (arith, nat_tests)

pub dropping_none : (minute : ℕ) (ring : Ring InfoHash) (look : InfoHash → Option ℕ) (list : List Stored) → IsIndexed (items_of ring.pairs) look → length list ≡ length ring.pairs → AreDropping minute ring ring look list list
dropping_none minute ring look list it as_many = record {
  clock = record { time = refl; ages = refl };
  indexed = it;
  as_many = as_many;
  dropped = drops_none (λ (t : Torrent). is_known_in minute t ≡ false) (torrents_by ring.pairs list);
  left = drops_none (λ (s : Stored). Unit {0}) list;
}

pub dropping_one : (minute : ℕ) (old ring new : Ring InfoHash) (look look' : InfoHash → Option ℕ) (before list list' : List Stored) (at : ℕ) → AreDropping minute old ring look before list
    → at < length ring.pairs → slice_index (stamps_of ring.pairs) at + TORRENT_MINUTES ≤ minute → ((t : Torrent) → torrents_by new.pairs list' ≡ swap_remove (torrents_by ring.pairs list) at t) → ((s : Stored) → list' ≡ swap_remove list at s)
    → length list' ≡ length new.pairs → IsIndexed (items_of new.pairs) look' → KeepsClock ring new → AreDropping minute old new look' before list'
dropping_one minute old ring new look look' before list list' at it within due torrents lists as_many indexed clock =
    let pair = some_at ring.pairs at within in
    let stored = some_at list at (omega (arith, it.as_many)) in
    let t : Torrent = torrent_by pair.0 stored.0 in
    let stamp : slice_index (stamps_of ring.pairs) at ≡ t.touch = get_or_from_slice_get (stamps_of ring.pairs) at t.touch 0 (slice_get-map (λ (p : InfoHash × ℕ). p.1) ring.pairs at ∙ ap (λ o. option_map (λ (p : InfoHash × ℕ). p.1) o) pair.1) in
    let gone : is_known_in minute t ≡ false = due_unknown minute t.touch (omega (arith, stamp, due)) in
    record {
      clock = record { time = clock.time ∙ it.clock.time; ages = clock.ages ∙ it.clock.ages };
      indexed = indexed;
      as_many = as_many;
      dropped = drops_one (λ (x : Torrent). is_known_in minute x ≡ false) (torrents_by old.pairs before) (torrents_by ring.pairs list) (torrents_by new.pairs list') at t it.dropped
          (by_at ring.pairs list at pair.0 stored.0 pair.1 stored.1) gone (torrents t);
      left = drops_one (λ (s : Stored). Unit {0}) before list list' at stored.0 it.left stored.1 tt (lists stored.0);
    }
