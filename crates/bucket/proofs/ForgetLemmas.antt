-- The time moves on, and the torrents that aren't known any more go.
use Rattle.std.proofs.Common.{◌≡◌, ℕ, ◌+◌, ◌≤◌, true, false, cond, List, Option, Some, None, refl, sym, ◌∙◌, ap, subst, length, arith}
use Rattle.std.specs.List.{All}
use Rattle.std.proofs.lemmas.Bool.Decides.{nat_tests}
use Rattle.std.proofs.lemmas.List.Elements.{All-contains, All-weaker}
use Rattle.age_ring.specs.Ring.{IsYoung, Ring, items_of}
use Rattle.ot_base.specs.declared.hash.InfoHash.{InfoHash}
use Rattle.ot_base.specs.declared.peer.Limits.{Limits}
use Rattle.tracker_model.specs.Shape.{Torrent, is_known_in, torrent_of}
use Rattle.tracker_model.specs.declared.limits.TheConstants.{TORRENT_MINUTES}
use Rattle.tracker_model.proofs.Cases.{by_test}
use Rattle.bucket.specs.Calls.{Forgets}
use Rattle.bucket.specs.Changes.{Drops, DropsUnknown}
use Rattle.bucket.specs.Index.{IsIndexed}
use Rattle.bucket.specs.Stored.{IsFit}
use Rattle.bucket.specs.Table.{IsKept, Table, torrents_by}
use Rattle.bucket.specs.Torrents.{if_known}
use Rattle.bucket.specs.declared.stored.Stored.{Stored}
use Rattle.bucket.proofs.DropLemmas.{all_left, fewer_left}
use Rattle.bucket.proofs.FoundLemmas.{found_is, found_known, hashes_of}
use Rattle.bucket.proofs.SoundLemmas.{known_by, sound_by, table_by}
use Rattle.bucket.proofs.TableLemmas.{hashes_by}

fit_later : (limit a b : ℕ) (s : Stored) → a ≤ b → IsFit limit a s → IsFit limit b s
fit_later limit a b s le it = record { past = omega (arith, it.past); few = it.few; tidy = it.tidy }

-- what is left of a table that is kept is kept at the later time
pub kept_left : (limits : Limits) (ring left : Ring InfoHash) (look look' : InfoHash → Option ℕ) (list list' : List Stored) → IsKept limits ring look list → ring.time ≤ left.time → left.ages ≡ TORRENT_MINUTES
    → All (IsYoung TORRENT_MINUTES left.time) left.pairs → length list' ≡ length left.pairs → IsIndexed (items_of left.pairs) look' → Drops (λ stored. Unit {0}) list list' → IsKept limits left look' list'
kept_left limits ring left look look' list list' it later ages young as_many indexed drops =
    let fit = all_left (λ (s : Stored). Unit {0}) (IsFit limits.peers ring.time) list list' drops it.each in
    record {
      limited = it.limited;
      indexed = indexed;
      ages = ages;
      young = young;
      as_many = as_many;
      few = omega (arith, it.few, fewer_left (λ (s : Stored). Unit {0}) list list' drops);
      each = All-weaker (IsFit limits.peers ring.time) (IsFit limits.peers left.time) (λ s h. fit_later limits.peers ring.time left.time s later h) list' fit;
    }

indexed_by : (pairs : List (InfoHash × ℕ)) (list : List Stored) (look : InfoHash → Option ℕ) → length list ≡ length pairs → IsIndexed (items_of pairs) look → IsIndexed (hashes_of (torrents_by pairs list)) look
indexed_by pairs list look as_many it =
    let P : List InfoHash → Type 0 = λ l. IsIndexed l look in
    subst P (sym (hashes_by pairs list as_many)) it

pub forgets_left : (limits : Limits) (minute : ℕ) (ring left : Ring InfoHash) (look look' : InfoHash → Option ℕ) (list list' : List Stored) → IsKept limits ring look list → IsKept limits left look' list' → left.time ≡ minute
    → DropsUnknown minute (torrents_by ring.pairs list) (torrents_by left.pairs list') → Forgets minute (table_by limits ring.time ring.pairs list) (table_by limits left.time left.pairs list')
forgets_left limits minute ring left look look' list list' it kept time drops =
    let new = torrents_by left.pairs list' in
    let P : ℕ → Type 0 = λ t. All (λ x. is_known_in t x ≡ true) new in
    record {
      limits = refl;
      time = time;
      sound = sound_by limits left look' list' kept;
      found = λ h. found_known minute (torrents_by ring.pairs list) new look look' h (indexed_by ring.pairs list look it.as_many it.indexed) (indexed_by left.pairs list' look' kept.as_many kept.indexed) drops
          (subst P time (known_by left.time left.pairs list' kept.young));
    }

-- who is known now is found as such
known_now : (time : ℕ) (torrents : List Torrent) (h : InfoHash) → All (λ t. is_known_in time t ≡ true) torrents → torrent_of torrents h ≡ if_known time (torrent_of torrents h)
known_now time torrents h all = by_found time torrents h all (torrent_of torrents h) refl
  where
    by_found : (time : ℕ) (torrents : List Torrent) (h : InfoHash) → All (λ t. is_known_in time t ≡ true) torrents → (o : Option Torrent) → torrent_of torrents h ≡ o → torrent_of torrents h ≡ if_known time (torrent_of torrents h)
    by_found time torrents h all None none = none ∙ sym (ap (λ o. if_known time o) none)
    by_found time torrents h all (Some t) found =
        let known : is_known_in time t ≡ true = All-contains (λ x. is_known_in time x ≡ true) torrents t all (found_is torrents h t found).0 in
        found ∙ sym (ap (λ o. if_known time o) found ∙ ap (λ b. cond b (Some t) None) known)

pub forgets_none : (limits : Limits) (time : ℕ) (ring : Ring InfoHash) (look : InfoHash → Option ℕ) (list : List Stored) (old : Table) → IsKept limits ring look list → table_by limits ring.time ring.pairs list ≡ old → time ≡ ring.time → Forgets time old old
forgets_none limits time ring look list old it view now =
    let table = table_by limits ring.time ring.pairs list in
    let P : ℕ → Type 0 = λ t. Forgets t table table in
    let Q : Table → Type 0 = λ v. Forgets time v v in
    let none : Forgets ring.time table table = record {
      limits = refl;
      time = refl;
      sound = sound_by limits ring look list it;
      found = λ h. known_now ring.time table.torrents h (known_by ring.time ring.pairs list it.young);
    } in
    subst Q view (subst P (sym now) none)

-- who isn't known isn't known later
unknown_later : (a b : ℕ) (t : Torrent) → a ≤ b → is_known_in a t ≡ false → is_known_in b t ≡ false
unknown_later a b t le unknown = grind (arith, nat_tests)

if_known_later : (a b : ℕ) (o : Option Torrent) → a ≤ b → if_known b (if_known a o) ≡ if_known b o
if_known_later a b None le = refl
if_known_later a b (Some t) le =
    by_test (is_known_in a t) (if_known b (if_known a (Some t)) ≡ if_known b (Some t))
    (λ yes. ap (λ c. if_known b (cond c (Some t) None)) yes)
    (λ no. ap (λ c. if_known b (cond c (Some t) None)) no ∙ sym (ap (λ c. cond c (Some t) None) (unknown_later a b t le no)))

pub forgets_later : (a b : ℕ) (old mid new : Table) → a ≤ b → Forgets a old mid → Forgets b mid new → Forgets b old new
forgets_later a b old mid new le one two = record {
  limits = two.limits ∙ one.limits;
  time = two.time;
  sound = two.sound;
  found = λ h. two.found h ∙ ap (λ o. if_known b o) (one.found h) ∙ if_known_later a b (torrent_of old.torrents h) le;
}

pub forgets_more : (start minute : ℕ) (old mid new : Table) → Forgets (start + minute) old mid → Forgets (start + minute + 1) mid new → Forgets (start + (minute + 1)) old new
forgets_more start minute old mid new one two =
    let P : ℕ → Type 0 = λ t. Forgets t old new in
    let e : start + minute + 1 ≡ start + (minute + 1) = omega arith in
    subst P e (forgets_later (start + minute) (start + minute + 1) old mid new (omega arith) one two)
