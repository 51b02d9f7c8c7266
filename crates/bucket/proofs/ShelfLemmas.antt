-- A shelf: where a torrent's bucket is, what a call on a bucket makes of it, and a new one.
use Rattle.std.proofs.Common.{◌≡◌, ℕ, ◌+◌, ◌-◌, ◌*◌, ◌^◌, ◌<◌, ◌≤◌, List, [], ◌∷◌, ◌++◌, refl, sym, ◌∙◌, ap, subst, arith, length, length-append, get_or, set, take, replicate}
use Rattle.std.specs.List.{All, AllByRecursion, AllZip}
use Rattle.std.specs.Int.{w16, from_be_bytes}
use Rattle.std.proofs.Math.Nat.{div-lt_iff_lt-mul}
use Rattle.std.proofs.lemmas.List.Elements.{All-get_or, All-push, recursion_from_All}
use Rattle.std.proofs.lemmas.Nat.{pow-add, pow_pos}
use Rattle.std.proofs.lemmas.Option.{get_or_from_slice_get}
use Rattle.ot_base.specs.Hash.{first_bits}
use Rattle.ot_base.specs.declared.minute.Minute.{Minute}
use Rattle.tracker_model.specs.Settings.{Settings}
use Rattle.tracker_model.specs.Shape.{Shape}
use Rattle.tracker_model.specs.Stands.{StandsFor}
use Rattle.tracker_model.specs.declared.answer.Answer.{Answer}
use Rattle.tracker_model.specs.declared.call.Call.{Call}
use Rattle.tracker_model.specs.declared.entry.Entry.{Entry}
use Rattle.bucket.specs.Shelf.{AllStand, IsShelf, MadeOnShelf, ShelfShape, StandsOnWith}

-- ---- the number of a bucket

two_bytes : (bytes : List ℕ) → get_or bytes 0 0 < 256 → get_or bytes 1 0 < 256 → from_be_bytes w16 (take 2 bytes) < 65536
two_bytes [] first second = omega arith
two_bytes (a ∷ []) first second = omega arith
two_bytes (a ∷ b ∷ bytes) first second = omega arith

-- the first bits make a number that they can make
pub first_bits_below : (bytes : List ℕ) (bits : ℕ) → bits ≤ 10 → get_or bytes 0 0 < 256 → get_or bytes 1 0 < 256 → first_bits bytes bits < 2 ^ bits
first_bits_below bytes bits few first second =
    let all : bits + (16 - bits) ≡ 16 = omega arith in
    let power : 2 ^ bits * 2 ^ (16 - bits) ≡ 65536 = sym (pow-add 2 bits (16 - bits)) ∙ ap (λ n. 2 ^ n) all in
    let number : from_be_bytes w16 (take 2 bytes) < 2 ^ bits * 2 ^ (16 - bits) = rw power (two_bytes bytes first second) in
    (div-lt_iff_lt-mul {k = 2 ^ (16 - bits)} {x = from_be_bytes w16 (take 2 bytes)} {y = 2 ^ bits} (pow_pos (16 - bits))).1 number

-- ---- a call on a bucket

-- a shelf by its fields
abbrev pub shelf_of : ℕ → Settings → List Shape → ShelfShape
shelf_of bits g buckets = record { bits = bits; settings = g; buckets = buckets }

module _ (bits : ℕ) (g : Settings) (buckets : List Shape) (old : ShelfShape) (is : shelf_of bits g buckets ≡ old) (whole : IsShelf (shelf_of bits g buckets)) (i : ℕ) (within : i < 2 ^ old.bits) where
  pub within_buckets : i < length buckets
  within_buckets = rw (whole.full, ap (λ s. s.bits) is) within

  module _ (before : Shape) (at : before ≡ get_or buckets i before) where
    same_settings : before.settings ≡ old.settings
    same_settings =
        ap (λ b. b.settings) at
        ∙ All-get_or (λ b. b.settings ≡ g) buckets i before within_buckets whole.same
        ∙ ap (λ s. s.settings) is

    -- what the bucket promises of a call is what the shelf promises
    pub made_in : (minute : Minute) (call : Call) (answer : Answer) (after : Shape) → after.settings ≡ before.settings →
        ((history : List Entry) → StandsFor history before → StandsFor (history ++ record { caller = 0; minute = minute; call = call; answer = answer } ∷ []) after) →
        MadeOnShelf old i minute call answer (shelf_of bits g (set buckets i after))
    made_in minute call answer after settings stands =
        let P : ShelfShape → Type 0 = λ s. MadeOnShelf s i minute call answer (shelf_of bits g (set buckets i after)) in
        subst P is (record {
          bucket = after;
          within = rw (ap (λ s. s.bits) is) within;
          changed = refl;
          follows = λ b found.
              let B : Shape → Type 0 = λ s. StandsOnWith (record { caller = 0; minute = minute; call = call; answer = answer }) s after in
              subst B (at ∙ get_or_from_slice_get buckets i b before found) (record { settings = settings; stands = stands });
        })

-- ---- a new shelf

-- the buckets are new ones, so many of them
pub record AreNew (g : Settings) (count : ℕ) (buckets : List Shape) : Type 0 where
  pub many : length buckets ≡ count
  pub same : All (λ bucket. bucket.settings ≡ g) buckets
  pub stand : All (λ bucket. StandsFor [] bucket) buckets
  pub empty : All (λ bucket. bucket.torrents ≡ []) buckets

pub new_more : (g : Settings) (count : ℕ) (buckets : List Shape) (bucket : Shape) → AreNew g count buckets → bucket.settings ≡ g → StandsFor [] bucket → bucket.torrents ≡ [] → AreNew g (count + 1) (buckets ++ bucket ∷ [])
new_more g count buckets bucket are settings stands empty = record {
  many = length-append buckets (bucket ∷ []) ∙ ap (λ n. n + 1) are.many;
  same = All-push (λ b. b.settings ≡ g) buckets bucket are.same settings;
  stand = All-push (λ b. StandsFor [] b) buckets bucket are.stand stands;
  empty = All-push (λ b. b.torrents ≡ []) buckets bucket are.empty empty;
}

-- one value beside each element
zip_replicate : {A B : Type 0} (R : A → B → Type 0) (x : A) (ys : List B) → AllByRecursion (λ y. R x y) ys → AllZip R (replicate (length ys) x) ys
zip_replicate R x [] each = tt
zip_replicate R x (y ∷ ys) each = (each.0, zip_replicate R x ys each.1)

pub new_shelf : (bits : ℕ) (g : Settings) (count : ℕ) (buckets : List Shape) → bits ≤ 10 → count ≡ 2 ^ bits → AreNew g count buckets → AllStand (replicate (2 ^ bits) []) (shelf_of bits g buckets)
new_shelf bits g count buckets few all are =
    let full : length buckets ≡ 2 ^ bits = are.many ∙ all in
    record {
      whole = record { few = few; full = full; same = are.same };
      each = rw (← full) (zip_replicate StandsFor [] buckets (recursion_from_All (λ bucket. StandsFor [] bucket) buckets are.stand));
    }
