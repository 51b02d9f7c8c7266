-- A scan of a bucket can be answered, whatever it has stored: its known torrents tell the rows.
use Rattle.std.proofs.Common.{◌≡◌, ℕ, ◌<◌, ◌^◌, max, Bool, true, false, ◌&&◌, ◌||◌, T, List, [], ◌∷◌, reverse, Ordering, refl, sym, ◌∙◌, ap, subst, map}
use Rattle.std.specs.FinMap.{FinMap, contains_key-keys, entries, entries_sorted, from_entries, get-from_entries, keys}
use Rattle.std.specs.FinMap.Entries.{below_all, is_some-find, is_sorted}
use Rattle.std.specs.List.{All, AllByRecursion, list_any}
use Rattle.std.specs.List.Sorted.{IsStrictlySortedBy}
use Rattle.std.specs.Option.{is_some}
use Rattle.std.specs.Ordering.{eq_by_cmp, is_lt}
use Rattle.std.specs.Set.{is_member}
use Rattle.std.specs.declared.cmp.Ordering.TheVariants.{Less, Equal, Greater}
use Rattle.std.proofs.lemmas.List.Elements.{recursion_from_All}
use Rattle.std.proofs.lemmas.Option.{get_or_from_slice_get}
use Rattle.ot_base.specs.Order.{hash_cmp}
use Rattle.ot_base.specs.Same.{same_hash}
use Rattle.ot_base.specs.declared.hash.InfoHash.{InfoHash}
use Rattle.ot_base.specs.declared.minute.Minute.{Minute}
use Rattle.ot_base.specs.declared.peer.Row.{Row}
use Rattle.ot_base.proofs.OrderLemmas.{hash_cmp_total, hash_cmp_ties}
use Rattle.tracker_model.specs.Judged.{AreRows}
use Rattle.tracker_model.specs.Known.{downloaded_of, touch_of}
use Rattle.tracker_model.specs.Shape.{Shape, Torrent, counts_in, known_torrents}
use Rattle.tracker_model.specs.Stands.{Keeps}
use Rattle.tracker_model.specs.declared.answer.Answer.TheVariants.{Rows}
use Rattle.tracker_model.specs.declared.call.Call.TheVariants.{Scan}
use Rattle.tracker_model.specs.declared.entry.Entry.{Entry}
use Rattle.tracker_model.proofs.CountLemmas.{is_some-known, known_member}
use Rattle.tracker_model.proofs.JudgedLemmas.{stands_judged}
use Rattle.tracker_model.proofs.StandsLemmas.{keeps_now, time_after}
use Rattle.bucket.specs.Shelf.{CanScan, MadeOnShelf, ShelfShape, StandsOnWith, bucket_at, with_bucket}

-- ---- the rows

-- the torrents, in the order of their hashes
abbrev torrent_map : List Torrent → FinMap hash_cmp Torrent
torrent_map torrents = from_entries (map (λ t. (t.hash, t)) torrents)

-- the hashes of the known torrents, in order
abbrev hashes_in : ℕ → List Torrent → List InfoHash
hashes_in now torrents = keys (torrent_map (known_torrents now torrents))

abbrev row_in : ℕ → List Torrent → InfoHash → Row
row_in now torrents h = record { hash = h; counts = counts_in now torrents h }

-- the rows of the known torrents
abbrev pub rows_in : ℕ → List Torrent → List Row
rows_in now torrents = map (row_in now torrents) (hashes_in now torrents)

both : (a b : Bool) → T (a && b) → T a × T b
both true b it = (tt, it)
both false b it = absurd it

less : (o : Ordering) → T (is_lt o) → o ≡ Less
less Less it = refl
less Equal it = absurd it
less Greater it = absurd it

-- the keys of a map ascend strictly
module _ {K X : Type 0} (cmp : K → K → Ordering) where
  below_keys : (k : K) (es : List (K × X)) → T (below_all cmp k es) → AllByRecursion (λ y. cmp k y ≡ Less) (map (λ e. e.0) es)
  below_keys k [] below = tt
  below_keys k (e ∷ es) below = let it = both (is_lt (cmp k e.0)) (below_all cmp k es) below in (less (cmp k e.0) it.0, below_keys k es it.1)

  sorted_keys : (es : List (K × X)) → T (is_sorted cmp es) → IsStrictlySortedBy cmp (map (λ e. e.0) es)
  unfolding IsStrictlySortedBy
  sorted_keys [] sorted = tt
  sorted_keys (e ∷ es) sorted = let it = both (below_all cmp e.0 es) (is_sorted cmp es) sorted in (below_keys e.0 es it.0, sorted_keys es it.1)

among : (h : InfoHash) (hashes : List InfoHash) → is_member same_hash hashes h ≡ list_any (eq_by_cmp hash_cmp h) hashes
among h [] = refl
among h (k ∷ hashes) = λ i. hash_cmp_ties h k i || among h hashes i

entry_hashes : (torrents : List Torrent) → map (λ (e : InfoHash × Torrent). e.0) (map (λ (t : Torrent). (t.hash, t)) torrents) ≡ map (λ t. t.hash) torrents
entry_hashes [] = refl
entry_hashes (t ∷ torrents) = ap (λ l. t.hash ∷ l) (entry_hashes torrents)

-- the keys of the torrents' map are their hashes
keys_among : (torrents : List Torrent) (h : InfoHash) → is_member same_hash (keys (torrent_map torrents)) h ≡ is_member same_hash (map (λ t. t.hash) torrents) h
keys_among torrents h =
    let es = map (λ (t : Torrent). (t.hash, t)) torrents in
    among h (keys (torrent_map torrents))
    ∙ sym (contains_key-keys (torrent_map torrents) h)
    ∙ ap is_some (get-from_entries hash_cmp_total es h)
    ∙ is_some-find hash_cmp h es
    ∙ ap (λ l. list_any (eq_by_cmp hash_cmp h) l) (entry_hashes torrents)
    ∙ sym (among h (map (λ t. t.hash) torrents))

module _ (now : ℕ) (torrents : List Torrent) where
  row_hashes : (hashes : List InfoHash) → map (λ row. row.hash) (map (row_in now torrents) hashes) ≡ hashes
  row_hashes [] = refl
  row_hashes (h ∷ hashes) = ap (λ l. h ∷ l) (row_hashes hashes)

  rows_counted : (hashes : List InfoHash) → AllByRecursion (λ row. row.counts ≡ counts_in now torrents row.hash) (map (row_in now torrents) hashes)
  rows_counted [] = tt
  rows_counted (h ∷ hashes) = (refl, rows_counted hashes)

  -- they are rows of what is stored, where that keeps what some entries say
  rows_right : (past : List Entry) → Keeps past now torrents → AreRows now torrents (rows_in now torrents)
  rows_right past kept =
      let hashes = hashes_in now torrents in
      let Sorted : List InfoHash → Type 0 = λ l. IsStrictlySortedBy hash_cmp l in
      record {
        sorted = subst Sorted (sym (row_hashes hashes)) (sorted_keys hash_cmp (entries (torrent_map (known_torrents now torrents))) (entries_sorted (torrent_map (known_torrents now torrents))));
        known = λ h.
            ap (λ l. is_member same_hash l h) (row_hashes hashes)
            ∙ keys_among (known_torrents now torrents) h
            ∙ known_member past now torrents kept h
            ∙ sym (ap is_some (kept.torrents h) ∙ is_some-known now (λ touch. record { touch = touch; downloaded = downloaded_of past h }) (λ touch. refl) (touch_of past h));
        counted = rows_counted hashes;
      }

-- ---- the scans

-- a bucket of which only the time moved on
abbrev pub moved_to : Minute → Shape → Shape
moved_to minute bucket = record bucket { time = max minute.0 bucket.time }

-- the entry of a scan of a bucket, by caller 0
abbrev pub scan_of : Minute → Shape → Entry
scan_of minute bucket = record {
  caller = 0;
  minute = minute;
  call = Scan;
  answer = Rows (rows_in (max minute.0 bucket.time) bucket.torrents);
}

-- it may be made on any bucket, and need change nothing but the time
pub scan_stands : (minute : Minute) (bucket : Shape) → StandsOnWith (scan_of minute bucket) bucket (moved_to minute bucket)
scan_stands minute bucket = record {
  settings = refl;
  stands = λ history stands.
      let x = scan_of minute bucket in
      let past = reverse history in
      let KeepsAt : ℕ → Type 0 = λ t. Keeps past t bucket.torrents in
      let kept = subst KeepsAt (sym (time_after x past bucket stands.holds)) (keeps_now x past bucket stands.holds) in
      stands_judged history x bucket (moved_to minute bucket) stands tt (rows_right (max minute.0 bucket.time) bucket.torrents past kept)
      (record {
        settings = refl;
        time = refl;
        torrents = record { tidy = stands.holds.kept.tidy; peers = λ h e. refl; torrents = λ h. refl };
        notes = refl;
        dropped = refl;
      });
}

-- such a scan of a bucket of a shelf
scan_made : (minute : Minute) (old : ShelfShape) (i : ℕ) → i < 2 ^ old.bits →
    MadeOnShelf old i minute Scan (Rows (rows_in (max minute.0 (bucket_at old i).time) (bucket_at old i).torrents)) (with_bucket old i (moved_to minute (bucket_at old i)))
scan_made minute old i within = record {
  bucket = moved_to minute (bucket_at old i);
  within = within;
  changed = refl;
  follows = λ before at.
      let P : Shape → Type 0 = λ b. StandsOnWith (scan_of minute (bucket_at old i)) b (moved_to minute (bucket_at old i)) in
      subst P (get_or_from_slice_get old.buckets i before _ at) (scan_stands minute (bucket_at old i));
}

scans_in_turn : (minute : Minute) (old : ShelfShape) (buckets : List ℕ) → AllByRecursion (λ i. i < 2 ^ old.bits) buckets → CanScan minute old buckets
scans_in_turn minute old [] within = record { lists = []; new = old; made = refl }
scans_in_turn minute old (i ∷ buckets) within =
    let bucket = bucket_at old i in
    let middle = with_bucket old i (moved_to minute bucket) in
    let others = scans_in_turn minute middle buckets within.1 in
    record {
      lists = rows_in (max minute.0 bucket.time) bucket.torrents ∷ others.lists;
      new = others.new;
      made = (middle, scan_made minute old i within.0, others.made);
    }

-- scans of the buckets of a shelf can be made in any order, with rows of their torrents as answers
pub scans_can_be_answered : (minute : Minute) (old : ShelfShape) (buckets : List ℕ) → All (λ i. i < 2 ^ old.bits) buckets → CanScan minute old buckets
scans_can_be_answered minute old buckets within = scans_in_turn minute old buckets (recursion_from_All (λ i. i < 2 ^ old.bits) buckets within)
