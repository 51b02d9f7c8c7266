-- The totals of a closed bucket are those of its history: a scan changes nothing.
use Rattle.std.proofs.Common.{◌≡◌, ℕ, zero, suc, All, ◌+◌, ◌<◌, ◌≤◌, ◌^◌, ◌*◌, max, Bool, List, [], ◌∷◌, ◌++◌, length, map, take, reverse, get_or, refl, sym, ap, ◌∙◌, subst, arith}
use Rattle.std.specs.Prelude.{if◌then◌else◌, min}
use Rattle.std.specs.List.{AllZip, sum_by}
use Rattle.std.proofs.lemmas.List.{get_or-set_other, length-set, reverse-append}
use Rattle.std.proofs.lemmas.List.Elements.{All-get_or}
use Rattle.std.proofs.lemmas.List.Sums.{sum_by_more}
use Rattle.std.proofs.lemmas.List.{take_all}
use Rattle.std.proofs.lemmas.Option.{slice_get-get_or}
use Rattle.ot_base.specs.Order.{hash_cmp}
use Rattle.ot_base.specs.declared.hash.InfoHash.{InfoHash}
use Rattle.ot_base.specs.declared.minute.Minute.{Minute}
use Rattle.ot_base.specs.declared.peer.Counts.{Counts}
use Rattle.ot_base.specs.declared.peer.Row.{Row}
use Rattle.bucket.specs.Shelf.{AllStand, MadeOnShelf, ShelfShape, bucket_at, with_bucket}
use Rattle.load_model.specs.Sums.{IsWithin, added, totals_in}
use Rattle.load_model.specs.Text.{totals_of}
use Rattle.load_model.specs.declared.totals.Totals.{Totals}
use Rattle.tracker_model.specs.Counted.{ascending, counts_of, how_many, is_leecher, known_hashes, rows_of}
use Rattle.tracker_model.specs.Entries.{time_of}
use Rattle.tracker_model.specs.Known.{downloaded_of, downloads, is_known, is_seed}
use Rattle.tracker_model.specs.Legal.{IsLegalHistory, IsLegalPast}
use Rattle.tracker_model.specs.Settings.{Settings}
use Rattle.tracker_model.specs.Shape.{Shape}
use Rattle.tracker_model.specs.Stands.{StandsFor}
use Rattle.tracker_model.specs.declared.answer.Answer.TheVariants.{Rows}
use Rattle.tracker_model.specs.declared.call.Call.TheVariants.{Scan}
use Rattle.tracker_model.specs.declared.entry.Entry.{Entry}
use Rattle.tracker_model.proofs.Cases.{by_test}
use Rattle.tracker_model.proofs.KnownLemmas.{unknown_downloads}

-- an entry of a scan that was answered
abbrev scanned_at : ℕ → Minute → List Row → Entry
scanned_at caller minute rows = record { caller = caller; minute = minute; call = Scan; answer = Rows rows }

-- ---- a scan at a history's own time tells what was known before it

same_time : (minute time : ℕ) → minute ≡ time → max minute time ≡ time
same_time minute time is = omega arith

-- the downloads of a torrent stay: where it isn't known there were none
same_downloads : (caller : ℕ) (minute : Minute) (rows : List Row) (past : List Entry) (h : InfoHash) → minute.0 ≡ time_of past → downloads (scanned_at caller minute rows ∷ past) h ≡ downloads past h
same_downloads caller minute rows past h on_time =
    let kept : Bool → ℕ = λ b. (if b then downloads past h else 0) + 0 in
    ap (λ time. kept (is_known past h time)) (same_time minute.0 (time_of past) on_time)
    ∙ by_test (is_known past h (time_of past)) (kept (is_known past h (time_of past)) ≡ downloads past h)
    (λ yes. ap kept yes ∙ omega arith)
    (λ no. ap kept no ∙ sym (unknown_downloads past h no))

counts_with : (complete downloaded incomplete : ℕ) → Counts
counts_with complete downloaded incomplete = record { complete = complete; downloaded = downloaded; incomplete = incomplete }

same_row : (caller : ℕ) (minute : Minute) (rows : List Row) (past : List Entry) (h : InfoHash) → minute.0 ≡ time_of past → counts_of (scanned_at caller minute rows ∷ past) h ≡ counts_of past h
unfolding counts_with
same_row caller minute rows past h on_time =
    let now = scanned_at caller minute rows ∷ past in
    let time = same_time minute.0 (time_of past) on_time in
    ap (λ t. counts_with (how_many is_seed now h t) (downloaded_of now h) (how_many is_leecher now h t)) time
    ∙ ap (λ n. counts_with (how_many is_seed past h (time_of past)) (min 4294967295 n) (how_many is_leecher past h (time_of past))) (same_downloads caller minute rows past h on_time)

map_same : {X Y : Type 0} (f g : X → Y) → ((x : X) → f x ≡ g x) → (xs : List X) → map f xs ≡ map g xs
map_same f g same [] = refl
map_same f g same (x ∷ xs) = ap (λ y. y ∷ map f xs) (same x) ∙ ap (λ ys. g x ∷ ys) (map_same f g same xs)

same_rows : (caller : ℕ) (minute : Minute) (rows : List Row) (past : List Entry) → minute.0 ≡ time_of past → rows_of (scanned_at caller minute rows ∷ past) ≡ rows_of past
same_rows caller minute rows past on_time =
    let now = scanned_at caller minute rows ∷ past in
    let row : List Entry → InfoHash → Row = λ entries h. record { hash = h; counts = counts_of entries h } in
    ap (λ time. map (row now) (ascending hash_cmp (known_hashes now time))) (same_time minute.0 (time_of past) on_time)
    ∙ map_same (row now) (row past) (λ h. ap (λ counts. let r : Row = record { hash = h; counts = counts } in r) (same_row caller minute rows past h on_time)) (ascending hash_cmp (known_hashes past (time_of past)))

-- ---- the rows that a scan of a bucket tells at its own time are those of its history

right_rows : (history : List Entry) (bucket new : Shape) (caller : ℕ) (minute : Minute) (rows : List Row) → minute.0 ≡ bucket.time → StandsFor history bucket
    → StandsFor (history ++ scanned_at caller minute rows ∷ []) new → rows ≡ rows_of (reverse history)
right_rows history bucket new caller minute rows on_time stood stands =
    let x = scanned_at caller minute rows in
    let past = reverse history in
    let legal : IsLegalPast new.settings (x ∷ past) = subst (IsLegalPast new.settings) (reverse-append history (x ∷ [])) stands.legal in
    let right : Rows rows ≡ Rows (rows_of (x ∷ past)) = legal.1 in
    let told : rows ≡ rows_of (x ∷ past) = cc in
    told ∙ same_rows caller minute rows past (on_time ∙ stood.holds.on_time)

-- the same, as a scan of a shelf's bucket tells them
pub scan_tells : (old new : ShelfShape) (bucket : ℕ) (minute : Minute) (rows : List Row) → bucket < length old.buckets → minute.0 ≡ (bucket_at old bucket).time
    → MadeOnShelf old bucket minute Scan (Rows rows) new → (history : List Entry) → StandsFor history (bucket_at old bucket) → totals_of rows ≡ totals_of (rows_of (reverse history))
scan_tells old new bucket minute rows within on_time made history stood =
    let follows = made.follows (bucket_at old bucket) (slice_get-get_or old.buckets bucket _ within) in
    ap totals_of (right_rows history (bucket_at old bucket) made.bucket 0 minute rows on_time stood (follows.stands history stood))

-- ---- the totals of one bucket after another

all_zip_at : {A B : Type 0} (R : A → B → Type 0) (xs : List A) (ys : List B) (i : ℕ) (d : A) (e : B) → AllZip R xs ys → i < length xs → R (get_or xs i d) (get_or ys i e)
all_zip_at R [] [] i d e each within = absurd (omega arith)
all_zip_at R [] (y ∷ ys) i d e each within = absurd each
all_zip_at R (x ∷ xs) [] i d e each within = absurd each
all_zip_at R (x ∷ xs) (y ∷ ys) zero d e each within = each.0
all_zip_at R (x ∷ xs) (y ∷ ys) (suc i) d e each within = all_zip_at R xs ys i d e each.1 (omega arith)

all_zip_long : {A B : Type 0} (R : A → B → Type 0) (xs : List A) (ys : List B) → AllZip R xs ys → length xs ≡ length ys
all_zip_long R [] [] each = refl
all_zip_long R [] (y ∷ ys) each = absurd each
all_zip_long R (x ∷ xs) [] each = absurd each
all_zip_long R (x ∷ xs) (y ∷ ys) each = ap suc (all_zip_long R xs ys each.1)

totals_with : (torrents complete downloaded incomplete : ℕ) → Totals
totals_with torrents complete downloaded incomplete = record { torrents = torrents; complete = complete; downloaded = downloaded; incomplete = incomplete }

-- the totals of one more history
totals_more : (hs : List (List Entry)) (i : ℕ) → i < length hs → totals_in (take (i + 1) hs) ≡ added (totals_in (take i hs)) (totals_of (rows_of (reverse (get_or hs i []))))
unfolding totals_with
totals_more hs i within =
    let by : (List Entry → ℕ) → Type 0 = λ f. sum_by f (take (i + 1) hs) ≡ sum_by f (take i hs) + f (get_or hs i []) in
    let more : (f : List Entry → ℕ) → by f = λ f. sum_by_more f hs i [] within in
    let torrents : List Entry → ℕ = λ h. length (rows_of (reverse h)) in
    let complete : List Entry → ℕ = λ h. sum_by (λ row. row.counts.complete) (rows_of (reverse h)) in
    let downloaded : List Entry → ℕ = λ h. sum_by (λ row. row.counts.downloaded) (rows_of (reverse h)) in
    let incomplete : List Entry → ℕ = λ h. sum_by (λ row. row.counts.incomplete) (rows_of (reverse h)) in
    let all = take (i + 1) hs in
    ap (λ n. totals_with n (sum_by complete all) (sum_by downloaded all) (sum_by incomplete all)) (more torrents)
    ∙ ap (λ n. totals_with (sum_by torrents (take i hs) + torrents (get_or hs i [])) n (sum_by downloaded all) (sum_by incomplete all)) (more complete)
    ∙ ap (λ n. totals_with (sum_by torrents (take i hs) + torrents (get_or hs i [])) (sum_by complete (take i hs) + complete (get_or hs i [])) n (sum_by incomplete all)) (more downloaded)
    ∙ ap (λ n. totals_with (sum_by torrents (take i hs) + torrents (get_or hs i [])) (sum_by complete (take i hs) + complete (get_or hs i [])) (sum_by downloaded (take i hs) + downloaded (get_or hs i [])) n) (more incomplete)

-- The first buckets of a shelf were scanned: the others are as they were, and the totals are those
-- of the first histories.
pub record SumsFirst (old : ShelfShape) (many : ℕ) (shelf : ShelfShape) (totals : Totals) : Type 0 where
  pub bits : shelf.bits ≡ old.bits
  pub settings : shelf.settings ≡ old.settings
  pub whole : length shelf.buckets ≡ length old.buckets
  pub others : (i : ℕ) → many ≤ i → bucket_at shelf i ≡ bucket_at old i
  pub tells : (histories : List (List Entry)) → AllStand histories old → totals ≡ totals_in (take many histories)
  pub small : IsWithin (many * 2 ^ 96) totals

pub sums_none : (old : ShelfShape) → SumsFirst old 0 old (record { torrents = 0; complete = 0; downloaded = 0; incomplete = 0 })
sums_none old = record {
  bits = refl;
  settings = refl;
  whole = refl;
  others = λ i past. refl;
  tells = λ histories stand. refl;
  small = record { torrents = omega arith; complete = omega arith; downloaded = omega arith; incomplete = omega arith };
}

sum_small : (many : ℕ) (t u : Totals) → IsWithin (many * 2 ^ 96) t → IsWithin (2 ^ 96) u → IsWithin ((many + 1) * 2 ^ 96) (added t u)
sum_small many t u small one = record {
  torrents = let a = small.torrents in let b = one.torrents in omega arith;
  complete = let a = small.complete in let b = one.complete in omega arith;
  downloaded = let a = small.downloaded in let b = one.downloaded in omega arith;
  incomplete = let a = small.incomplete in let b = one.incomplete in omega arith;
}

pub sums_more : (old shelf new : ShelfShape) (many : ℕ) (totals one : Totals) → many < length old.buckets → SumsFirst old many shelf totals
    → (changed : Shape) → new ≡ with_bucket shelf many changed → IsWithin (2 ^ 96) one
    → ((history : List Entry) → StandsFor history (bucket_at shelf many) → one ≡ totals_of (rows_of (reverse history)))
    → SumsFirst old (many + 1) new (added totals one)
sums_more old shelf new many totals one within first changed is small told =
    let Sums : ShelfShape → Type 0 = λ s. SumsFirst old (many + 1) s (added totals one) in
    subst Sums (sym is) (record {
      bits = first.bits;
      settings = first.settings;
      whole = length-set shelf.buckets many changed ∙ first.whole;
      others = λ i past. get_or-set_other shelf.buckets many i changed (record { settings = shelf.settings; time = 0; torrents = []; notes = []; dropped = 0 }) (λ e. omega arith) ∙ first.others i (omega arith);
      tells = λ histories stand.
          let long : many < length histories = (let e = all_zip_long StandsFor histories old.buckets stand.each in omega arith) in
          let at : StandsFor (get_or histories many []) (bucket_at old many) = all_zip_at StandsFor histories old.buckets many [] _ stand.each long in
          let Stood : Shape → Type 0 = StandsFor (get_or histories many []) in
          let here = told (get_or histories many []) (subst Stood (sym (first.others many (omega arith))) at) in
          ap (λ t. added t one) (first.tells histories stand)
          ∙ ap (λ t. added (totals_in (take many histories)) t) here
          ∙ sym (totals_more histories many long);
      small = sum_small many totals one first.small small;
    })

pub sums_all : (old shelf : ShelfShape) (many : ℕ) (totals : Totals) → many ≡ length old.buckets → SumsFirst old many shelf totals
    → (histories : List (List Entry)) → AllStand histories old → totals ≡ totals_in histories
sums_all old shelf many totals is all histories stand =
    all.tells histories stand
    ∙ ap totals_in (ap (λ n. take n histories) (is ∙ sym (all_zip_long StandsFor histories old.buckets stand.each)) ∙ take_all (length histories) histories (omega arith))

-- ---- what buckets stand for is legal

pub legal_all : (g : Settings) (histories : List (List Entry)) (shelf : ShelfShape) → shelf.settings ≡ g → AllStand histories shelf → All (IsLegalHistory g) histories
legal_all g histories shelf same stand = λ k d within.
    let long : k < length shelf.buckets = (let e = all_zip_long StandsFor histories shelf.buckets stand.each in omega arith) in
    let bucket = bucket_at shelf k in
    let stood : StandsFor (get_or histories k d) bucket = all_zip_at StandsFor histories shelf.buckets k d _ stand.each within in
    let settings : bucket.settings ≡ g = All-get_or (λ b. b.settings ≡ shelf.settings) shelf.buckets k _ long stand.whole.same ∙ same in
    subst (λ s. IsLegalHistory s (get_or histories k d)) settings stood.legal
