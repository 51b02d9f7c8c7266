-- The torrents of a load, in order.
use Rattle.std.proofs.Common.{◌≡◌, ◌≢◌, ℕ, zero, suc, ◌+◌, ◌*◌, ◌/◌, ◌%◌, ◌<◌, ◌≤◌, Bool, true, false, ◌&&◌, ◌||◌, List, [], ◌∷◌, ◌++◌, Option, None, refl, sym, ◌∙◌, ap, subst, cond, map, arith, replicate, drop}
use Rattle.std.proofs.lemmas.Bool.Decides.{nat_tests}
use Rattle.std.specs.Bool.{◌==◌}
use Rattle.std.specs.Cmp.{nat_cmp_is}
use Rattle.std.specs.Cmp.Lexicographic.{slice_cmp}
use Rattle.std.specs.Int.{w32, to_be_bytes}
use Rattle.std.specs.List.{filter, range_with_len, AllByRecursion}
use Rattle.std.specs.List.Sorted.{IsStrictlySortedBy}
use Rattle.std.specs.Ordering.{nat_cmp, ordering_then}
use Rattle.std.specs.Set.{is_member}
use Rattle.std.specs.declared.cmp.Ordering.TheVariants.{Less}
use Rattle.std.proofs.lemmas.List.Kept.{IsStrictlySortedBy-filter}
use Rattle.std.proofs.lemmas.Map.Made.{is_member-filter, alike_from_same}
use Rattle.ot_base.specs.Order.{hash_cmp}
use Rattle.ot_base.specs.Same.{same_hash}
use Rattle.ot_base.proofs.SameLemmas.{same_hash_laws, same_hash_decides}
use Rattle.ot_base.specs.declared.hash.InfoHash.{InfoHash}
use Rattle.ot_base.specs.declared.peer.Row.{Row}
use Rattle.tracker_model.specs.Counted.{counts_of, rows_of}
use Rattle.tracker_model.specs.Entries.{time_of}
use Rattle.tracker_model.specs.Known.{is_known}
use Rattle.tracker_model.specs.declared.entry.Entry.{Entry}
use Rattle.tracker_model.proofs.Cases.{by_test}
use Rattle.tracker_model.proofs.RowLemmas.{rows_are}
use Rattle.load_model.specs.Load.{torrent_hash}

-- all torrents of a load
pub torrents : List InfoHash
torrents = map torrent_hash (range_with_len 0 64)

-- ---- their order

less_is : (a b : ℕ) → a < b → nat_cmp a b ≡ Less
less_is a b less = sym (nat_cmp_is a b Less less)

-- the bytes of a hash behind its first
abbrev after_first : ℕ → List ℕ
after_first k = drop 1 (torrent_hash k).0

torrent_less : (j k : ℕ) → j < k → k < 64 → hash_cmp (torrent_hash j) (torrent_hash k) ≡ Less
torrent_less j k less few =
    let first : j * 67108864 / 16777216 % 256 < k * 67108864 / 16777216 % 256 = omega arith in
    let rest = slice_cmp nat_cmp (after_first j) (after_first k) in
    ap (λ o. ordering_then o rest) (less_is (j * 67108864 / 16777216 % 256) (k * 67108864 / 16777216 % 256) first)

below_from : (j a n : ℕ) → j < a → a + n ≤ 64 → AllByRecursion (λ h. hash_cmp (torrent_hash j) h ≡ Less) (map torrent_hash (range_with_len a n))
below_from j a zero less few = tt
below_from j a (suc n) less few = (torrent_less j a less (omega arith), below_from j (a + 1) n (omega arith) (omega arith))

sorted_from : (a n : ℕ) → a + n ≤ 64 → IsStrictlySortedBy hash_cmp (map torrent_hash (range_with_len a n))
unfolding IsStrictlySortedBy
sorted_from a zero few = tt
sorted_from a (suc n) few = (below_from a (a + 1) n (omega arith) (omega arith), sorted_from (a + 1) n (omega arith))

-- ---- which they are

or_second : (a : Bool) {b : Bool} → b ≡ true → (a || b) ≡ true
or_second true e = refl
or_second false e = e

member_from : (a n k : ℕ) → a ≤ k → k < a + n → is_member same_hash (map torrent_hash (range_with_len a n)) (torrent_hash k) ≡ true
member_from a zero k from below = absurd (omega arith)
member_from a (suc n) k from below =
    let others = map torrent_hash (range_with_len (a + 1) n) in
    by_test (k == a) (is_member same_hash (torrent_hash a ∷ others) (torrent_hash k) ≡ true)
    (λ equal.
    let same : k ≡ a = grind (arith, nat_tests) in
    ap (λ b. b || is_member same_hash others (torrent_hash k)) ((same_hash_decides (torrent_hash k) (torrent_hash a)).1 (ap torrent_hash same)))
    (λ differ.
    let apart : k ≢ a = grind (arith, nat_tests) in
    or_second (same_hash (torrent_hash k) (torrent_hash a)) (member_from (a + 1) n k (omega arith) (omega arith)))

pub torrent_among : (k : ℕ) → k < 64 → is_member same_hash torrents (torrent_hash k) ≡ true
unfolding torrents
torrent_among k below = member_from 0 64 k (omega arith) (omega arith)

each_from : (P : InfoHash → Type 0) (a n : ℕ) → a + n ≤ 64 → ((k : ℕ) → k < 64 → P (torrent_hash k)) → AllByRecursion P (map torrent_hash (range_with_len a n))
each_from P a zero few each = tt
each_from P a (suc n) few each = (each a (omega arith), each_from P (a + 1) n (omega arith) each)

pub each_torrent : (P : InfoHash → Type 0) → ((k : ℕ) → k < 64 → P (torrent_hash k)) → AllByRecursion P torrents
unfolding torrents
each_torrent P each = each_from P 0 64 (omega arith) each

-- ---- the rows of a scan

-- the row of a torrent
abbrev pub row_of : List Entry → InfoHash → Row
row_of past h = record { hash = h; counts = counts_of past h }

hashes_back : (past : List Entry) (hs : List InfoHash) → map (λ row. row.hash) (map (row_of past) hs) ≡ hs
hashes_back past [] = refl
hashes_back past (h ∷ hs) = ap (λ l. h ∷ l) (hashes_back past hs)

counted_right : (past : List Entry) (hs : List InfoHash) → AllByRecursion (λ row. row.counts ≡ counts_of past row.hash) (map (row_of past) hs)
counted_right past [] = tt
counted_right past (h ∷ hs) = (refl, counted_right past hs)

-- where only torrents of a load are known, a scan's rows are theirs
pub rows_of_torrents : (past : List Entry) (minute : ℕ) → time_of past ≡ minute → ((q : InfoHash) → is_member same_hash torrents q ≡ false → is_known past q minute ≡ false) →
    rows_of past ≡ map (row_of past) (filter (λ h. is_known past h minute) torrents)
unfolding torrents
rows_of_torrents past minute now outside =
    let known = λ (h : InfoHash). is_known past h minute in
    let hs = filter known torrents in
    let sorted : IsStrictlySortedBy hash_cmp hs = IsStrictlySortedBy-filter hash_cmp known torrents (sorted_from 0 64 (omega arith)) in
    let member : (q : InfoHash) → is_member same_hash hs q ≡ is_known past q minute = λ q.
    is_member-filter same_hash_laws known q (alike_from_same same_hash_decides known q) torrents
    ∙ by_test (is_member same_hash torrents q) ((is_member same_hash torrents q && known q) ≡ known q)
    (λ among. ap (λ b. b && known q) among)
    (λ never. ap (λ b. b && known q) never ∙ sym (outside q never)) in
    sym (rows_are past (map (row_of past) hs)
    (subst (IsStrictlySortedBy hash_cmp) (sym (hashes_back past hs)) sorted)
    (λ q. ap (λ l. is_member same_hash l q) (hashes_back past hs) ∙ member q ∙ ap (is_known past q) (sym now))
    (counted_right past hs))
