-- What is known after a phase.
use Rattle.std.proofs.Common.{◌≡◌, ◌≢◌, ℕ, zero, suc, ◌+◌, ◌*◌, ◌/◌, ◌%◌, ◌^◌, ◌<◌, ◌≤◌, Bool, true, false, List, [], ◌∷◌, ◌++◌, length, map, cond, take, refl, sym, ap, subst, ◌∙◌, append_assoc, append-nil, length-append, get_or, arith}
use Rattle.std.specs.Prelude.{IfOk, OnOk, Result, Ok, Err, reverse, if◌then◌else◌}
use Rattle.std.specs.Bool.{◌==◌}
use Rattle.std.specs.List.{AllByRecursion, filter, range_with_len, sum_by}
use Rattle.std.proofs.lemmas.List.{length-map, reverse-append, take_all}
use Rattle.std.proofs.lemmas.List.FromFn.{get_or-range_with_len, length-range_with_len}
use Rattle.std.proofs.lemmas.List.Sums.{sum_by-cons}
use Rattle.ot_base.specs.declared.hash.InfoHash.{InfoHash}
use Rattle.ot_base.specs.declared.minute.Minute.{Minute}
use Rattle.tracker_model.specs.Counted.{rows_of}
use Rattle.tracker_model.specs.Entries.{time_of}
use Rattle.tracker_model.specs.Grows.{history_at}
use Rattle.tracker_model.specs.Placed.{bucket_for, bucket_in}
use Rattle.tracker_model.specs.declared.call.Call.{Call}
use Rattle.tracker_model.specs.declared.call.Call.TheVariants.{Scan}
use Rattle.tracker_model.specs.declared.entry.Entry.{Entry}
use Rattle.tracker_model.proofs.Cases.{by_test}
use Rattle.turn_lock.specs.Histories.{AllBelow}
use Rattle.turn_lock.proofs.HistoryLemmas.{all_left, all_right}
use Rattle.shards.specs.Shape.{KnowsNumbers, PassShape}
use Rattle.shards.proofs.PlaceLemmas.{first_bits_below}
use Rattle.load_model.specs.Alike.{IsPart, after, after_calls}
use Rattle.load_model.specs.Load.{CanDrill, call_by, call_of, caller_number, made, past_after, peer_at, peer_number, phase_minute, requests, requests_in, torrent_hash}
use Rattle.load_model.specs.Sums.{totals_in}
use Rattle.load_model.specs.Text.{totals_after, totals_of}
use Rattle.load_model.specs.declared.request.Request.{Request}
use Rattle.load_model.specs.declared.settings.DrillSettings.{DrillSettings}
use Rattle.load_model.specs.declared.totals.Totals.{Totals}
use Rattle.load_model.proofs.AlikeLemmas.{as_many}
use Rattle.load_model.proofs.LoadLemmas.{calls_report, caller_by_endpoint, load_after, past_after_is, reverse_after}
use Rattle.load_model.proofs.PartLemmas.{part_later, phase_now, phase_part}
use Rattle.load_model.proofs.PhasedLemmas.{dealt_all, left_next}
use Rattle.load_model.proofs.SumLemmas.{spread_all, sum_ones, totals_together}
use Rattle.load_model.proofs.TorrentLemmas.{each_torrent, torrents}
use Rattle.drill.specs.Phases.{AreOfDrill, HaveMade, IsAfter, IsAlone}
use Rattle.drill.specs.Scanning.{AreScanned, IsScanned}
use Rattle.drill.proofs.TeamLemmas.{below_at, no_entries}

-- ---- buckets

-- the bucket of a torrent of a load
pub torrent_below : (bits k : ℕ) → bits ≤ 10 → k < 64 → bucket_in bits (torrent_hash k) < 2 ^ bits
torrent_below bits k few below =
    let first : k * 67108864 / 16777216 % 256 < 256 = omega arith in
    let second : k * 67108864 / 65536 % 256 < 256 = omega arith in
    first_bits_below (torrent_hash k).0 bits few first second

call_below : (bits : ℕ) (r : Request) → bits ≤ 10 → bucket_for (bucket_in bits) (call_of r) < 2 ^ bits
call_below bits r few =
    let h = torrent_hash (r.first % 64) in
    let there = torrent_below bits (r.first % 64) few (omega arith) in
    elim (r.first / 64 % 8) as (λ kind. bucket_for (bucket_in bits) (call_by kind h (peer_at (peer_number r))) < 2 ^ bits) [ zero ↦ there | suc kind ↦ there ]

calls_below : (bits : ℕ) (rs : List Request) → bits ≤ 10 → AllByRecursion (λ c. bucket_for (bucket_in bits) c < 2 ^ bits) (map call_of rs)
calls_below bits [] few = tt
calls_below bits (r ∷ rs) few = (call_below bits r few, calls_below bits rs few)

-- ---- sums over buckets

-- how many pass a test
count_of : (p : Call → Bool) (cs : List Call) → length (filter p cs) ≡ sum_by (λ c. if p c then 1 else 0) cs
count_of p [] = refl
count_of p (c ∷ cs) =
    by_test (p c) (length (filter p (c ∷ cs)) ≡ sum_by (λ d. if p d then 1 else 0) (c ∷ cs))
    (λ pass. ap (λ b. length (cond b (c ∷ filter p cs) (filter p cs))) pass ∙ ap suc (count_of p cs)
    ∙ (let e : suc (sum_by (λ d. if p d then 1 else 0) cs) ≡ 1 + sum_by (λ d. if p d then 1 else 0) cs = omega arith in e)
    ∙ (λ k. (if sym pass k then 1 else 0) + sum_by (λ d. if p d then 1 else 0) cs) ∙ sym (sum_by-cons (λ d. if p d then 1 else 0) c cs))
    (λ fail. ap (λ b. length (cond b (c ∷ filter p cs) (filter p cs))) fail ∙ count_of p cs
    ∙ (let e : sum_by (λ d. if p d then 1 else 0) cs ≡ 0 + sum_by (λ d. if p d then 1 else 0) cs = omega arith in e)
    ∙ (λ k. (if sym fail k then 1 else 0) + sum_by (λ d. if p d then 1 else 0) cs) ∙ sym (sum_by-cons (λ d. if p d then 1 else 0) c cs))

-- histories that grew by so much each, and one more
sums_more : (f : ℕ → ℕ) (start : ℕ) (olds news : List (List Entry)) → length news ≡ length olds →
    ((i : ℕ) → i < length olds → length (get_or news i []) ≡ length (get_or olds i []) + f (start + i) + 1) →
    sum_by length news ≡ sum_by length olds + sum_by f (range_with_len start (length olds)) + length olds
sums_more f start [] [] same each = omega arith
sums_more f start [] (h ∷ news) same each = absurd (omega arith)
sums_more f start (h ∷ olds) [] same each = absurd (omega arith)
sums_more f start (h ∷ olds) (g ∷ news) same each =
    let here : length g ≡ length h + f start + 1 = each 0 (omega arith) ∙ ap (λ n. length h + f n + 1) (let e : start + 0 ≡ start = omega arith in e) in
    let rest = sums_more f (start + 1) olds news (omega arith) (λ i below. each (suc i) (omega arith) ∙ ap (λ n. length (get_or olds i []) + f n + 1) (let e : start + suc i ≡ start + 1 + i = omega arith in e)) in
    let a = sum_by-cons length g news in
    let b = sum_by-cons length h olds in
    let c = sum_by-cons f start (range_with_len (start + 1) (length olds)) in
    omega arith

-- one time more
times_more : (n m : ℕ) → (n + 1) * m ≡ n * m + m
times_more n m = grind arith

-- ---- a phase

module _ (s : DrillSettings) (can : CanDrill s) (phase : ℕ) (load left : List (ℕ × Request)) (totals : Totals) (old worked new : PassShape)
    (before : IsAfter s phase load old)
    (makes : HaveMade phase (phase_minute phase) s.workers load left old worked)
    (scans : AreScanned (phase_minute phase) (2 ^ s.bits) totals worked new)
    (known : KnowsNumbers new) where
  abbrev minute : Minute
  minute = phase_minute phase

  abbrev calls : List Call
  calls = map call_of makes.dealt

  abbrev load_then : List Entry
  load_then = made minute Scan ∷ after_calls minute (past_after s phase) calls

  abbrev key : Call → ℕ
  key c = caller_number c % s.workers

  bits_is : old.shards.bits ≡ s.bits
  bits_is = before.shards.bits

  all_dealt : requests_in phase (requests s) ≡ makes.dealt
  all_dealt = dealt_all s phase before.drew load left makes.dealt before.drawn makes.drawn makes.ended

  load_is : past_after s (suc phase) ≡ load_then
  load_is = past_after_is s phase ∙ ap (λ rs. made minute Scan ∷ after_calls minute (past_after s phase) (map call_of rs)) all_dealt

  alone : IsAlone new
  alone = record {
    first = ap (λ (p : PassShape). p.caller) scans.pass ∙ makes.alone.first;
    none_out = ap (λ (p : PassShape). p.out) scans.pass ∙ makes.alone.none_out;
    some = subst (λ f. 1 ≤ f) (sym (ap (λ (p : PassShape). p.free) scans.pass)) makes.alone.some;
    joined = λ n from less apart.
        makes.alone.joined n from
        (subst (λ f. n < f) (ap (λ (p : PassShape). p.free) scans.pass) less)
        (subst (AllByRecursion (λ m. n ≢ m)) (ap (λ (p : PassShape). p.joined) scans.pass) apart);
    known = known;
  }

  buckets : length new.seen ≡ 2 ^ s.bits
  buckets = scans.buckets ∙ makes.buckets ∙ before.buckets

  module _ (bucket : ℕ) (within : bucket < 2 ^ s.bits) where
    abbrev there : List Entry
    there = history_at old.seen bucket

    abbrev entries : List Entry
    entries = (makes.made bucket).entries

    scanned : IsScanned minute.0 (worked.caller ∷ worked.joined) (history_at worked.seen bucket) (history_at new.seen bucket)
    scanned = scans.each bucket within

    nothing_between : scanned.others ≡ []
    nothing_between =
        let P : Entry → Type 0 = λ x. x.caller < worked.free in
        let all : AllBelow worked.free (history_at new.seen bucket) = subst (λ f. AllBelow f (history_at new.seen bucket)) (ap (λ (p : PassShape). p.free) scans.pass) (below_at new alone.first known bucket) in
        let behind : AllBelow worked.free (scanned.others ++ scanned.scan ∷ []) = all_right P (history_at worked.seen bucket) (scanned.others ++ scanned.scan ∷ []) (subst (AllByRecursion P) scanned.grown all) in
        no_entries worked makes.alone scanned.others scanned.apart (all_left P scanned.others (scanned.scan ∷ []) behind)

    grown : history_at new.seen bucket ≡ (there ++ entries) ++ scanned.scan ∷ []
    grown = scanned.grown ∙ ap (λ l. history_at worked.seen bucket ++ (l ++ scanned.scan ∷ [])) nothing_between ∙ ap (λ l. l ++ scanned.scan ∷ []) (makes.made bucket).grown

    turned : reverse (history_at new.seen bucket) ≡ scanned.scan ∷ after (reverse there) entries
    turned = ap reverse grown ∙ reverse-append (there ++ entries) (scanned.scan ∷ []) ∙ ap (λ l. scanned.scan ∷ l) (reverse_after there entries)

    agree : (k : ℕ) → filter (λ c. key c == k) (map (λ (x : Entry). x.call) entries) ≡ filter (λ c. key c == k) (filter (λ c. bucket_for (bucket_in s.bits) c == bucket) calls)
    agree k = (makes.made bucket).agree k ∙ ap (λ bits. filter (λ c. key c == k) (filter (λ c. bucket_for (bucket_in bits) c == bucket) calls)) bits_is

    part_then : IsPart s.bits bucket minute.0 (scanned.scan ∷ after (reverse there) entries) load_then
    part_then = phase_part s.bits bucket minute (reverse there) (past_after s phase) (before.parts bucket within) calls (calls_report makes.dealt) entries (makes.made bucket).of_phase key (caller_by_endpoint s.workers) agree scanned.scan scanned.made

    pub part_is : IsPart s.bits bucket minute.0 (reverse (history_at new.seen bucket)) (past_after s (suc phase))
    part_is = subst (IsPart s.bits bucket minute.0 (reverse (history_at new.seen bucket))) (sym load_is) (subst (λ l. IsPart s.bits bucket minute.0 l load_then) (sym turned) part_then)

    pub now_is : time_of (reverse (history_at new.seen bucket)) ≡ minute.0
    now_is = ap time_of turned ∙ phase_now s.bits bucket minute (reverse there) (past_after s phase) (before.parts bucket within) calls (calls_report makes.dealt) entries (makes.made bucket).of_phase key (caller_by_endpoint s.workers) agree scanned.scan scanned.made

    pub many : length (history_at new.seen bucket) ≡ length there + sum_by (λ c. if bucket_for (bucket_in s.bits) c == bucket then 1 else 0) calls + 1
    many =
        let mine : Call → Bool = λ c. bucket_for (bucket_in s.bits) c == bucket in
        let one : length entries ≡ sum_by (λ c. if mine c then 1 else 0) calls = sym (length-map entries (λ (x : Entry). x.call)) ∙ as_many key (map (λ (x : Entry). x.call) entries) (filter mine calls) agree ∙ count_of mine calls in
        let all = ap length grown ∙ length-append (there ++ entries) (scanned.scan ∷ []) in
        let both = length-append there entries in
        omega arith

  few : AllByRecursion (λ h. bucket_in s.bits h < length new.seen) torrents
  few = each_torrent (λ h. bucket_in s.bits h < length new.seen) (λ k below. rw buckets (torrent_below s.bits k can.few_bits below))

  pub totals_right : totals ≡ totals_after s phase
  totals_right =
      let load_now = load_after s phase in
      let whole : take (2 ^ s.bits) new.seen ≡ new.seen = take_all (2 ^ s.bits) new.seen (let e = buckets in omega arith) in
      scans.counted ∙ ap totals_in whole
      ∙ totals_together s.bits minute.0 (past_after s (suc phase)) new.seen load_now.now load_now.outside few
      (λ i below. let within : i < 2 ^ s.bits = rw (sym buckets) below in (part_is i within, now_is i within))

  calls_so_far : sum_by length new.seen ≡ sum_by length old.seen + length makes.dealt + 2 ^ s.bits
  calls_so_far =
      let f : ℕ → ℕ = λ bucket. sum_by (λ c. if bucket_for (bucket_in s.bits) c == bucket then 1 else 0) calls in
      let n = 2 ^ s.bits in
      let olds : length old.seen ≡ n = before.buckets in
      let grew = sums_more f 0 old.seen new.seen (buckets ∙ sym olds) (λ i below. many i (rw (sym olds) below) ∙ ap (λ m. length (history_at old.seen i) + f m + 1) (let e : i ≡ 0 + i = omega arith in e)) in
      let range_length = length-range_with_len 0 n in
      let spread : sum_by f (range_with_len 0 n) ≡ sum_by (λ c. 1) calls =
      spread_all (bucket_for (bucket_in s.bits)) (λ c. 1) calls f 0 (range_with_len 0 n)
      (subst (λ m. AllByRecursion (λ c. bucket_for (bucket_in s.bits) c < m) calls) (sym range_length) (calls_below s.bits makes.dealt can.few_bits))
      (λ i below. ap f (get_or-range_with_len 0 n i 0 (rw (sym range_length) below) ∙ (let e : 0 + i ≡ i = omega arith in e))) in
      let as_calls : sum_by (λ c. 1) calls ≡ length makes.dealt = sym (sum_ones calls) ∙ length-map makes.dealt call_of in
      let by_count : sum_by f (range_with_len 0 (length old.seen)) ≡ length makes.dealt = ap (λ m. sum_by f (range_with_len 0 m)) olds ∙ spread ∙ as_calls in
      omega arith

  pub after_it : IsAfter s (phase + 1) left new
  after_it = record {
    drew = before.drew + length makes.dealt;
    drawn = left_next s phase before.drew load left makes.dealt before.drawn makes.drawn makes.ended;
    shards = subst (AreOfDrill s) (sym (ap (λ (p : PassShape). p.shards) scans.pass ∙ ap (λ (p : PassShape). p.shards) makes.pass)) before.shards;
    alone = alone;
    free = ap (λ (p : PassShape). p.free) scans.pass ∙ ap (λ (p : PassShape). p.free) makes.pass ∙ ap (λ n. n + s.workers) before.free
        ∙ (let e = times_more phase s.workers in omega arith);
    buckets = buckets;
    parts = λ bucket within.
        let le : 15 * phase ≤ 15 * (phase + 1) = omega arith in
        let next : suc phase ≡ phase + 1 = omega arith in
        subst (λ n. IsPart s.bits bucket (15 * (phase + 1)) (reverse (history_at new.seen bucket)) (past_after s n)) next
        (part_later s.bits bucket (15 * phase) (15 * (phase + 1)) (reverse (history_at new.seen bucket)) (past_after s (suc phase)) le (part_is bucket within));
    calls = calls_so_far ∙ (let e = times_more phase (2 ^ s.bits) in let was = before.calls in omega arith);
  }

-- the same, as far as the scans found memory
pub after_scans : {E : Type 0} (s : DrillSettings) → CanDrill s → (phase : ℕ) (load left : List (ℕ × Request)) (result : Result Totals E) (old worked new : PassShape) →
    IsAfter s phase load old → HaveMade phase (phase_minute phase) s.workers load left old worked →
    IfOk result (λ totals. AreScanned (phase_minute phase) (2 ^ s.bits) totals worked new) → IfOk result (λ totals. KnowsNumbers new) →
    OnOk result (IsAfter s (phase + 1) left new) × IfOk result (λ totals. totals ≡ totals_after s phase)
after_scans s can phase load left (Ok totals) old worked new before makes scans known =
    (after_it s can phase load left totals old worked new before makes scans known, totals_right s can phase load left totals old worked new before makes scans known)
after_scans s can phase load left (Err error) old worked new before makes scans known = (tt, tt)
