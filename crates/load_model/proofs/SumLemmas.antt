-- The sums over all buckets are the sums over all torrents.
use Rattle.std.proofs.Common.{◌≡◌, ◌≢◌, ℕ, suc, ◌+◌, ◌<◌, ◌≤◌, Bool, true, false, not, ◌&&◌, List, [], ◌∷◌, Option, None, refl, sym, ◌∙◌, ap, subst, cond, length, map, get_or, nat_lt, reverse, arith, if◌then◌else◌}
use Rattle.std.proofs.lemmas.Bool.Decides.{nat_tests}
use Rattle.std.specs.Bool.{◌==◌}
use Rattle.std.specs.List.{filter, sum_by, AllByRecursion}
use Rattle.std.specs.Set.{is_member}
use Rattle.std.proofs.lemmas.List.Sums.{sum_by-cons}
use Rattle.ot_base.specs.Same.{same_hash}
use Rattle.ot_base.specs.declared.hash.InfoHash.{InfoHash}
use Rattle.ot_base.specs.declared.peer.Row.{Row}
use Rattle.tracker_model.specs.Counted.{rows_of}
use Rattle.tracker_model.specs.Entries.{time_of}
use Rattle.tracker_model.specs.Known.{known, is_known}
use Rattle.tracker_model.specs.Placed.{bucket_in}
use Rattle.tracker_model.specs.declared.entry.Entry.{Entry}
use Rattle.tracker_model.proofs.Cases.{by_test}
use Rattle.load_model.specs.Alike.{AreAlike, IsPart}
use Rattle.load_model.specs.Sums.{sum_in, totals_in}
use Rattle.load_model.specs.Text.{totals_of}
use Rattle.load_model.specs.declared.totals.Totals.{Totals}
use Rattle.load_model.proofs.CountLemmas.{counts_alike, known_alike, unknown_not}
use Rattle.load_model.proofs.TorrentLemmas.{row_of, rows_of_torrents, torrents}

-- ---- sums over lists

module _ {X : Type 0} where
  pub sum_same : (f g : X → ℕ) (xs : List X) → AllByRecursion (λ x. f x ≡ g x) xs → sum_by f xs ≡ sum_by g xs
  sum_same f g [] all = refl
  sum_same f g (x ∷ xs) all = sum_by-cons f x xs ∙ (λ k. all.0 k + sum_same f g xs all.1 k) ∙ sym (sum_by-cons g x xs)

  pub sum_both : (f g : X → ℕ) (xs : List X) → sum_by f xs + sum_by g xs ≡ sum_by (λ x. f x + g x) xs
  sum_both f g [] = refl
  sum_both f g (x ∷ xs) =
      let a = sum_by-cons f x xs in
      let b = sum_by-cons g x xs in
      let c = sum_by-cons (λ (y : X). f y + g y) x xs in
      let rest = sum_both f g xs in
      omega arith

  sum_none : (xs : List X) → sum_by (λ x. 0) xs ≡ 0
  sum_none [] = refl
  sum_none (x ∷ xs) = let a = sum_by-cons (λ (y : X). 0) x xs in let b = sum_none xs in omega arith

  pub sum_ones : (xs : List X) → length xs ≡ sum_by (λ x. 1) xs
  sum_ones [] = refl
  sum_ones (x ∷ xs) = let a = sum_by-cons (λ (y : X). 1) x xs in let b = sum_ones xs in omega arith

  sum_filtered : {Y : Type 0} (w : Y → ℕ) (f : X → Y) (p : X → Bool) (xs : List X) → sum_by w (map f (filter p xs)) ≡ sum_by (λ x. if p x then w (f x) else 0) xs
  sum_filtered w f p [] = refl
  sum_filtered w f p (x ∷ xs) =
      by_test (p x) (sum_by w (map f (filter p (x ∷ xs))) ≡ sum_by (λ y. if p y then w (f y) else 0) (x ∷ xs))
      (λ pass.
      ap (λ b. sum_by w (map f (cond b (x ∷ filter p xs) (filter p xs)))) pass
      ∙ sum_by-cons w (f x) (map f (filter p xs))
      ∙ (λ k. (if sym pass k then w (f x) else 0) + sum_filtered w f p xs k)
      ∙ sym (sum_by-cons (λ (y : X). if p y then w (f y) else 0) x xs))
      (λ fail.
      ap (λ b. sum_by w (map f (cond b (x ∷ filter p xs) (filter p xs)))) fail
      ∙ (let e : sum_by w (map f (filter p xs)) ≡ 0 + sum_by w (map f (filter p xs)) = omega arith in e)
      ∙ (λ k. (if sym fail k then w (f x) else 0) + sum_filtered w f p xs k)
      ∙ sym (sum_by-cons (λ (y : X). if p y then w (f y) else 0) x xs))

  -- sums over the elements of each key, from one on, are a sum over the elements of these keys
  module _ (key : X → ℕ) (value : X → ℕ) (xs : List X) where
    abbrev pub part : ℕ → ℕ
    part k = sum_by (λ x. if key x == k then value x else 0) xs

    abbrev pub is_from : (start n k : ℕ) → Bool
    is_from start n k = not (nat_lt k start) && nat_lt k (start + n)

    none_from : (start k v : ℕ) → (if is_from start 0 k then v else 0) ≡ 0
    none_from start k v =
        by_test (is_from start 0 k) ((if is_from start 0 k then v else 0) ≡ 0)
        (λ among. absurd (grind (arith, nat_tests)))
        (λ beside. ap (λ b. if b then v else 0) beside)

    one_more : (start n k v : ℕ) → (if k == start then v else 0) + (if is_from (start + 1) n k then v else 0) ≡ (if is_from start (suc n) k then v else 0)
    one_more start n k v = grind (arith, nat_tests)

    all_of : (P : X → Type 0) (ys : List X) → ((y : X) → P y) → AllByRecursion P ys
    all_of P [] each = tt
    all_of P (y ∷ ys) each = (each y, all_of P ys each)

    spread : {Y : Type 0} (f : Y → ℕ) (d : Y) (start : ℕ) (ys : List Y) → ((i : ℕ) → i < length ys → f (get_or ys i d) ≡ part (start + i)) →
        sum_by f ys ≡ sum_by (λ x. if is_from start (length ys) (key x) then value x else 0) xs
    spread f d start [] each =
        sym (sum_same (λ (x : X). if is_from start 0 (key x) then value x else 0) (λ x. 0) xs (all_of _ xs (λ x. none_from start (key x) (value x))) ∙ sum_none xs)
    spread {Y} f d start (y ∷ ys) each =
        let here : f y ≡ part start = each 0 (omega arith) ∙ ap part (let e : start + 0 ≡ start = omega arith in e) in
        let rest = spread f d (start + 1) ys (λ i below. each (suc i) (omega arith) ∙ ap part (let e : start + suc i ≡ start + 1 + i = omega arith in e)) in
        sum_by-cons f y ys
        ∙ (λ k. here k + rest k)
        ∙ sum_both (λ (x : X). if key x == start then value x else 0) (λ (x : X). if is_from (start + 1) (length ys) (key x) then value x else 0) xs
        ∙ sum_same _ _ xs (all_of _ xs (λ x. one_more start (length ys) (key x) (value x)))

    -- where all keys are below the number of keys, that is the sum over all
    pub spread_all : {Y : Type 0} (f : Y → ℕ) (d : Y) (ys : List Y) → AllByRecursion (λ x. key x < length ys) xs → ((i : ℕ) → i < length ys → f (get_or ys i d) ≡ part i) → sum_by f ys ≡ sum_by value xs
    spread_all f d ys few each = spread f d 0 ys (λ i below. each i below ∙ ap part (let e : i ≡ 0 + i = omega arith in e)) ∙ sum_same _ _ xs (within xs few)
      where
        within : (zs : List X) → AllByRecursion (λ x. key x < length ys) zs → AllByRecursion (λ x. (if is_from 0 (length ys) (key x) then value x else 0) ≡ value x) zs
        within [] below = tt
        within (z ∷ zs) below = ((let first : key z < length ys = below.0 in let yes_ : is_from 0 (length ys) (key z) ≡ true = grind (arith, nat_tests) in ap (λ b. if b then value z else 0) yes_), within zs below.1)

-- ---- the torrents of all buckets

module _ (bits minute : ℕ) (load : List Entry) (load_now : time_of load ≡ minute) (outside : (q : InfoHash) → is_member same_hash torrents q ≡ false → known load q minute ≡ None) (w : Row → ℕ) where
  -- a number of a torrent, if it is known
  abbrev pub value_of : InfoHash → ℕ
  value_of h = if is_known load h minute then w (row_of load h) else 0

  load_sum : sum_by w (rows_of load) ≡ sum_by value_of torrents
  load_sum =
      ap (sum_by w) (rows_of_torrents load minute load_now (λ q never. unknown_not minute load q (outside q never)))
      ∙ sum_filtered w (row_of load) (λ h. is_known load h minute) torrents

  module _ (bucket : ℕ) (past : List Entry) (is_part : IsPart bits bucket minute past load) (now : time_of past ≡ minute) where
    outside_here : (q : InfoHash) → is_member same_hash torrents q ≡ false → is_known past q minute ≡ false
    outside_here q never =
        by_test (bucket_in bits q == bucket) (is_known past q minute ≡ false)
        (λ mine. known_alike minute q past load (is_part.alike q (let e : bucket_in bits q ≡ bucket = grind (arith, nat_tests) in e)) ∙ unknown_not minute load q (outside q never))
        (λ other. unknown_not minute past q (is_part.elsewhere q (let e : bucket_in bits q ≢ bucket = grind (arith, nat_tests) in e)))

    each_value : (h : InfoHash) → (if is_known past h minute then w (row_of past h) else 0) ≡ (if bucket_in bits h == bucket then value_of h else 0)
    each_value h =
        by_test (bucket_in bits h == bucket) ((if is_known past h minute then w (row_of past h) else 0) ≡ (if bucket_in bits h == bucket then value_of h else 0))
        (λ mine.
        let ab = is_part.alike h (let e : bucket_in bits h ≡ bucket = grind (arith, nat_tests) in e) in
        let counts = counts_alike minute h past load ab now load_now in
        (λ k. if known_alike minute h past load ab k then w (let row : Row = record { hash = h; counts = counts k } in row) else 0)
        ∙ ap (λ b. if b then value_of h else 0) (sym mine))
        (λ other.
        ap (λ b. if b then w (row_of past h) else 0) (unknown_not minute past h (is_part.elsewhere h (let e : bucket_in bits h ≢ bucket = grind (arith, nat_tests) in e)))
        ∙ ap (λ b. if b then value_of h else 0) (sym other))

    each_of : (hs : List InfoHash) → AllByRecursion (λ h. (if is_known past h minute then w (row_of past h) else 0) ≡ (if bucket_in bits h == bucket then value_of h else 0)) hs
    each_of [] = tt
    each_of (h ∷ hs) = (each_value h, each_of hs)

    bucket_sum : sum_by w (rows_of past) ≡ part (bucket_in bits) value_of torrents bucket
    bucket_sum =
        ap (sum_by w) (rows_of_torrents past minute now outside_here)
        ∙ sum_filtered w (row_of past) (λ h. is_known past h minute) torrents
        ∙ sum_same _ _ torrents (each_of torrents)

  buckets_sum : (hs : List (List Entry)) → AllByRecursion (λ h. bucket_in bits h < length hs) torrents → ((i : ℕ) → i < length hs → IsPart bits i minute (reverse (get_or hs i [])) load × (time_of (reverse (get_or hs i [])) ≡ minute)) →
      sum_by (λ h. sum_by w (rows_of (reverse h))) hs ≡ sum_by w (rows_of load)
  buckets_sum hs few parts =
      spread_all (bucket_in bits) value_of torrents (λ h. sum_by w (rows_of (reverse h))) [] hs few (λ i below. let is = parts i below in bucket_sum i (reverse (get_or hs i [])) is.0 is.1)
      ∙ sym load_sum

-- the totals of all buckets are those of the whole load
pub totals_together : (bits minute : ℕ) (load : List Entry) (hs : List (List Entry)) → time_of load ≡ minute → ((q : InfoHash) → is_member same_hash torrents q ≡ false → known load q minute ≡ None) →
    AllByRecursion (λ h. bucket_in bits h < length hs) torrents → ((i : ℕ) → i < length hs → IsPart bits i minute (reverse (get_or hs i [])) load × (time_of (reverse (get_or hs i [])) ≡ minute)) → totals_in hs ≡ totals_of (rows_of load)
totals_together bits minute load hs load_now outside few parts =
    let sum_of = λ (w : Row → ℕ). buckets_sum bits minute load load_now outside w hs few parts in
    let ones : sum_by (λ h. length (rows_of (reverse h))) hs ≡ length (rows_of load) =
    sum_same _ _ hs (all_ones hs) ∙ sum_of (λ row. 1) ∙ sym (sum_ones (rows_of load)) in
    λ k. record {
      torrents = ones k;
      complete = sum_of (λ row. row.counts.complete) k;
      downloaded = sum_of (λ row. row.counts.downloaded) k;
      incomplete = sum_of (λ row. row.counts.incomplete) k;
    }
  where
    all_ones : (ys : List (List Entry)) → AllByRecursion (λ h. length (rows_of (reverse h)) ≡ sum_by (λ row. 1) (rows_of (reverse h))) ys
    all_ones [] = tt
    all_ones (y ∷ ys) = (sum_ones (rows_of (reverse y)), all_ones ys)
