-- The rows of the index's entries, in their order.
use Rattle.std.proofs.Common.{◌≡◌, ℕ, ◌+◌, Bool, true, false, ◌||◌, cond, List, [], ◌∷◌, ◌++◌, Option, Some, None, Ordering, refl, sym, ◌∙◌, ap, subst, length, map}
use Rattle.std.specs.BTreeMap as tree
use Rattle.std.specs.List.{AllByRecursion, AllZip, slice_get, sum_by}
use Rattle.std.specs.List.Sorted.{IsStrictlySortedBy}
use Rattle.std.specs.Map.{lookup}
use Rattle.std.specs.Option.{MatchOption, is_some, option_map}
use Rattle.std.specs.Ordering.{is_eq}
use Rattle.std.specs.Set.{is_member}
use Rattle.std.specs.declared.cmp.Ordering.TheVariants.{Less}
use Rattle.std.proofs.lemmas.Map.Text.{is_eq-slice_cmp}
use Rattle.std.proofs.lemmas.Option.{get_or_from_slice_get, same_Some, slice_get-map, slice_get_within}
use Rattle.ot_base.specs.Order.{hash_cmp}
use Rattle.ot_base.specs.Same.{same_hash}
use Rattle.ot_base.specs.declared.hash.InfoHash.{InfoHash}
use Rattle.ot_base.specs.declared.peer.Counts.{Counts}
use Rattle.ot_base.specs.declared.peer.Limits.{Limits}
use Rattle.ot_base.specs.declared.peer.Row.{Row}
use Rattle.age_ring.specs.Ring.{items_of}
use Rattle.tracker_model.specs.Shape.{Torrent, torrent_of}
use Rattle.swarm.specs.Peers.{other_one, seed_one}
use Rattle.swarm.proofs.PlaceLemmas.{find_nowhere, find_placed}
use Rattle.bucket.specs.Calls.{AreRowsOf, HasTorrent}
use Rattle.bucket.specs.Index.{IsIndexed}
use Rattle.bucket.specs.Stored.{torrent_by}
use Rattle.bucket.specs.Table.{torrents_by}
use Rattle.bucket.specs.Torrents.{new_torrent, place_of, tally}
use Rattle.bucket.specs.declared.stored.Stored.{Stored}
use Rattle.bucket.proofs.FoundLemmas.{found_at, is_of, place_indexed}
use Rattle.bucket.proofs.PlaceLemmas.{stands_at, tally_by}
use Rattle.bucket.proofs.SoundLemmas.{table_by}
use Rattle.bucket.proofs.TableLemmas.{hashes_by}

-- what the counts of what is stored are
abbrev pub counts_by : Stored → Counts
counts_by stored = record {
  complete = sum_by seed_one stored.swarm.fours + sum_by seed_one stored.swarm.sixes;
  downloaded = stored.downloaded;
  incomplete = sum_by other_one stored.swarm.fours + sum_by other_one stored.swarm.sixes;
}

-- a row of an entry of the index has the counts of what is stored at its place
pub record IsRowOf (look : InfoHash → Option ℕ) (list : List Stored) (entry : InfoHash × ℕ) (row : Row)
    : Type 0 where
  pub hash : row.hash ≡ entry.0
  pub known : look entry.0 ≡ Some entry.1
  pub stored : Stored
  pub stands : slice_get list entry.1 ≡ Some stored
  pub counted : row.counts ≡ counts_by stored

pub rows_more : (look : InfoHash → Option ℕ) (list : List Stored) (entries : List (InfoHash × ℕ)) (rows : List Row) (entry : InfoHash × ℕ) (row : Row) → AllZip (IsRowOf look list) entries rows → IsRowOf look list entry row → AllZip (IsRowOf look list) (entries ++ entry ∷ []) (rows ++ row ∷ [])
rows_more look list [] [] entry row all it = (it, tt)
rows_more look list [] (r ∷ rows) entry row all it = absurd all
rows_more look list (e ∷ entries) [] entry row all it = absurd all
rows_more look list (e ∷ entries) (r ∷ rows) entry row all it = (all.0, rows_more look list entries rows entry row all.1 it)

row_hashes : (look : InfoHash → Option ℕ) (list : List Stored) (entries : List (InfoHash × ℕ)) (rows : List Row) → AllZip (IsRowOf look list) entries rows → map (λ e. e.0) entries ≡ map (λ row. row.hash) rows
row_hashes look list [] [] all = refl
row_hashes look list [] (r ∷ rows) all = absurd all
row_hashes look list (e ∷ entries) [] all = absurd all
row_hashes look list (e ∷ entries) (r ∷ rows) all = λ i. sym all.0.hash i ∷ row_hashes look list entries rows all.1 i

-- orders that agree sort the same
all_less : (cmp : InfoHash → InfoHash → Ordering) → ((a b : InfoHash) → cmp a b ≡ hash_cmp a b) → (h : InfoHash) (hashes : List InfoHash) → AllByRecursion (λ y. cmp h y ≡ Less) hashes → AllByRecursion (λ y. hash_cmp h y ≡ Less) hashes
all_less cmp agree h [] all = tt
all_less cmp agree h (x ∷ hashes) all = (sym (agree h x) ∙ all.0, all_less cmp agree h hashes all.1)

pub sorted_like : (cmp : InfoHash → InfoHash → Ordering) → ((a b : InfoHash) → cmp a b ≡ hash_cmp a b) → (hashes : List InfoHash) → IsStrictlySortedBy cmp hashes → IsStrictlySortedBy hash_cmp hashes
unfolding IsStrictlySortedBy
sorted_like cmp agree [] sorted = tt
sorted_like cmp agree (h ∷ hashes) sorted = (all_less cmp agree h hashes sorted.0, sorted_like cmp agree hashes sorted.1)

-- a hash is among those of the entries where they tell its place
member_by : (h : InfoHash) (entries : List (InfoHash × ℕ)) → is_member same_hash (map (λ e. e.0) entries) h ≡ is_some (lookup (λ k. is_eq (hash_cmp h k)) entries)
member_by h [] = refl
member_by h (e ∷ entries) =
    (λ i. sym (is_eq-slice_cmp h.0 e.0.0) i || member_by h entries i)
    ∙ by_test (is_eq (hash_cmp h e.0)) e.1 (lookup (λ k. is_eq (hash_cmp h k)) entries)
  where
    by_test : (b : Bool) (place : ℕ) (o : Option ℕ) → (b || is_some o) ≡ is_some (cond b (Some place) o)
    by_test true place o = refl
    by_test false place o = refl

stored_by : (torrents : List Torrent) (h : InfoHash) → is_some (torrent_of torrents h) ≡ is_some (place_of h torrents)
stored_by torrents h = by_place torrents h (place_of h torrents) refl
  where
    by_place : (torrents : List Torrent) (h : InfoHash) (o : Option ℕ) → place_of h torrents ≡ o → is_some (torrent_of torrents h) ≡ is_some (place_of h torrents)
    by_place torrents h None none = ap is_some (find_nowhere (is_of h) torrents none) ∙ sym (ap is_some none)
    by_place torrents h (Some i) at = ap is_some (find_placed (is_of h) torrents i (new_torrent h) at) ∙ sym (ap is_some at)

row_counted : (limits : Limits) (time : ℕ) (pairs : List (InfoHash × ℕ)) (list : List Stored) (look : InfoHash → Option ℕ) (entry : InfoHash × ℕ) (row : Row) → length list ≡ length pairs → IsIndexed (items_of pairs) look → IsRowOf look list entry row
    → HasTorrent (table_by limits time pairs list) row.hash (λ t. row.counts ≡ tally t)
row_counted limits time pairs list look entry row as_many it is_row =
    let place = entry.1 in
    let stored = is_row.stored in
    let torrents = torrents_by pairs list in
    let stands = stands_at pairs list place stored as_many (slice_get_within list place stored is_row.stands) (sym (get_or_from_slice_get list place stored stored is_row.stands)) in
    let pair = stands.pair in
    let is : pair.0 ≡ entry.0 = same_Some pair.0 entry.0 (sym (slice_get-map (λ (p : InfoHash × ℕ). p.0) pairs place ∙ ap (λ o. option_map (λ (p : InfoHash × ℕ). p.0) o) stands.has_pair) ∙ it.there entry.0 place is_row.known) in
    let P : List InfoHash → Type 0 = λ l. IsIndexed l look in
    let found : torrent_of torrents row.hash ≡ Some (torrent_by pair stored) = found_at torrents look row.hash place (torrent_by pair stored) (subst P (sym (hashes_by pairs list as_many)) it) stands.has_torrent (is_row.hash ∙ sym is) in
    let Q : Option Torrent → Type 0 = λ o. MatchOption o ⊥ (λ t. row.counts ≡ tally t) in
    subst Q (sym found) (tally_by pair stored row.counts is_row.counted)

rows_counted : (limits : Limits) (time : ℕ) (pairs : List (InfoHash × ℕ)) (list : List Stored) (look : InfoHash → Option ℕ) (entries : List (InfoHash × ℕ)) (rows : List Row) → length list ≡ length pairs → IsIndexed (items_of pairs) look → AllZip (IsRowOf look list) entries rows
    → AllByRecursion (λ row. HasTorrent (table_by limits time pairs list) row.hash (λ t. row.counts ≡ tally t)) rows
rows_counted limits time pairs list look [] [] as_many it all = tt
rows_counted limits time pairs list look [] (r ∷ rows) as_many it all = absurd all
rows_counted limits time pairs list look (e ∷ entries) [] as_many it all = absurd all
rows_counted limits time pairs list look (e ∷ entries) (r ∷ rows) as_many it all =
    (row_counted limits time pairs list look e r as_many it all.0, rows_counted limits time pairs list look entries rows as_many it all.1)

pub rows_of : (limits : Limits) (time : ℕ) (pairs : List (InfoHash × ℕ)) (list : List Stored) (places : tree.BTreeMap InfoHash ℕ) (rows : List Row) → length list ≡ length pairs → IsIndexed (items_of pairs) (tree.get hash_cmp places)
    → IsStrictlySortedBy hash_cmp (tree.keys places) → AllZip (IsRowOf (tree.get hash_cmp places) list) places.entries rows → AreRowsOf (table_by limits time pairs list) rows
rows_of limits time pairs list places rows as_many it sorted all =
    let torrents = torrents_by pairs list in
    let look = tree.get hash_cmp places in
    let hashes : map (λ e. e.0) places.entries ≡ map (λ row. row.hash) rows = row_hashes look list places.entries rows all in
    let P : List InfoHash → Type 0 = λ l. IsIndexed l look in
    let S : List InfoHash → Type 0 = λ l. IsStrictlySortedBy hash_cmp l in
    record {
      sorted = subst S hashes sorted;
      stored = λ h.
          ap (λ l. is_member same_hash l h) (sym hashes) ∙ member_by h places.entries
          ∙ ap is_some (sym (place_indexed torrents look h (subst P (sym (hashes_by pairs list as_many)) it))) ∙ sym (stored_by torrents h);
      counted = rows_counted limits time pairs list look places.entries rows as_many it all;
    }
