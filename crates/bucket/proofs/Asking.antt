-- Stops, scrapes, scans and cleanings: what they make of the torrents, and that they tell what is
-- right.
use Rattle.std.proofs.Common.{◌≡◌, ℕ, Bool, true, List, [], ◌∷◌, Option, Some, None, refl, sym, ◌∙◌, ap, subst, length, if◌then◌else◌}
use Rattle.std.specs.List.{AllByRecursion, AllZip, sum_by, swap_remove}
use Rattle.std.specs.Option.{is_some, option_map_or, MatchOption}
use Rattle.std.proofs.Math.ListN.{set}
use Rattle.std.proofs.lemmas.List.Elements.{All-from_recursion, recursion_from_All}
use Rattle.std.proofs.lemmas.List.Quantifiers.{position-Some}
use Rattle.ot_base.specs.Address.{family_of}
use Rattle.ot_base.specs.Same.{same_hash}
use Rattle.ot_base.specs.declared.hash.InfoHash.{InfoHash}
use Rattle.ot_base.specs.declared.address.Endpoint.{Endpoint}
use Rattle.ot_base.specs.declared.peer.Counts.{Counts}
use Rattle.ot_base.specs.declared.peer.Held.{Held}
use Rattle.ot_base.specs.declared.peer.Limits.{Limits}
use Rattle.ot_base.specs.declared.peer.Mark.TheVariants.{Stopped}
use Rattle.ot_base.specs.declared.peer.Row.{Row}
use Rattle.tracker_model.specs.Judged.{AreRows}
use Rattle.tracker_model.specs.Settings.{Settings}
use Rattle.tracker_model.specs.Shape.{Torrent, peers_of, torrent_of, counts_in, is_live_in, live_peers, live_in, known_in}
use Rattle.tracker_model.specs.Stands.{AreTidy, IsTidy}
use Rattle.tracker_model.specs.Steps.{SameAt, Takes}
use Rattle.tracker_model.specs.declared.answer.Answer.TheVariants.{Told, Stats, Rows, Cleaned, Applied, NoMemory}
use Rattle.tracker_model.specs.declared.call.Call.TheVariants.{Stop, Scrape, Scan, Clean, Sync}
use Rattle.age_ring.proofs.Pairs.{All-swap_remove}
use Rattle.swarm.specs.Peers.{is_of, no_peer}
use Rattle.swarm.specs.Peers as peers
use Rattle.swarm.proofs.PlaceLemmas.{find_nowhere}
use Rattle.bucket.specs.Calls.{AreRowsOf, HasTorrent, found_counts, no_counts}
use Rattle.bucket.specs.Table.{Table, IsSound}
use Rattle.bucket.specs.Torrents.{Freshens, Turns, of_family, place_of, tally, without_peer}
use Rattle.bucket.proofs.LivePeers.{filter_all, live_fresh}
use Rattle.bucket.proofs.Judging.{Settles}
use Rattle.bucket.proofs.KeptLemmas.{live_found, hash_after, tidy_before, same_turned, same_freshened, hash_left, takes_left}
use Rattle.bucket.proofs.Looked.{all_found, found_at, found_set, itself, places_kept}
use Rattle.bucket.proofs.Settling.{has_known-stored, known_kept, live_of_family, live_with, table_of}
use Rattle.bucket.proofs.ToldLemmas.{AreLive, counts_none, counts_some, sum_by_same}

-- the torrent of a hash, if it is stored, has live peers alone
abbrev pub IsLivelyAt : ℕ → InfoHash → List Torrent → Type 0
IsLivelyAt now h torrents = (t : Torrent) → torrent_of torrents h ≡ Some t → AreLive now (peers_of t)

some_same : {X : Type 0} (a b : X) → Some a ≡ Some b → a ≡ b
some_same a b e = cc

-- its counts, as they are found
pub counts_found : (limits : Limits) (now : ℕ) (torrents : List Torrent) → IsSound (table_of limits now torrents) → (h : InfoHash) → IsLivelyAt now h torrents →
    found_counts (table_of limits now torrents) h ≡ counts_in now torrents h
counts_found limits now torrents sound h lively = by_found (torrent_of torrents h) refl
  where
    by_found : (o : Option Torrent) → torrent_of torrents h ≡ o → found_counts (table_of limits now torrents) h ≡ counts_in now torrents h
    by_found None found = ap (λ o. option_map_or tally o no_counts) found ∙ sym (counts_none now torrents h found)
    by_found (Some t) found = ap (λ o. option_map_or tally o no_counts) found ∙ sym (counts_some now torrents h t found (known_kept limits now torrents sound h t found) (lively t found))

-- the torrent of a hash is looked up, and its stale peers go
module _ (limits : Limits) (now : ℕ) (h : InfoHash) (kept opened : List Torrent) (sound : IsSound (table_of limits now kept)) (sound_opened : IsSound (table_of limits now opened)) where
  turned_place : (i : ℕ) (turns : Turns i (Freshens now) kept opened) → place_of h opened ≡ Some i → place_of h kept ≡ Some i
  turned_place i turns at =
      sym (places_kept h kept i turns.before turns.after turns.stood turns.turned.hash) ∙ ap (λ l. place_of h l) (sym turns.set) ∙ at

  pub opened_same : (place : Option ℕ) → place ≡ place_of h opened → MatchOption place (table_of limits now opened ≡ table_of limits now kept) (λ i. Turns i (Freshens now) kept opened) → SameAt now kept opened
  opened_same None stands same =
      let e : opened ≡ kept = ap (λ (t : Table). t.torrents) same in
      record { tidy = sound_opened.tidy; peers = λ k d. ap (λ l. live_in now l k d) e; torrents = λ k. ap (λ l. known_in now l k) e }
  opened_same (Some i) stands turns =
      let T : List Torrent → Type 0 = λ l. AreTidy l in
      let S : List Torrent → Type 0 = λ l. SameAt now kept l in
      subst S (sym turns.set) (same_turned now h i kept turns.before turns.after sound.tidy (turned_place i turns (sym stands)) turns.stood turns.turned (subst T turns.set sound_opened.tidy))

  pub opened_lively : (place : Option ℕ) → place ≡ place_of h opened → MatchOption place (table_of limits now opened ≡ table_of limits now kept) (λ i. Turns i (Freshens now) kept opened) → IsLivelyAt now h opened
  opened_lively None stands same t found = absurd (let none : torrent_of opened h ≡ None = find_nowhere (λ u. same_hash h u.hash) opened (sym stands) in let clash : Some t ≡ None = sym found ∙ none in cc)
  opened_lively (Some i) stands turns t found =
      let at = turned_place i turns (sym stands) in
      let hash = hash_after now h i kept turns.before turns.after sound.tidy at turns.stood turns.turned in
      let there : torrent_of opened h ≡ Some turns.after =
      ap (λ l. torrent_of l h) turns.set ∙ found_set h kept i turns.after at hash h ∙ ap (λ b. if b then Some turns.after else torrent_of kept h) (itself h) in
      let tidy = tidy_before now h i kept turns.before turns.after sound.tidy at turns.stood turns.turned in
      let P : Torrent → Type 0 = λ u. AreLive now (peers_of u) in
      subst P (some_same turns.after t (sym there ∙ found)) (recursion_from_All (λ d. is_live_in now d ≡ true) (peers_of turns.after) (live_fresh now turns.before turns.after tidy turns.turned))

-- ---- a stop

left_live : (now : ℕ) (who : Endpoint) (l : List Held) → AreLive now l → AreLive now (peers.without_peer who l)
left_live now who l live = by_place (peers.place_of who l) refl
  where
    by_place : (o : Option ℕ) → peers.place_of who l ≡ o → AreLive now (option_map_or (λ i. swap_remove l i no_peer) o l)
    by_place None none = live
    by_place (Some i) at =
        let P : Held → Type 0 = λ d. is_live_in now d ≡ true in
        recursion_from_All P (swap_remove l i no_peer) (All-swap_remove P l i no_peer (position-Some (is_of who) l i no_peer at).0 (All-from_recursion P l live))

module _ (limits : Limits) (now : ℕ) (h : InfoHash) (who : Endpoint) (opened new : List Torrent) (sound : IsSound (table_of limits now opened)) (sound_new : IsSound (table_of limits now new)) where
  pub leaves_step : (place : Option ℕ) → place ≡ place_of h opened → MatchOption place (table_of limits now new ≡ table_of limits now opened) (λ i. Turns i (λ before after. after ≡ without_peer who before) opened new) → Takes now h who opened new
  leaves_step None stands same =
      let e : new ≡ opened = ap (λ (t : Table). t.torrents) same in
      let none : torrent_of new h ≡ None = ap (λ l. torrent_of l h) e ∙ find_nowhere (λ u. same_hash h u.hash) opened (sym stands) in
      record {
        tidy = sound_new.tidy;
        peer = ap (λ o. live_found now who o) none;
        other_peers = λ k d apart. ap (λ l. live_in now l k d) e;
        torrents = λ k. ap (λ l. known_in now l k) e;
      }
  leaves_step (Some i) stands turns =
      let is : new ≡ set opened i (without_peer who turns.before) = turns.set ∙ ap (λ t. set opened i t) turns.turned in
      let T : List Torrent → Type 0 = λ l. AreTidy l in
      let S : List Torrent → Type 0 = λ l. Takes now h who opened l in
      subst S (sym is) (takes_left now h who i opened turns.before sound.tidy (sym stands) turns.stood (subst T is sound_new.tidy))

  pub leaves_lively : IsLivelyAt now h opened → (place : Option ℕ) → place ≡ place_of h opened → MatchOption place (table_of limits now new ≡ table_of limits now opened) (λ i. Turns i (λ before after. after ≡ without_peer who before) opened new) → IsLivelyAt now h new
  leaves_lively lively None stands same t found = lively t (ap (λ (u : Table). torrent_of u.torrents h) (sym same) ∙ found)
  leaves_lively lively (Some i) stands turns t found =
      let before = turns.before in
      let left = without_peer who before in
      let is : new ≡ set opened i left = turns.set ∙ ap (λ u. set opened i u) turns.turned in
      let there : torrent_of new h ≡ Some left =
      ap (λ l. torrent_of l h) is ∙ found_set h opened i left (sym stands) (hash_left now h who i opened before sound.tidy (sym stands) turns.stood) h ∙ ap (λ b. if b then Some left else torrent_of opened h) (itself h) in
      let live = lively before (found_at (λ u. same_hash h u.hash) opened i before (sym stands) turns.stood) in
      let P : Torrent → Type 0 = λ u. AreLive now (peers_of u) in
      let f = family_of who.addr in
      subst P (some_same left t (sym there ∙ found))
      (live_with now f (peers.without_peer who (of_family f before)) before before refl refl (left_live now who (of_family f before) (live_of_family now f before live)) live)

-- ---- all torrents

pub all_lively : (now : ℕ) (old new : List Torrent) → AllByRecursion IsTidy old → AllZip (Freshens now) old new → AllByRecursion (λ t. AreLive now (peers_of t)) new
all_lively now [] [] tidy zipped = tt
all_lively now [] (a ∷ new) tidy zipped = absurd zipped
all_lively now (b ∷ old) [] tidy zipped = absurd zipped
all_lively now (b ∷ old) (a ∷ new) tidy zipped = (
  recursion_from_All (λ d. is_live_in now d ≡ true) (peers_of a) (live_fresh now b a tidy.0 zipped.0),
  all_lively now old new tidy.1 zipped.1,
)

lively_found : (now : ℕ) (torrents : List Torrent) → AllByRecursion (λ t. AreLive now (peers_of t)) torrents → (h : InfoHash) → IsLivelyAt now h torrents
lively_found now torrents all h t found = all_found (λ t. AreLive now (peers_of t)) torrents h t (All-from_recursion (λ t. AreLive now (peers_of t)) torrents all) found

-- how many peers are stored is how many are live
pub held_live : (now : ℕ) (torrents : List Torrent) → AllByRecursion (λ t. AreLive now (peers_of t)) torrents → sum_by (λ t. length (peers_of t)) torrents ≡ sum_by (λ t. length (live_peers now t)) torrents
held_live now torrents all = sum_by_same (λ t. length (peers_of t)) (λ t. length (live_peers now t)) torrents (each torrents all)
  where
    each : (l : List Torrent) → AllByRecursion (λ t. AreLive now (peers_of t)) l → AllByRecursion (λ t. length (peers_of t) ≡ length (live_peers now t)) l
    each [] all = tt
    each (t ∷ l) all = (ap (λ k. length k) (sym (filter_all (is_live_in now) (peers_of t) all.0)), each l all.1)

-- rows of what is stored are rows of what is known
pub are_rows : (limits : Limits) (now : ℕ) (torrents : List Torrent) → IsSound (table_of limits now torrents) → AllByRecursion (λ t. AreLive now (peers_of t)) torrents → (rows : List Row) → AreRowsOf (table_of limits now torrents) rows → AreRows now torrents rows
are_rows limits now torrents sound all rows are = record {
  sorted = are.sorted;
  known = λ h. are.stored h ∙ sym (has_known-stored limits now torrents sound h);
  counted = each rows are.counted;
}
  where
    one : (row : Row) → (o : Option Torrent) → torrent_of torrents row.hash ≡ o → MatchOption o ⊥ (λ t. row.counts ≡ tally t) → row.counts ≡ counts_in now torrents row.hash
    one row None found counted = absurd counted
    one row (Some t) found counted = counted ∙ sym (counts_some now torrents row.hash t found (known_kept limits now torrents sound row.hash t found) (lively_found now torrents all row.hash t found))

    each : (l : List Row) → AllByRecursion (λ row. HasTorrent (table_of limits now torrents) row.hash (λ t. row.counts ≡ tally t)) l → AllByRecursion (λ row. row.counts ≡ counts_in now torrents row.hash) l
    each [] all = tt
    each (row ∷ l) all = (one row (torrent_of torrents row.hash) refl all.0, each l all.1)

-- ---- what settles

module _ (g : Settings) (now : ℕ) (kept new : List Torrent) (sound : IsSound (table_of g.limits now kept)) (sound_new : IsSound (table_of g.limits now new)) where
  -- an endpoint that left once stale peers had gone
  takes_kept : (h : InfoHash) (who : Endpoint) (opened : List Torrent) → SameAt now kept opened → Takes now h who opened new → Takes now h who kept new
  takes_kept h who opened same takes = record {
    tidy = takes.tidy;
    peer = takes.peer;
    other_peers = λ k d apart. takes.other_peers k d apart ∙ same.peers k d;
    torrents = λ k. takes.torrents k ∙ same.torrents k;
  }

  pub stop_settles : (h : InfoHash) (who : Endpoint) (opened : List Torrent) → SameAt now kept opened → Takes now h who opened new → IsLivelyAt now h new →
      (counts : Counts) → counts ≡ found_counts (table_of g.limits now new) h → Settles g now (Stop h who) (Told counts []) kept new
  stop_settles h who opened same takes lively counts counted = record {
    right = ap (λ c. Told c []) (counted ∙ counts_found g.limits now new sound_new h lively);
    step = takes_kept h who opened same takes;
  }

  -- there is no memory for a stop's note
  pub stop_wants : (h : InfoHash) (who : Endpoint) → g.sync ≡ true → Settles g now (Stop h who) NoMemory kept kept
  stop_wants h who on = record { right = on; step = record { tidy = sound.tidy; peers = λ k d. refl; torrents = λ k. refl } }

  -- another node says that an endpoint has stopped
  pub stopped_settles : (h : InfoHash) (who : Endpoint) (opened : List Torrent) → SameAt now kept opened → Takes now h who opened new → Settles g now (Sync h who Stopped) Applied kept new
  stopped_settles h who opened same takes = record { right = refl; step = takes_kept h who opened same takes }

  pub scrape_settles : (h : InfoHash) → SameAt now kept new → IsLivelyAt now h new → (counts : Counts) (known : Bool) → counts ≡ found_counts (table_of g.limits now new) h → known ≡ is_some (torrent_of new h) →
      Settles g now (Scrape h) (Stats counts known) kept new
  scrape_settles h same lively counts known counted stored = record {
    right = ap (λ c. Stats c known) (counted ∙ counts_found g.limits now new sound_new h lively) ∙ ap (λ b. Stats (counts_in now new h) b) (stored ∙ sym (has_known-stored g.limits now new sound_new h));
    step = same;
  }

  module _ (freshens : AllZip (Freshens now) kept new) where
    same : SameAt now kept new
    same = same_freshened now kept new sound.tidy sound_new.tidy freshens

    pub lively : AllByRecursion (λ t. AreLive now (peers_of t)) new
    lively = all_lively now kept new sound.tidy.each freshens

    pub clean_settles : (held : ℕ) → held ≡ sum_by (λ t. length (peers_of t)) new → Settles g now Clean (Cleaned held) kept new
    clean_settles held counted = record { right = ap (λ n. Cleaned n) (counted ∙ held_live now new lively); step = same }

    pub scan_settles : (rows : List Row) → AreRowsOf (table_of g.limits now new) rows → Settles g now Scan (Rows rows) kept new
    scan_settles rows are = record { right = are_rows g.limits now new sound_new lively rows are; step = same }

    pub scan_wants : Settles g now Scan NoMemory kept new
    scan_wants = record { right = refl; step = same }
