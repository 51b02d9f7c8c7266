-- A call's answer is right by what was left of the torrents before it, and makes the call's step
-- from there.
use Rattle.std.proofs.Common.{◌≡◌, ℕ, ◌-◌, ◌≤◌, Bool, true, false, not, ◌&&◌, ◌||◌, ◌==◌, List, [], ◌∷◌, ◌++◌, Option, Some, None, Result, Ok, Err, MatchResult, refl, sym, ◌∙◌, ap, subst, length, nat_lt, if◌then◌else◌}
use Rattle.std.specs.Bool.{MatchBool}
use Rattle.std.specs.List.{filter, slice_get}
use Rattle.std.specs.Option.{is_some, is_none, option_map_or, MatchOption}
use Rattle.std.proofs.Math.ListN.{set}
use Rattle.std.proofs.lemmas.List.Elements.{All-set, All-push, All-from_recursion, recursion_from_All}
use Rattle.ot_base.specs.Address.{family_of}
use Rattle.ot_base.specs.Same.{same_hash}
use Rattle.ot_base.specs.declared.hash.InfoHash.{InfoHash}
use Rattle.ot_base.specs.declared.address.Endpoint.{Endpoint}
use Rattle.ot_base.specs.declared.address.Family.{Family}
use Rattle.ot_base.specs.declared.address.Family.TheVariants.{Four, Six}
use Rattle.ot_base.specs.declared.peer.Counts.{Counts}
use Rattle.ot_base.specs.declared.peer.Held.{Held}
use Rattle.ot_base.specs.declared.peer.Limits.{Limits}
use Rattle.tracker_model.specs.Judged.{has_live, has_known, meets_full_swarm, meets_full_bucket, could_want, IsDrawn}
use Rattle.tracker_model.specs.Settings.{Settings}
use Rattle.tracker_model.specs.Shape.{Torrent, peers_of, held_of, torrent_of, live_in, known_in, count_in, is_live_in, is_known_in, known_torrents, downloads_in}
use Rattle.tracker_model.specs.Stands.{AreTidy, IsTidy}
use Rattle.tracker_model.specs.Steps.{SameAt, Puts}
use Rattle.tracker_model.specs.declared.call.Call.{Call}
use Rattle.tracker_model.specs.declared.call.Call.TheVariants.{Sync}
use Rattle.tracker_model.specs.Calls.{joins}
use Rattle.ot_base.specs.declared.peer.Mark.TheVariants.{Leecher, Seed}
use Rattle.tracker_model.specs.declared.limits.TheConstants.{TORRENT_MINUTES}
use Rattle.tracker_model.proofs.Cases.{by_test, and_false, and_true}
use Rattle.tracker_model.proofs.KnownLemmas.{zero_recent}
use Rattle.tracker_model.proofs.LiveLemmas.{zero_live}
use Rattle.swarm.specs.Peers.{choice_of, put_peer}
use Rattle.swarm.specs.Peers as peers
use Rattle.swarm.proofs.PlaceLemmas.{find_nowhere}
use Rattle.bucket.specs.Answers.{announced, applied, error_answer}
use Rattle.bucket.specs.Calls.{Adds, Joins, Refused, announce_of, joining_by}
use Rattle.bucket.specs.Table.{Table, IsSound}
use Rattle.bucket.specs.Torrents.{Freshens, new_torrent, of_family, place_of, tally, with_family, with_peer}
use Rattle.bucket.specs.declared.joining.Joining.{Joining}
use Rattle.bucket.specs.declared.joining.JoinError.{JoinError}
use Rattle.bucket.specs.declared.joining.JoinError.TheVariants.{SwarmFull as SwarmIsFull, BucketFull as BucketIsFull, NoMemory as MemoryIsWanted}
use Rattle.bucket.proofs.Families.{AreInFamilies, held_of-family}
use Rattle.bucket.proofs.LivePeers.{filter_all, fresh_families, held_fresh, is_live_in-age, live_fresh, size_fresh}
use Rattle.bucket.proofs.Judging.{Settles}
use Rattle.bucket.proofs.KeptLemmas.{live_found, known_found, standing, tidy_found, found_before, hash_after, tidy_before, same_turned, hash_joined, touch_joined, puts_joined}
use Rattle.bucket.proofs.Looked.{all_found, flipped, found_set, found_push, itself}
use Rattle.bucket.proofs.ToldLemmas.{AreLive, counts_some, is_drawn, live_front, live_back}

abbrev pub table_of : Limits → ℕ → List Torrent → Table
table_of limits time torrents = record { limits = limits; time = time; torrents = torrents }

-- ---- what holds of a table

module _ (limits : Limits) (now : ℕ) (kept : List Torrent) (sound : IsSound (table_of limits now kept)) where
  pub known_kept : (h : InfoHash) (t : Torrent) → torrent_of kept h ≡ Some t → is_known_in now t ≡ true
  known_kept h t found = all_found (λ u. is_known_in now u ≡ true) kept h t sound.known found

  pub has_known-stored : (h : InfoHash) → has_known now kept h ≡ is_some (torrent_of kept h)
  has_known-stored h = by_found (torrent_of kept h) refl
    where
      by_found : (o : Option Torrent) → torrent_of kept h ≡ o → has_known now kept h ≡ is_some (torrent_of kept h)
      by_found None found = ap (λ o. is_some (known_found now o)) found ∙ sym (ap (λ o. is_some o) found)
      by_found (Some t) found =
          ap (λ o. is_some (known_found now o)) found ∙ ap (λ b. is_some (if b then Some (standing t) else None)) (known_kept h t found)
          ∙ sym (ap (λ o. is_some o) found)

  pub all_known : length (known_torrents now kept) ≡ length kept
  all_known = ap (λ l. length l) (filter_all (is_known_in now) kept (recursion_from_All (λ t. is_known_in now t ≡ true) kept sound.known))

-- ---- choices of facts by tests

when_true : (b : Bool) (P Q : Type 0) → b ≡ true → P → MatchBool b P Q
when_true b P Q e p = let M : Bool → Type 0 = λ c. MatchBool c P Q in subst M (sym e) p

when_false : (b : Bool) (P Q : Type 0) → b ≡ false → Q → MatchBool b P Q
when_false b P Q e q = let M : Bool → Type 0 = λ c. MatchBool c P Q in subst M (sym e) q

-- ---- an endpoint that takes part is live in its torrent

put_live : (now : ℕ) (held : Held) (l : List Held) → is_live_in now held ≡ true → AreLive now l → AreLive now (put_peer held l)
put_live now held l here live =
    let P : Held → Type 0 = λ h. is_live_in now h ≡ true in
    let all = All-from_recursion P l live in
    elim (peers.place_of held.who l) as (λ o. AreLive now (option_map_or (λ i. set l i held) o (l ++ held ∷ []))) [
      | None ↦ recursion_from_All P (l ++ held ∷ []) (All-push P l held all here)
      | Some i ↦ recursion_from_All P (set l i held) (All-set P l i held here all)
    ]

live_both : (now : ℕ) (xs ys : List Held) → AreLive now xs → AreLive now ys → AreLive now (xs ++ ys)
live_both now [] ys front back = back
live_both now (x ∷ xs) ys front back = (front.0, live_both now xs ys front.1 back)

pub live_with : (now : ℕ) (f : Family) (l : List Held) (t u : Torrent) → u.fours ≡ t.fours → u.sixes ≡ t.sixes → AreLive now l → AreLive now (peers_of t) → AreLive now (peers_of (with_family f l u))
live_with now Four l t u fours sixes own live = live_both now l u.sixes own (let P : List Held → Type 0 = λ k. AreLive now k in subst P (sym sixes) (live_back now t.fours t.sixes live))
live_with now Six l t u fours sixes own live = live_both now u.fours l (let P : List Held → Type 0 = λ k. AreLive now k in subst P (sym fours) (live_front now t.fours t.sixes live)) own

pub live_of_family : (now : ℕ) (f : Family) (t : Torrent) → AreLive now (peers_of t) → AreLive now (of_family f t)
live_of_family now Four t live = live_front now t.fours t.sixes live
live_of_family now Six t live = live_back now t.fours t.sixes live

live_joined : (now : ℕ) (j : Joining) (t : Torrent) → AreLive now (peers_of t) → AreLive now (peers_of (with_peer now j t))
live_joined now j t live =
    let f = family_of j.who.addr in
    let held : Held = record { who = j.who; seed = j.seed; stamp = record { 0 = now } } in
    live_with now f (put_peer held (of_family f t)) t _ refl refl
    (put_live now held (of_family f t) (is_live_in-age now held ∙ zero_live now) (live_of_family now f t live)) live

-- ---- an endpoint that would take part

-- what it makes of the torrents that takes part
pub record TookPart (g : Settings) (now : ℕ) (j : Joining) (kept new : List Torrent) : Type 0 where
  pub torrent : Torrent
  pub found : torrent_of new j.hash ≡ Some torrent
  pub recent : is_known_in now torrent ≡ true
  pub lively : AreLive now (peers_of torrent)
  pub puts : Puts now j.hash j.who j.seed j.completed kept new
  pub room : meets_full_swarm g now kept (announce_of j 0) ≡ false
  pub space : meets_full_bucket g now kept (announce_of j 0) ≡ false

-- what it meets that is refused, where W is what memory may be wanted for
abbrev pub IsRefused : Settings → ℕ → Joining → (kept new : List Torrent) → Type 0 → JoinError → Type 0
IsRefused g now j kept new W SwarmIsFull = SameAt now kept new × (meets_full_swarm g now kept (announce_of j 0) ≡ true)
IsRefused g now j kept new W BucketIsFull = SameAt now kept new × (meets_full_swarm g now kept (announce_of j 0) ≡ false) × (meets_full_bucket g now kept (announce_of j 0) ≡ true)
IsRefused g now j kept new W MemoryIsWanted = SameAt now kept new × (meets_full_swarm g now kept (announce_of j 0) ≡ false) × (meets_full_bucket g now kept (announce_of j 0) ≡ false) × W

-- it isn't live
abbrev pub IsNew : ℕ → Joining → List Torrent → Type 0
IsNew now j kept = not (has_live now kept j.hash j.who) ≡ true

-- one or the other: only for a new endpoint memory may be wanted
abbrev pub IsOutcome : {A : Type 0} → Settings → ℕ → Joining → (kept new : List Torrent) → Result A JoinError → Type 0
IsOutcome g now j kept new result = MatchResult result (λ done. TookPart g now j kept new) (λ error. IsRefused g now j kept new (IsNew now j kept) error)

module _ (g : Settings) (now : ℕ) (j : Joining) (kept new : List Torrent) (sound : IsSound (table_of g.limits now kept)) (sound_new : IsSound (table_of g.limits now new)) where
  took_part : (t : Torrent) → AreInFamilies t → AreLive now (peers_of t) → torrent_of new j.hash ≡ Some (with_peer now j t) →
      ((k : InfoHash) → same_hash j.hash k ≡ false → torrent_of new k ≡ torrent_of kept k) →
      ((e : Endpoint) → live_in now kept j.hash e ≡ held_of (peers_of t) e) → downloads_in (known_in now kept j.hash) ≡ t.downloaded →
      meets_full_swarm g now kept (announce_of j 0) ≡ false → meets_full_bucket g now kept (announce_of j 0) ≡ false → TookPart g now j kept new
  took_part t it live_t found others live count room space = record {
    torrent = with_peer now j t;
    found = found;
    recent = ap (λ n. nat_lt (now - n) TORRENT_MINUTES) (touch_joined now j t) ∙ zero_recent now;
    lively = live_joined now j t live_t;
    puts = puts_joined now j t it kept new sound_new.tidy found others live count;
    room = room;
    space = space;
  }

  -- the torrent isn't known
  module _ (none : place_of j.hash kept ≡ None) where
    nowhere : torrent_of kept j.hash ≡ None
    nowhere = find_nowhere (λ u. same_hash j.hash u.hash) kept none

    unknown : has_known now kept j.hash ≡ false
    unknown = ap (λ o. is_some (known_found now o)) nowhere

    room_unknown : meets_full_swarm g now kept (announce_of j 0) ≡ false
    room_unknown =
        ap (λ b. not (has_live now kept j.hash j.who) && b && (count_in is_some now kept j.hash == g.limits.peers)) unknown
        ∙ ap (λ b. b && (count_in is_some now kept j.hash == g.limits.peers)) (and_false (not (has_live now kept j.hash j.who)))

    space_unknown : meets_full_bucket g now kept (announce_of j 0) ≡ (length kept == g.limits.torrents)
    space_unknown =
        ap (λ b. not b && (length (known_torrents now kept) == g.limits.torrents)) unknown
        ∙ ap (λ n. n == g.limits.torrents) (all_known g.limits now kept sound)

    refused_new : (W : Type 0) → W → (error : JoinError) → table_of g.limits now new ≡ table_of g.limits now kept → error ≡ (if length kept == g.limits.torrents then BucketIsFull else MemoryIsWanted) →
        IsRefused g now j kept new W error
    refused_new W wants error stays meets =
        let same : SameAt now kept new = record {
          tidy = sound_new.tidy;
          peers = λ h e. ap (λ l. live_in now l h e) (ap (λ (t : Table). t.torrents) stays);
          torrents = λ h. ap (λ l. known_in now l h) (ap (λ (t : Table). t.torrents) stays);
        } in
        let S : JoinError → Type 0 = λ e. IsRefused g now j kept new W e in
        let F : Bool → Type 0 = λ b. S (if b then BucketIsFull else MemoryIsWanted) in
        subst S (sym meets) (by_test (length kept == g.limits.torrents) (F (length kept == g.limits.torrents))
        (λ full. subst F (sym full) (same, room_unknown, space_unknown ∙ full))
        (λ space. subst F (sym space) (same, room_unknown, space_unknown ∙ space, wants)))

    outcome_new : {A : Type 0} (result : Result A JoinError) → Adds j (table_of g.limits now kept) (table_of g.limits now new) result → IsOutcome g now j kept new result
    outcome_new (Ok done) adds =
        let t : Torrent = new_torrent j.hash in
        let after : Torrent = with_peer now j t in
        let hash : after.hash ≡ j.hash = hash_joined now j t in
        let looked = λ (k : InfoHash). (let p : torrent_of new k ≡ (if same_hash k j.hash then Some after else torrent_of kept k) = ap (λ l. torrent_of l k) adds.1 ∙ found_push j.hash kept after none hash k in p) in
        took_part t (record { fours = refl; sixes = refl }) tt
        (looked j.hash ∙ ap (λ b. if b then Some after else torrent_of kept j.hash) (itself j.hash))
        (λ k apart. looked k ∙ ap (λ b. if b then Some after else torrent_of kept k) (flipped j.hash k apart))
        (λ e. ap (λ o. live_found now e o) nowhere)
        (ap (λ o. downloads_in (known_found now o)) nowhere)
        room_unknown (space_unknown ∙ adds.0)
    outcome_new (Err error) adds = refused_new (IsNew now j kept) (ap (λ o. not (is_some (live_found now j.who o))) nowhere) error adds.0 adds.1

  -- the torrent is known
  module _ (i : ℕ) (at : place_of j.hash kept ≡ Some i) (before torrent : Torrent) (stood : slice_get kept i ≡ Some before) (freshens : Freshens now before torrent) where
    found : torrent_of kept j.hash ≡ Some before
    found = found_before now j.hash i kept before torrent sound.tidy at stood freshens

    hash : torrent.hash ≡ j.hash
    hash = hash_after now j.hash i kept before torrent sound.tidy at stood freshens

    tidy : IsTidy before
    tidy = tidy_before now j.hash i kept before torrent sound.tidy at stood freshens

    families : AreInFamilies torrent
    families = fresh_families now before torrent tidy freshens

    known : is_known_in now before ≡ true
    known = known_kept g.limits now kept sound j.hash before found

    has_known_now : has_known now kept j.hash ≡ true
    has_known_now = has_known-stored g.limits now kept sound j.hash ∙ ap (λ o. is_some o) found

    live-fresh : (e : Endpoint) → live_in now kept j.hash e ≡ held_of (peers_of torrent) e
    live-fresh e = ap (λ o. live_found now e o) found ∙ sym (held_fresh now before torrent tidy freshens e)

    abbrev is_new : Bool
    is_new = is_none (held_of (of_family (family_of j.who.addr) torrent) j.who)

    abbrev is_full : Bool
    is_full = length (peers_of torrent) == g.limits.peers

    is_new-fresh : not (has_live now kept j.hash j.who) ≡ is_new
    is_new-fresh = ap (λ o. not (is_some o)) (live-fresh j.who ∙ held_of-family (family_of j.who.addr) torrent j.who families refl)

    size-fresh : count_in is_some now kept j.hash ≡ length (peers_of torrent)
    size-fresh = ap (λ o. length (filter (is_live_in now) (option_map_or peers_of o []))) found ∙ size_fresh now before torrent tidy freshens

    space_known : meets_full_bucket g now kept (announce_of j 0) ≡ false
    space_known = ap (λ b. not b && (length (known_torrents now kept) == g.limits.torrents)) has_known_now

    full_known : meets_full_swarm g now kept (announce_of j 0) ≡ (is_new && is_full)
    full_known =
        ap (λ b. b && has_known now kept j.hash && (count_in is_some now kept j.hash == g.limits.peers)) is_new-fresh
        ∙ ap (λ b. is_new && b && (count_in is_some now kept j.hash == g.limits.peers)) has_known_now
        ∙ ap (λ b. b && (count_in is_some now kept j.hash == g.limits.peers)) (and_true is_new)
        ∙ ap (λ n. is_new && (n == g.limits.peers)) size-fresh

    refused_known : (W : Type 0) → W → (error : JoinError) → new ≡ set kept i torrent → error ≡ (if is_new && is_full then SwarmIsFull else MemoryIsWanted) → IsRefused g now j kept new W error
    refused_known W wants error turned meets =
        let T : List Torrent → Type 0 = λ l. AreTidy l in
        let U : List Torrent → Type 0 = λ l. SameAt now kept l in
        let same : SameAt now kept new = subst U (sym turned) (same_turned now j.hash i kept before torrent sound.tidy at stood freshens (subst T turned sound_new.tidy)) in
        let S : JoinError → Type 0 = λ e. IsRefused g now j kept new W e in
        let F : Bool → Type 0 = λ b. S (if b then SwarmIsFull else MemoryIsWanted) in
        subst S (sym meets) (by_test (is_new && is_full) (F (is_new && is_full))
        (λ full. subst F (sym full) (same, full_known ∙ full))
        (λ room. subst F (sym room) (same, full_known ∙ room, space_known, wants)))

    outcome_known : {A : Type 0} (result : Result A JoinError) →
        MatchResult result (λ done. ((is_new && is_full) ≡ false) × (new ≡ set kept i (with_peer now j torrent)))
        (λ error. (is_new ≡ true) × (new ≡ set kept i torrent) × (error ≡ (if is_full then SwarmIsFull else MemoryIsWanted))) → IsOutcome g now j kept new result
    outcome_known (Ok done) joins =
        let after : Torrent = with_peer now j torrent in
        let same : after.hash ≡ j.hash = hash_joined now j torrent ∙ hash in
        let looked = λ (k : InfoHash). (let p : torrent_of new k ≡ (if same_hash k j.hash then Some after else torrent_of kept k) = ap (λ l. torrent_of l k) joins.1 ∙ found_set j.hash kept i after at same k in p) in
        took_part torrent families (recursion_from_All (λ h. is_live_in now h ≡ true) (peers_of torrent) (live_fresh now before torrent tidy freshens))
        (looked j.hash ∙ ap (λ b. if b then Some after else torrent_of kept j.hash) (itself j.hash))
        (λ k apart. looked k ∙ ap (λ b. if b then Some after else torrent_of kept k) (flipped j.hash k apart))
        live-fresh
        (ap (λ o. downloads_in (known_found now o)) found ∙ ap (λ b. downloads_in (if b then Some (standing before) else None)) known ∙ sym freshens.downloaded)
        (full_known ∙ joins.0) space_known
    outcome_known (Err error) joins =
        refused_known (IsNew now j kept) (is_new-fresh ∙ joins.0) error joins.1
        (joins.2 ∙ ap (λ b. if b && is_full then SwarmIsFull else MemoryIsWanted) (sym joins.0))

  pub outcome_of : {A : Type 0} (result : Result A JoinError) → Joins (place_of j.hash kept) j (table_of g.limits now kept) (table_of g.limits now new) result → IsOutcome g now j kept new result
  outcome_of {A} result joins = by_place (place_of j.hash kept) refl joins
    where
      by_place : (o : Option ℕ) → place_of j.hash kept ≡ o → Joins o j (table_of g.limits now kept) (table_of g.limits now new) result → IsOutcome g now j kept new result
      by_place None none adds = outcome_new none result adds
      by_place (Some i) at joins = outcome_known i at joins.before joins.torrent joins.stood joins.freshens result joins.joins

  pub refused_of : (error : JoinError) → Refused (place_of j.hash kept) j.who (table_of g.limits now kept) (table_of g.limits now new) error → IsRefused g now j kept new (Unit {0}) error
  refused_of error refused = by_place (place_of j.hash kept) refl refused
    where
      by_place : (o : Option ℕ) → place_of j.hash kept ≡ o → Refused o j.who (table_of g.limits now kept) (table_of g.limits now new) error → IsRefused g now j kept new (Unit {0}) error
      by_place None none refused = refused_new none (Unit {0}) tt error refused.0 refused.1
      by_place (Some i) at refused = refused_known i at refused.before refused.torrent refused.stood refused.freshens (Unit {0}) tt error refused.set refused.meets

-- ---- what settles

or_true : (a : Bool) → (a || true) ≡ true
or_true true = refl
or_true false = refl

-- what an announce that takes part is told
abbrev pub IsTold : List ℕ → Joining → ℕ → List Torrent → List Endpoint → Counts → Type 0
IsTold words j want new told counts =
    MatchOption (torrent_of new j.hash) ⊥ (λ torrent. (counts ≡ tally torrent) × (told ≡ choice_of words j.who want (of_family (family_of j.who.addr) torrent)))

module _ (g : Settings) (now : ℕ) (j : Joining) (kept new : List Torrent) where
  -- a call by which an endpoint would take part, and that is refused
  refused_settles : (call : Call) → joins call ≡ Some (j.hash, j.who) → (W : Type 0) → (W → could_want g now kept call ≡ true) → (error : JoinError) → IsRefused g now j kept new W error →
      Settles g now call (error_answer g.limits error) kept new
  refused_settles call is W wants error refused = by_error error refused
    where
      swarm_by : meets_full_swarm g now kept call ≡ meets_full_swarm g now kept (announce_of j 0)
      swarm_by = ap (λ o. option_map_or (λ s. not (has_live now kept s.0 s.1) && has_known now kept s.0 && (count_in is_some now kept s.0 == g.limits.peers)) o false) is

      bucket_by : meets_full_bucket g now kept call ≡ meets_full_bucket g now kept (announce_of j 0)
      bucket_by = ap (λ o. option_map_or (λ s. not (has_known now kept s.0) && (length (known_torrents now kept) == g.limits.torrents)) o false) is

      by_error : (error : JoinError) → IsRefused g now j kept new W error → Settles g now call (error_answer g.limits error) kept new
      by_error SwarmIsFull it = record { right = when_true _ _ _ (swarm_by ∙ it.1) refl; step = it.0 }
      by_error BucketIsFull it = record { right = when_false _ _ _ (swarm_by ∙ it.1) (when_true _ _ _ (bucket_by ∙ it.2) refl); step = it.0 }
      by_error MemoryIsWanted it = record { right = when_false _ _ _ (swarm_by ∙ it.1) (when_false _ _ _ (bucket_by ∙ it.2) (wants it.3)); step = it.0 }

  -- there is no memory for an announce's note
  pub refuse_settles : g.sync ≡ true → (want : ℕ) (error : JoinError) → IsRefused g now j kept new (Unit {0}) error → Settles g now (announce_of j want) (error_answer g.limits error) kept new
  refuse_settles on want error refused = refused_settles (announce_of j want) refl (Unit {0}) (λ it. ap (λ b. b || not (has_live now kept j.hash j.who)) on) error refused

  module _ (sound_new : IsSound (table_of g.limits now new)) (words : List ℕ) (enough : length words ≡ 200) (want : ℕ) (few : want ≤ 200) (told : List Endpoint) where
    pub announce_settles : (result : Result Counts JoinError) → IsOutcome g now j kept new result → MatchResult result (λ counts. IsTold words j want new told counts) (λ error. Unit {0}) →
        Settles g now (announce_of j want) (announced g.limits told result) kept new
    announce_settles (Ok counts) it is_told =
        let after = it.torrent in
        let tidy : IsTidy after = tidy_found new j.hash after sound_new.tidy it.found in
        let P : Option Torrent → Type 0 = λ o. MatchOption o ⊥ (λ torrent. (counts ≡ tally torrent) × (told ≡ choice_of words j.who want (of_family (family_of j.who.addr) torrent))) in
        let says : (counts ≡ tally after) × (told ≡ choice_of words j.who want (of_family (family_of j.who.addr) after)) = subst P it.found is_told in
        let D : List Endpoint → Type 0 = λ l. IsDrawn now new j.hash j.who want l in
        record {
          right = when_false _ _ _ it.room (when_false _ _ _ it.space (
            says.0 ∙ sym (counts_some now new j.hash after it.found it.recent it.lively),
            subst D (sym says.1) (is_drawn now new j.hash after it.found tidy it.lively words enough j.who want few),
          ));
          step = it.puts;
        }
    announce_settles (Err error) it is_told = refused_settles (announce_of j want) refl (IsNew now j kept) (λ new_one. ap (λ b. g.sync || b) new_one ∙ or_true g.sync) error it

-- another node says that an endpoint takes part
module _ (g : Settings) (now : ℕ) (h : InfoHash) (who : Endpoint) (kept new : List Torrent) where
  pub leecher_settles : {A : Type 0} (result : Result A JoinError) → IsOutcome g now (joining_by h who false) kept new result → Settles g now (Sync h who Leecher) (applied g.limits result) kept new
  leecher_settles (Ok done) it = record { right = when_false _ _ _ it.room (when_false _ _ _ it.space refl); step = it.puts }
  leecher_settles (Err error) it = refused_settles g now (joining_by h who false) kept new (Sync h who Leecher) refl (IsNew now (joining_by h who false) kept) (λ new_one. new_one) error it

  pub seed_settles : {A : Type 0} (result : Result A JoinError) → IsOutcome g now (joining_by h who true) kept new result → Settles g now (Sync h who Seed) (applied g.limits result) kept new
  seed_settles (Ok done) it = record { right = when_false _ _ _ it.room (when_false _ _ _ it.space refl); step = it.puts }
  seed_settles (Err error) it = refused_settles g now (joining_by h who true) kept new (Sync h who Seed) refl (IsNew now (joining_by h who true) kept) (λ new_one. new_one) error it
