-- What the other calls make of a bucket, by the tables before and after them.
use Rattle.std.proofs.Common.{◌≡◌, ℕ, max, Bool, true, false, List, [], ◌∷◌, Option, None, Result, Ok, Err, IfOk, refl, sym, ◌∙◌, subst, length}
use Rattle.std.specs.List.{All, AllByRecursion, sum_by}
use Rattle.std.specs.Option.{MatchOption}
use Rattle.std.proofs.lemmas.List.Elements.{All-from_recursion}
use Rattle.ot_base.specs.declared.hash.InfoHash.{InfoHash}
use Rattle.ot_base.specs.declared.address.Endpoint.{Endpoint}
use Rattle.ot_base.specs.declared.minute.Minute.{Minute}
use Rattle.ot_base.specs.declared.peer.Counts.{Counts}
use Rattle.ot_base.specs.declared.peer.Mark.{Mark}
use Rattle.ot_base.specs.declared.peer.Mark.TheVariants.{Leecher, Seed, Stopped}
use Rattle.ot_base.specs.declared.peer.Row.{Row}
use Rattle.tracker_model.specs.Calls.{IsPeer}
use Rattle.tracker_model.specs.Kinds.{IsKindOf}
use Rattle.tracker_model.specs.Making.{scanned}
use Rattle.tracker_model.specs.Outbox.{note_of}
use Rattle.tracker_model.specs.Settings.{Settings}
use Rattle.tracker_model.specs.Shape.{Torrent, peers_of, is_live_in}
use Rattle.tracker_model.specs.Steps.{SameAt, Takes}
use Rattle.tracker_model.specs.declared.answer.Answer.TheVariants.{Told, Stats, Rows, Cleaned, Applied, Drained, NoMemory}
use Rattle.tracker_model.specs.declared.call.Call.TheVariants.{Stop, Scrape, Scan, Clean, Sync, Drain}
use Rattle.bucket.specs.Answers.{applied}
use Rattle.bucket.specs.Calls.{Applies, AreRowsOf, Cleans, Forgets, Joins, Opens, Scrapes, Stays, Stops, TakesPart, joining_by}
use Rattle.bucket.specs.Outbox.{Gets, OutboxShape, empty_outbox, settings_with}
use Rattle.bucket.specs.Public.{IsFresh}
use Rattle.bucket.specs.Table.{Table, IsSound}
use Rattle.bucket.specs.Torrents.{Freshens, Turns, place_of, without_peer}
use Rattle.bucket.specs.declared.joining.Joining.{Joining}
use Rattle.bucket.specs.declared.joining.JoinError.{JoinError}
use Rattle.bucket.specs.declared.joining.JoinError.TheVariants.{SwarmFull, BucketFull, NoMemory as MemoryIsWanted}
use Rattle.bucket.proofs.Asking.{IsLivelyAt, opened_same, opened_lively, leaves_step, leaves_lively, lively, stop_settles, stop_wants, stopped_settles, scrape_settles, clean_settles, scan_settles, scan_wants}
use Rattle.bucket.proofs.Judging.{StandsOn, drained}
use Rattle.bucket.proofs.Settling.{IsOutcome, leecher_settles, outcome_of, seed_settles, table_of}
use Rattle.bucket.proofs.CallLaws.{as_table, bucket_of, gets_itself, gets_nothing, is_forgotten, is_new, sound_forgotten, sound_new, stands_by}

-- ---- a stop and a scrape

module _ (now : ℕ) (h : InfoHash) (old opened : Table) (place : Option ℕ) (opens : Opens now h old opened place) where
  freshens_by : MatchOption place (table_of old.limits now opened.torrents ≡ table_of old.limits now opens.forgotten.torrents) (λ i. Turns i (Freshens now) opens.forgotten.torrents opened.torrents)
  freshens_by =
      let F : Table → Type 0 = λ t. MatchOption place (t ≡ opens.forgotten) (λ i. Turns i (Freshens now) opens.forgotten.torrents opened.torrents) in
      let G : Table → Type 0 = λ t. MatchOption place (table_of old.limits now opened.torrents ≡ t) (λ i. Turns i (Freshens now) opens.forgotten.torrents opened.torrents) in
      subst G (is_forgotten now old opens.forgotten opened opens.forgets opens.stays) (subst F (is_new now old opens.forgotten opened opens.forgets opens.stays) opens.freshens)

  same_opened : SameAt now opens.forgotten.torrents opened.torrents
  same_opened = opened_same old.limits now h opens.forgotten.torrents opened.torrents (sound_forgotten now old opens.forgotten opened opens.forgets opens.stays) (sound_new now old opens.forgotten opened opens.forgets opens.stays) place opens.stands freshens_by

  lively_opened : IsLivelyAt now h opened.torrents
  lively_opened = opened_lively old.limits now h opens.forgotten.torrents opened.torrents (sound_forgotten now old opens.forgotten opened opens.forgets opens.stays) (sound_new now old opens.forgotten opened opens.forgets opens.stays) place opens.stands freshens_by

module _ (now : ℕ) (h : InfoHash) (old new : Table) (caller : ℕ) (minute : Minute) (later : now ≡ max minute.0 old.time) where
  pub scrape_stands : (box : OutboxShape) (counts : Counts) (known : Bool) → Scrapes now h old new counts known → StandsOn caller minute (Scrape h) (Stats counts known) (bucket_of box old) (bucket_of box new)
  scrape_stands box counts known it =
      let o = it.opens in
      stands_by now old o.forgotten new o.forgets o.stays box box caller minute later (Scrape h) (Stats counts known) refl (gets_itself box) tt
      (scrape_settles (settings_with old.limits box) now o.forgotten.torrents new.torrents (sound_forgotten now old o.forgotten new o.forgets o.stays) (sound_new now old o.forgotten new o.forgets o.stays) h
      (same_opened now h old new it.place o) (lively_opened now h old new it.place o) counts known it.counted it.stored)

-- an endpoint leaves its torrent
module _ (now : ℕ) (h : InfoHash) (old new : Table) (who : Endpoint) (counts : Counts) (it : Stops now h who old new counts) where
  stays_stopped : Stays it.opens.forgotten new
  stays_stopped = record { limits = it.stays.limits ∙ it.opens.stays.limits; time = it.stays.time ∙ it.opens.stays.time; sound = it.stays.sound }

  sound_opened : IsSound (table_of old.limits now it.opened.torrents)
  sound_opened = sound_new now old it.opens.forgotten it.opened it.opens.forgets it.opens.stays

  sound_stopped : IsSound (table_of old.limits now new.torrents)
  sound_stopped = sound_new now old it.opens.forgotten new it.opens.forgets stays_stopped

  leaves_by : MatchOption it.place (table_of old.limits now new.torrents ≡ table_of old.limits now it.opened.torrents) (λ i. Turns i (λ before after. after ≡ without_peer who before) it.opened.torrents new.torrents)
  leaves_by =
      let N : Table → Type 0 = λ t. MatchOption it.place (t ≡ it.opened) (λ i. Turns i (λ before after. after ≡ without_peer who before) it.opened.torrents new.torrents) in
      let O : Table → Type 0 = λ t. MatchOption it.place (table_of old.limits now new.torrents ≡ t) (λ i. Turns i (λ before after. after ≡ without_peer who before) it.opened.torrents new.torrents) in
      subst O (is_new now old it.opens.forgotten it.opened it.opens.forgets it.opens.stays) (subst N (is_new now old it.opens.forgotten new it.opens.forgets stays_stopped) it.leaves)

  leaves_now : Takes now h who it.opened.torrents new.torrents
  leaves_now = leaves_step old.limits now h who it.opened.torrents new.torrents sound_opened sound_stopped it.place it.opens.stands leaves_by

  module _ (caller : ℕ) (minute : Minute) (later : now ≡ max minute.0 old.time) (formed : IsPeer who) where
    pub stop_stands : (box next : OutboxShape) → Gets (note_of (Stop h who)) box next → StandsOn caller minute (Stop h who) (Told counts []) (bucket_of box old) (bucket_of next new)
    stop_stands box next gets =
        let o = it.opens in
        stands_by now old o.forgotten new o.forgets stays_stopped box next caller minute later (Stop h who) (Told counts []) refl gets formed
        (stop_settles (settings_with old.limits box) now o.forgotten.torrents new.torrents (sound_forgotten now old o.forgotten new o.forgets stays_stopped) sound_stopped h who it.opened.torrents
        (same_opened now h old it.opened it.place o) leaves_now
        (leaves_lively old.limits now h who it.opened.torrents new.torrents sound_opened sound_stopped (lively_opened now h old it.opened it.place o) it.place o.stands leaves_by)
        counts it.counted)

    pub stopped_stands : (box : OutboxShape) → StandsOn caller minute (Sync h who Stopped) Applied (bucket_of box old) (bucket_of box new)
    stopped_stands box =
        let o = it.opens in
        stands_by now old o.forgotten new o.forgets stays_stopped box box caller minute later (Sync h who Stopped) Applied refl (gets_itself box) formed
        (stopped_settles (settings_with old.limits box) now o.forgotten.torrents new.torrents (sound_forgotten now old o.forgotten new o.forgets stays_stopped) sound_stopped h who it.opened.torrents
        (same_opened now h old it.opened it.place o) leaves_now)

-- the time moves on alone
module _ (now : ℕ) (old new : Table) (forgets : Forgets now old new) (caller : ℕ) (minute : Minute) (later : now ≡ max minute.0 old.time) where
  stays_passed : Stays new new
  stays_passed = record { limits = refl; time = refl; sound = forgets.sound }

  -- there is no memory for a stop's note
  pub stop_wants_stands : (h : InfoHash) (who : Endpoint) → IsPeer who → (box next : OutboxShape) → box.sync ≡ true → Gets None box next → StandsOn caller minute (Stop h who) NoMemory (bucket_of box old) (bucket_of next new)
  stop_wants_stands h who formed box next on gets =
      let sound = sound_forgotten now old new new forgets stays_passed in
      stands_by now old new new forgets stays_passed box next caller minute later (Stop h who) NoMemory refl gets formed (stop_wants (settings_with old.limits box) now new.torrents new.torrents sound sound h who on)

  pub drain_stands : (box next : OutboxShape) → next ≡ empty_outbox box.sync → StandsOn caller minute Drain (Drained box.notes box.dropped) (bucket_of box old) (bucket_of next new)
  drain_stands box next empty =
      let S : Table → Type 0 = λ t. StandsOn caller minute Drain (Drained box.notes box.dropped) (bucket_of box old) (bucket_of next t) in
      subst S (sym (as_table old.limits now new forgets.limits forgets.time)) (drained old.limits box next caller minute old.time now old.torrents new.torrents empty later forgets.sound.tidy forgets.found)

-- ---- a sync

-- another node says that an endpoint takes part
part_outcome : {A : Type 0} (now : ℕ) (old new : Table) (j : Joining) (box : OutboxShape) (result : Result A JoinError) (it : TakesPart now j old new result) → IsOutcome (settings_with old.limits box) now j it.forgotten.torrents new.torrents result
part_outcome now old new j box result it =
    let F : Table → Type 0 = λ t. Joins (place_of j.hash it.forgotten.torrents) j t new result in
    let N : Table → Type 0 = λ t. Joins (place_of j.hash it.forgotten.torrents) j (table_of old.limits now it.forgotten.torrents) t result in
    outcome_of (settings_with old.limits box) now j it.forgotten.torrents new.torrents (sound_forgotten now old it.forgotten new it.forgets it.stays) (sound_new now old it.forgotten new it.forgets it.stays) result
    (subst N (is_new now old it.forgotten new it.forgets it.stays) (subst F (is_forgotten now old it.forgotten new it.forgets it.stays) it.joins))

module _ (now : ℕ) (h : InfoHash) (who : Endpoint) (formed : IsPeer who) (old new : Table) (box : OutboxShape) (caller : ℕ) (minute : Minute) (later : now ≡ max minute.0 old.time) where
  pub apply_stands : {A : Type 0} (mark : Mark) (result : Result A JoinError) → Applies now h who mark old new result → StandsOn caller minute (Sync h who mark) (applied old.limits result) (bucket_of box old) (bucket_of box new)
  apply_stands Leecher result it =
      stands_by now old it.forgotten new it.forgets it.stays box box caller minute later (Sync h who Leecher) (applied old.limits result) refl (gets_nothing (Sync h who Leecher) (applied old.limits result) refl box) formed
      (leecher_settles (settings_with old.limits box) now h who it.forgotten.torrents new.torrents result (part_outcome now old new (joining_by h who false) box result it))
  apply_stands Seed result it =
      stands_by now old it.forgotten new it.forgets it.stays box box caller minute later (Sync h who Seed) (applied old.limits result) refl (gets_nothing (Sync h who Seed) (applied old.limits result) refl box) formed
      (seed_settles (settings_with old.limits box) now h who it.forgotten.torrents new.torrents result (part_outcome now old new (joining_by h who true) box result it))
  apply_stands Stopped (Ok done) it = stopped_stands now h old new who it.0 it.1 caller minute later formed box
  apply_stands Stopped (Err error) it = absurd it.2

pub apply_kind : {A : Type 0} (g : Settings) (now : ℕ) (h : InfoHash) (who : Endpoint) (old new : Table) (mark : Mark) (result : Result A JoinError) → Applies now h who mark old new result → IsKindOf g (Sync h who mark) (applied g.limits result)
apply_kind g now h who old new Leecher (Ok done) it = tt
apply_kind g now h who old new Leecher (Err SwarmFull) it = refl
apply_kind g now h who old new Leecher (Err BucketFull) it = refl
apply_kind g now h who old new Leecher (Err MemoryIsWanted) it = tt
apply_kind g now h who old new Seed (Ok done) it = tt
apply_kind g now h who old new Seed (Err SwarmFull) it = refl
apply_kind g now h who old new Seed (Err BucketFull) it = refl
apply_kind g now h who old new Seed (Err MemoryIsWanted) it = tt
apply_kind g now h who old new Stopped (Ok done) it = tt
apply_kind g now h who old new Stopped (Err error) it = absurd it.2

-- ---- a cleaning and a scan

module _ (now : ℕ) (old new : Table) (it : Cleans now old new) where
  sound_kept : IsSound (table_of old.limits now it.forgotten.torrents)
  sound_kept = sound_forgotten now old it.forgotten new it.forgets it.stays

  sound_after : IsSound (table_of old.limits now new.torrents)
  sound_after = sound_new now old it.forgotten new it.forgets it.stays

  pub cleaned_fresh : (box : OutboxShape) → IsFresh (bucket_of box new)
  cleaned_fresh box = record {
    known = it.stays.sound.known;
    live =
        let at : new.time ≡ now = it.stays.time ∙ it.forgets.time in
        let L : ℕ → Type 0 = λ n. All (λ torrent. All (λ held. is_live_in n held ≡ true) (peers_of torrent)) new.torrents in
        subst L (sym at) (All-from_recursion (λ torrent. All (λ held. is_live_in now held ≡ true) (peers_of torrent)) new.torrents
        (each new.torrents (lively (settings_with old.limits box) now it.forgotten.torrents new.torrents sound_kept sound_after it.freshens)));
  }
    where
      each : (l : List Torrent) → AllByRecursion (λ (t : Torrent). AllByRecursion (λ held. is_live_in now held ≡ true) (peers_of t)) l → AllByRecursion (λ (t : Torrent). All (λ held. is_live_in now held ≡ true) (peers_of t)) l
      each [] all = tt
      each (t ∷ l) all = (All-from_recursion (λ held. is_live_in now held ≡ true) (peers_of t) all.0, each l all.1)

  module _ (box : OutboxShape) (caller : ℕ) (minute : Minute) (later : now ≡ max minute.0 old.time) where
    pub clean_stands : (held : ℕ) → held ≡ sum_by (λ torrent. length (peers_of torrent)) new.torrents → StandsOn caller minute Clean (Cleaned held) (bucket_of box old) (bucket_of box new)
    clean_stands held counted =
        stands_by now old it.forgotten new it.forgets it.stays box box caller minute later Clean (Cleaned held) refl (gets_itself box) tt
        (clean_settles (settings_with old.limits box) now it.forgotten.torrents new.torrents sound_kept sound_after it.freshens held counted)

    pub scan_stands : (rows : List Row) → AreRowsOf new rows → StandsOn caller minute Scan (Rows rows) (bucket_of box old) (bucket_of box new)
    scan_stands rows are =
        stands_by now old it.forgotten new it.forgets it.stays box box caller minute later Scan (Rows rows) refl (gets_itself box) tt
        (scan_settles (settings_with old.limits box) now it.forgotten.torrents new.torrents sound_kept sound_after it.freshens rows
        (let A : Table → Type 0 = λ t. AreRowsOf t rows in subst A (is_new now old it.forgotten new it.forgets it.stays) are))

    pub scan_wants_stands : StandsOn caller minute Scan NoMemory (bucket_of box old) (bucket_of box new)
    scan_wants_stands =
        stands_by now old it.forgotten new it.forgets it.stays box box caller minute later Scan NoMemory refl (gets_itself box) tt
        (scan_wants (settings_with old.limits box) now it.forgotten.torrents new.torrents sound_kept sound_after it.freshens)

    -- rows, or no memory for them
    pub scanned_stands : {E : Type 0} (result : Result (List Row) E) → IfOk result (λ rows. AreRowsOf new rows) → StandsOn caller minute Scan (scanned result) (bucket_of box old) (bucket_of box new)
    scanned_stands (Ok rows) are = scan_stands rows are
    scanned_stands (Err error) none = scan_wants_stands
