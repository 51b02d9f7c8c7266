-- A bucket that stood for a history and makes an entry's step stands for the history with the
-- entry.
use Rattle.std.proofs.Common.{◌≡◌, ℕ, ◌≤◌, max, Bool, true, false, not, ◌&&◌, Some, List, [], ◌∷◌, ◌++◌, reverse, take, length, min, ◌-◌, refl, sym, ◌∙◌, ap, subst, arith, if◌then◌else◌}
use Rattle.std.proofs.lemmas.List.{reverse-append}
use Rattle.std.specs.List.{IsDistinct}
use Rattle.ot_base.specs.declared.hash.InfoHash.{InfoHash}
use Rattle.ot_base.specs.declared.address.Endpoint.{Endpoint}
use Rattle.ot_base.specs.declared.peer.Mark.TheVariants.{Leecher, Seed, Stopped}
use Rattle.ot_base.specs.declared.peer.Note.{Note}
use Rattle.tracker_model.specs.Calls.{IsWellFormed}
use Rattle.tracker_model.specs.Entries.{time_of, is_effective}
use Rattle.tracker_model.specs.Legal.{IsLegalPast, IsLegalHistory, IsRightAfter}
use Rattle.tracker_model.specs.Outbox.{is_drain, note_made, outbox_notes, outbox_dropped}
use Rattle.tracker_model.specs.Settings.{Settings}
use Rattle.tracker_model.specs.Known.{is_seed}
use Rattle.tracker_model.specs.Shape.{Shape, Torrent, live_in, known_in, downloads_in}
use Rattle.tracker_model.specs.Stands.{Keeps, Holds, StandsFor}
use Rattle.tracker_model.specs.Steps.{SameAt, Puts, Takes, TorrentStep, StepsTo, one_more, notes_with, dropped_with}
use Rattle.tracker_model.specs.declared.call.Call.{Call}
use Rattle.tracker_model.specs.declared.call.Call.TheVariants.{Announce, Stop, Scrape, Scan, Clean, Sync, Drain}
use Rattle.tracker_model.specs.declared.entry.Entry.{Entry}
use Rattle.tracker_model.specs.declared.limits.TheConstants.{OUTBOX_NOTES}
use Rattle.tracker_model.proofs.Cases.{by_test}
use Rattle.tracker_model.proofs.EntryLemmas.{quiet_refused, quiet_asking, says_word, leaves_untouched, leaves_uncounted, touches_one, touches_announced}
use Rattle.tracker_model.proofs.OutboxLemmas.{notes_after, dropped_after, drained_notes, drained_dropped}
use Rattle.tracker_model.proofs.StepLemmas.{IsQuiet, keeps_later, keeps_quiet, keeps_put, keeps_taken}

module _ (x : Entry) (past : List Entry) (old new : List Torrent) (kept : Keeps past (time_of (x ∷ past)) old) where
  -- where nothing that is live or known changes
  keeps_same : IsQuiet x past → SameAt (time_of (x ∷ past)) old new → Keeps (x ∷ past) (time_of (x ∷ past)) new
  keeps_same quiet same =
      let now = time_of (x ∷ past) in
      let le : now ≤ now = omega arith in
      keeps_quiet x past now new le quiet (keeps_later past now now old new le kept same)

  -- by the call and whether it took effect
  keeps_step_at : (took : Bool) (call : Call) → is_effective x ≡ took → x.call ≡ call → TorrentStep took call (time_of (x ∷ past)) old new → Keeps (x ∷ past) (time_of (x ∷ past)) new
  keeps_step_at false call refused is step = keeps_same (quiet_refused x past refused) step
  keeps_step_at true (Announce h e seed completed want) done is step =
      keeps_put x past h e seed completed old new (says_word x (Announce h e seed completed want) h e done is refl) (touches_announced x past h e seed completed want done is) kept step
  keeps_step_at true (Stop h e) done is step = keeps_taken x past h e old new (says_word x (Stop h e) h e done is refl) (leaves_untouched x (Stop h e) done is (λ g. refl)) (leaves_uncounted x past (Stop h e) done is (λ g. refl)) kept step
  keeps_step_at true (Scrape h) done is step = keeps_same (quiet_asking x past (Scrape h) done is (λ g d. refl) (λ g. refl) (λ g. refl)) step
  keeps_step_at true Scan done is step = keeps_same (quiet_asking x past Scan done is (λ g d. refl) (λ g. refl) (λ g. refl)) step
  keeps_step_at true Clean done is step = keeps_same (quiet_asking x past Clean done is (λ g d. refl) (λ g. refl) (λ g. refl)) step
  keeps_step_at true (Sync h e Leecher) done is step =
      keeps_put x past h e false false old new (says_word x (Sync h e Leecher) h e done is refl) (touches_one x past (Sync h e Leecher) h e false done is refl refl (λ g apart. refl)) kept step
  keeps_step_at true (Sync h e Seed) done is step =
      keeps_put x past h e true false old new (says_word x (Sync h e Seed) h e done is refl) (touches_one x past (Sync h e Seed) h e false done is refl refl (λ g apart. refl)) kept step
  keeps_step_at true (Sync h e Stopped) done is step = keeps_taken x past h e old new (says_word x (Sync h e Stopped) h e done is refl) (leaves_untouched x (Sync h e Stopped) done is (λ g. refl)) (leaves_uncounted x past (Sync h e Stopped) done is (λ g. refl)) kept step
  keeps_step_at true Drain done is step = keeps_same (quiet_asking x past Drain done is (λ g d. refl) (λ g. refl) (λ g. refl)) step

-- the time after one more entry
pub time_after : (x : Entry) (past : List Entry) (old : Shape) → Holds past old → max x.minute.0 old.time ≡ time_of (x ∷ past)
time_after x past old holds = ap (λ t. max x.minute.0 t) holds.on_time

-- what is stored keeps what the entries say also at that time, before the entry takes effect
pub keeps_now : (x : Entry) (past : List Entry) (old : Shape) → Holds past old → Keeps past (time_of (x ∷ past)) old.torrents
keeps_now x past old holds =
    let not_earlier : old.time ≤ time_of (x ∷ past) = omega (arith, holds.on_time) in
    keeps_later past old.time (time_of (x ∷ past)) old.torrents old.torrents not_earlier holds.kept
    (record { tidy = holds.kept.tidy; peers = λ h e. refl; torrents = λ h. refl })

-- a bucket that holds what the entries say, after one more
pub holds_step : (x : Entry) (past : List Entry) (old new : Shape) → Holds past old → StepsTo x old new → Holds (x ∷ past) new
holds_step x past old new holds step =
    let now = time_of (x ∷ past) in
    let on_time : new.time ≡ now = step.time ∙ time_after x past old holds in
    let At : ℕ → Type 0 = λ t. TorrentStep (is_effective x) x.call t old.torrents new.torrents in
    let KeepsAt : ℕ → Type 0 = λ t. Keeps (x ∷ past) t new.torrents in
    record {
      on_time = on_time;
      kept = subst KeepsAt (sym on_time) (keeps_step_at x past old.torrents new.torrents (keeps_now x past old holds) (is_effective x) x.call refl refl (subst At on_time step.torrents));
      noted =
          step.notes
          ∙ by_test (is_drain x.call) ((if is_drain x.call then [] else notes_with old.settings (note_made x) old.notes) ≡ outbox_notes old.settings (x ∷ past))
          (λ drains. ap (λ b. if b then [] else notes_with old.settings (note_made x) old.notes) drains ∙ sym (drained_notes old.settings x past drains))
          (λ stays. ap (λ b. if b then [] else notes_with old.settings (note_made x) old.notes) stays
          ∙ ap (λ l. notes_with old.settings (note_made x) l) holds.noted ∙ sym (notes_after old.settings x past stays))
          ∙ ap (λ g. outbox_notes g (x ∷ past)) (sym step.settings);
      lost =
          step.dropped
          ∙ by_test (is_drain x.call) ((if is_drain x.call then 0 else dropped_with old.settings (note_made x) old.notes old.dropped) ≡ outbox_dropped old.settings (x ∷ past))
          (λ drains. ap (λ b. if b then 0 else dropped_with old.settings (note_made x) old.notes old.dropped) drains ∙ sym (drained_dropped old.settings x past drains))
          (λ stays. ap (λ b. if b then 0 else dropped_with old.settings (note_made x) old.notes old.dropped) stays
          ∙ ap (λ l. dropped_with old.settings (note_made x) l old.dropped) holds.noted
          ∙ ap (λ n. dropped_with old.settings (note_made x) (outbox_notes old.settings past) n) holds.lost
          ∙ sym (dropped_after old.settings x past stays))
          ∙ ap (λ g. outbox_dropped g (x ∷ past)) (sym step.settings);
    }

-- a history with one more entry, newest first
pub newest_first : (history : List Entry) (x : Entry) → reverse (history ++ x ∷ []) ≡ x ∷ reverse history
newest_first history x = reverse-append history (x ∷ [])

pub legal_step : (g : Settings) (history : List Entry) (x : Entry) → IsLegalHistory g history → IsWellFormed x.call → IsRightAfter g history x → IsLegalHistory g (history ++ x ∷ [])
legal_step g history x legal formed right = let P : List Entry → Type 0 = λ past. IsLegalPast g past in subst P (sym (newest_first history x)) (formed, right, legal)

-- a bucket that stands for a history, answers right and makes the step stands for the longer
-- history
pub stands_step : (history : List Entry) (x : Entry) (old new : Shape) → StandsFor history old → IsWellFormed x.call → IsRightAfter old.settings history x → StepsTo x old new → StandsFor (history ++ x ∷ []) new
stands_step history x old new stands formed right step =
    let P : List Entry → Type 0 = λ past. Holds past new in
    let Q : Settings → Type 0 = λ g. IsLegalHistory g (history ++ x ∷ []) in
    record {
      legal = subst Q (sym step.settings) (legal_step old.settings history x stands.legal formed right);
      holds = subst P (sym (newest_first history x)) (holds_step x (reverse history) old new stands.holds step);
    }

-- an empty bucket stands for no entries
pub stands_first : (g : Settings) → StandsFor [] (record { settings = g; time = 0; torrents = []; notes = []; dropped = 0 })
unfolding IsDistinct
stands_first g = record {
  legal = tt;
  holds = record {
    on_time = refl;
    kept = record {
      tidy = record { distinct = tt; each = tt };
      peers = λ h e. refl;
      torrents = λ h. refl;
    };
    noted = elim g.sync as (λ sync. [] ≡ (if sync then take {A = Note} OUTBOX_NOTES [] else [])) [ true ↦ refl | false ↦ refl ];
    lost = elim g.sync as (λ sync. 0 ≡ (if sync then min 4294967295 (length {A = Note} [] - OUTBOX_NOTES) else 0)) [ true ↦ refl | false ↦ refl ];
  };
}

-- what isn't live or known may go before a step
same_then_put : (minute : ℕ) (h : InfoHash) (e : Endpoint) (seed completed : Bool) (old middle new : List Torrent) → SameAt minute old middle → Puts minute h e seed completed middle new → Puts minute h e seed completed old new
same_then_put minute h e seed completed old middle new same puts = record {
  tidy = puts.tidy;
  peer = puts.peer;
  other_peers = λ g d apart. puts.other_peers g d apart ∙ same.peers g d;
  torrent = puts.torrent
      ∙ ap (λ l. Some (record { touch = minute; downloaded = one_more (completed && not (is_seed l)) (downloads_in (known_in minute middle h)) })) (same.peers h e)
      ∙ ap (λ k. Some (record { touch = minute; downloaded = one_more (completed && not (is_seed (live_in minute old h e))) (downloads_in k) })) (same.torrents h);
  other_torrents = λ g apart. puts.other_torrents g apart ∙ same.torrents g;
}

same_then_take : (minute : ℕ) (h : InfoHash) (e : Endpoint) (old middle new : List Torrent) → SameAt minute old middle → Takes minute h e middle new → Takes minute h e old new
same_then_take minute h e old middle new same takes = record {
  tidy = takes.tidy;
  peer = takes.peer;
  other_peers = λ g d apart. takes.other_peers g d apart ∙ same.peers g d;
  torrents = λ g. takes.torrents g ∙ same.torrents g;
}

same_then_same : (minute : ℕ) (old middle new : List Torrent) → SameAt minute old middle → SameAt minute middle new → SameAt minute old new
same_then_same minute old middle new same again = record {
  tidy = again.tidy;
  peers = λ h e. again.peers h e ∙ same.peers h e;
  torrents = λ h. again.torrents h ∙ same.torrents h;
}

pub same_then_step : (took : Bool) (call : Call) (minute : ℕ) (old middle new : List Torrent) → SameAt minute old middle → TorrentStep took call minute middle new → TorrentStep took call minute old new
same_then_step false call minute old middle new same step = same_then_same minute old middle new same step
same_then_step true (Announce h e seed completed want) minute old middle new same step = same_then_put minute h e seed completed old middle new same step
same_then_step true (Stop h e) minute old middle new same step = same_then_take minute h e old middle new same step
same_then_step true (Scrape h) minute old middle new same step = same_then_same minute old middle new same step
same_then_step true Scan minute old middle new same step = same_then_same minute old middle new same step
same_then_step true Clean minute old middle new same step = same_then_same minute old middle new same step
same_then_step true (Sync h e Leecher) minute old middle new same step = same_then_put minute h e false false old middle new same step
same_then_step true (Sync h e Seed) minute old middle new same step = same_then_put minute h e true false old middle new same step
same_then_step true (Sync h e Stopped) minute old middle new same step = same_then_take minute h e old middle new same step
same_then_step true Drain minute old middle new same step = same_then_same minute old middle new same step
