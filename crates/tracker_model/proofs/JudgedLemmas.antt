-- An answer that is right by what a bucket has stored is right by the history that it stands for.
use Rattle.std.proofs.Common.{◌≡◌, ℕ, min, Bool, true, false, not, ◌&&◌, ◌||◌, ◌==◌, List, [], ◌∷◌, ◌++◌, reverse, refl, sym, ◌∙◌, ap, subst, length}
use Rattle.std.specs.Bool.{MatchBool}
use Rattle.std.specs.List.{list_all, AllByRecursion, sum_by}
use Rattle.std.specs.Option.{is_some, option_map_or}
use Rattle.ot_base.specs.declared.hash.InfoHash.{InfoHash}
use Rattle.ot_base.specs.declared.address.Endpoint.{Endpoint}
use Rattle.ot_base.specs.declared.peer.Mark.TheVariants.{Leecher, Seed, Stopped}
use Rattle.ot_base.specs.declared.peer.Row.{Row}
use Rattle.tracker_model.specs.Calls.{joins, IsWellFormed}
use Rattle.tracker_model.specs.Counted.{counts_of, swarm_size, rows_of, may_be_told}
use Rattle.tracker_model.specs.Entries.{time_of}
use Rattle.tracker_model.specs.Judged.{has_live, has_known, meets_full_swarm, meets_full_bucket, could_want, IsDrawn, AreRows, IsRowsAnd, AnswersFor, IsRightFor}
use Rattle.tracker_model.specs.Known.{is_known, downloaded_of, touch_of}
use Rattle.tracker_model.specs.Live.{is_live}
use Rattle.tracker_model.specs.Outbox.{outbox_notes, outbox_dropped}
use Rattle.tracker_model.specs.Right.{is_swarm_full, is_bucket_full, may_want, IsFair, IsToldAnd, is_no_memory, Answers, IsRightAfterPast}
use Rattle.tracker_model.specs.Settings.{Settings}
use Rattle.tracker_model.specs.Shape.{Shape, Torrent, count_in, counts_in, live_peers}
use Rattle.tracker_model.specs.Stands.{Keeps, Holds, StandsFor}
use Rattle.tracker_model.specs.Steps.{StepsTo}
use Rattle.tracker_model.specs.declared.answer.Answer.{Answer}
use Rattle.tracker_model.specs.declared.answer.Answer.TheVariants.{Told, Stats, Rows, Cleaned, Applied, Drained, SwarmFull, BucketFull, NoMemory}
use Rattle.tracker_model.specs.declared.call.Call.{Call}
use Rattle.tracker_model.specs.declared.call.Call.TheVariants.{Announce, Stop, Scrape, Scan, Clean, Sync, Drain}
use Rattle.tracker_model.specs.declared.entry.Entry.{Entry}
use Rattle.tracker_model.proofs.CountLemmas.{how_many-stored, known_count-stored, counts_of-stored, is_some-known}
use Rattle.tracker_model.proofs.PairLemmas.{live_count-stored}
use Rattle.tracker_model.proofs.RowLemmas.{rows_are}
use Rattle.tracker_model.proofs.StandsLemmas.{keeps_now, holds_step, stands_step}

-- ---- the tests before the call

module _ (past : List Entry) (minute : ℕ) (stored : List Torrent) (kept : Keeps past minute stored) where
  live_test : (h : InfoHash) (e : Endpoint) → has_live minute stored h e ≡ is_live past h e minute
  live_test h e = ap is_some (kept.peers h e)

  known_test : (h : InfoHash) → has_known minute stored h ≡ is_known past h minute
  known_test h = ap is_some (kept.torrents h) ∙ is_some-known minute (λ touch. record { touch = touch; downloaded = downloaded_of past h }) (λ touch. refl) (touch_of past h)

  size_test : (h : InfoHash) → count_in is_some minute stored h ≡ swarm_size past h minute
  size_test h = sym (how_many-stored past minute stored h is_some refl kept)

  swarm_test : (g : Settings) (call : Call) → meets_full_swarm g minute stored call ≡ is_swarm_full g past minute call
  swarm_test g call = λ i. option_map_or (λ s. not (live_test s.0 s.1 i) && known_test s.0 i && (size_test s.0 i == g.limits.peers)) (joins call) false

  bucket_test : (g : Settings) (call : Call) → meets_full_bucket g minute stored call ≡ is_bucket_full g past minute call
  bucket_test g call = λ i. option_map_or (λ s. not (known_test s.0 i) && (sym (known_count-stored past minute stored kept) i == g.limits.torrents)) (joins call) false

  want_test : (g : Settings) (call : Call) → could_want g minute stored call ≡ may_want g past minute call
  want_test g (Announce h who seed completed want) = ap (λ b. g.sync || not b) (live_test h who)
  want_test g (Stop h who) = refl
  want_test g (Scrape h) = refl
  want_test g Scan = refl
  want_test g Clean = refl
  want_test g (Sync h who Leecher) = ap not (live_test h who)
  want_test g (Sync h who Seed) = ap not (live_test h who)
  want_test g (Sync h who Stopped) = refl
  want_test g Drain = refl

-- ---- the answer after the call

module _ (now : List Entry) (stored : List Torrent) (kept : Keeps now (time_of now) stored) where
  counts_told : (h : InfoHash) → counts_in (time_of now) stored h ≡ counts_of now h
  counts_told h = sym (counts_of-stored now stored h kept)

  drawn_fair : (h : InfoHash) (asker : Endpoint) (want : ℕ) (peers : List Endpoint) → IsDrawn (time_of now) stored h asker want peers → IsFair now h asker want peers
  drawn_fair h asker want peers drawn = record {
    distinct = drawn.distinct;
    drawn = (λ i. list_all (λ e. may_be_told asker (sym (kept.peers h e) i)) peers) ∙ drawn.drawn;
    as_many = drawn.as_many ∙ ap (λ n. min want n) (sym (how_many-stored now (time_of now) stored h (may_be_told asker) refl kept));
  }

  told_right : (h : InfoHash) (asker : Endpoint) (want : ℕ) (a : Answer) → IsToldAnd a (λ counts peers. (counts ≡ counts_in (time_of now) stored h) × IsDrawn (time_of now) stored h asker want peers) →
      IsToldAnd a (λ counts peers. (counts ≡ counts_of now h) × IsFair now h asker want peers)
  told_right h asker want (Told counts peers) told = (told.0 ∙ counts_told h, drawn_fair h asker want peers told.1)
  told_right h asker want (Stats counts known) told = told
  told_right h asker want (Rows rows) told = told
  told_right h asker want (Cleaned held) told = told
  told_right h asker want Applied told = told
  told_right h asker want (Drained notes dropped) told = told
  told_right h asker want (SwarmFull count) told = told
  told_right h asker want (BucketFull count) told = told
  told_right h asker want NoMemory told = told

  counted_rows : (rows : List Row) → AllByRecursion (λ row. row.counts ≡ counts_in (time_of now) stored row.hash) rows → AllByRecursion (λ row. row.counts ≡ counts_of now row.hash) rows
  counted_rows [] counted = tt
  counted_rows (row ∷ rows) counted = (counted.0 ∙ counts_told row.hash, counted_rows rows counted.1)

  rows_right : (a : Answer) → IsRowsAnd a (λ rows. AreRows (time_of now) stored rows) → a ≡ Rows (rows_of now)
  rows_right (Rows rows) told = ap Rows (rows_are now rows told.sorted (λ h. told.known h ∙ known_test now (time_of now) stored kept h) (counted_rows rows told.counted))
  rows_right (Told counts peers) told = absurd told
  rows_right (Stats counts known) told = absurd told
  rows_right (Cleaned held) told = absurd told
  rows_right Applied told = absurd told
  rows_right (Drained notes dropped) told = absurd told
  rows_right (SwarmFull count) told = absurd told
  rows_right (BucketFull count) told = absurd told
  rows_right NoMemory told = absurd told

-- what a bucket tells is what the call asks, where time, peers and torrents after it, and the
-- outbox before it, are those of the history
tells_right : (g : Settings) (past now : List Entry) (old new : Shape) (call : Call) (a : Answer) → new.time ≡ time_of now → Keeps now (time_of now) new.torrents →
    old.notes ≡ outbox_notes g past → old.dropped ≡ outbox_dropped g past → AnswersFor old new call a → Answers g past now call a
tells_right g past now old new (Announce h who seed completed want) a on_time kept noted lost tells =
    let At : ℕ → Type 0 = λ t. IsToldAnd a (λ counts peers. (counts ≡ counts_in t new.torrents h) × IsDrawn t new.torrents h who want peers) in
    told_right now new.torrents kept h who want a (subst At on_time tells)
tells_right g past now old new (Stop h who) a on_time kept noted lost tells =
    tells ∙ ap (λ t. Told (counts_in t new.torrents h) []) on_time ∙ ap (λ c. Told c []) (counts_told now new.torrents kept h)
tells_right g past now old new (Scrape h) a on_time kept noted lost tells =
    tells ∙ ap (λ t. Stats (counts_in t new.torrents h) (has_known t new.torrents h)) on_time
    ∙ ap (λ c. Stats c (has_known (time_of now) new.torrents h)) (counts_told now new.torrents kept h)
    ∙ ap (λ b. Stats (counts_of now h) b) (known_test now (time_of now) new.torrents kept h)
tells_right g past now old new Scan a on_time kept noted lost tells =
    let At : ℕ → Type 0 = λ t. IsRowsAnd a (λ rows. AreRows t new.torrents rows) in
    rows_right now new.torrents kept a (subst At on_time tells)
tells_right g past now old new Clean a on_time kept noted lost tells =
    tells ∙ ap (λ t. Cleaned (sum_by (λ torrent. length (live_peers t torrent)) new.torrents)) on_time ∙ ap Cleaned (sym (live_count-stored now new.torrents kept))
tells_right g past now old new (Sync h who mark) a on_time kept noted lost tells = tells
tells_right g past now old new Drain a on_time kept noted lost tells = tells ∙ ap (λ l. Drained l old.dropped) noted ∙ ap (λ n. Drained (outbox_notes g past) n) lost

weaker : (a : Bool) (P Q R : Type 0) → (Q → R) → MatchBool a P Q → MatchBool a P R
weaker true P Q R follows fact = fact
weaker false P Q R follows fact = follows fact

either : (a : Bool) (P Q P' Q' : Type 0) → (P → P') → (Q → Q') → MatchBool a P Q → MatchBool a P' Q'
either true P Q P' Q' one other fact = one fact
either false P Q P' Q' one other fact = other fact

-- a choice of facts by tests that agree, where the last ones follow from each other
chosen : (a b : Bool) (P Q R : Type 0) → a ≡ b → (Q → R) → MatchBool a P Q → MatchBool b P R
chosen a b P Q R same follows fact = let M : Bool → Type 0 = λ c. MatchBool c P R in subst M same (weaker a P Q R follows fact)

-- right by what is stored is right by the entries
pub judged_right : (x : Entry) (past : List Entry) (old new : Shape) → Holds past old → StepsTo x old new → IsRightFor old new x.call x.answer → IsRightAfterPast old.settings past x
judged_right x past old new holds step right =
    let g = old.settings in
    let now = time_of (x ∷ past) in
    let after = holds_step x past old new holds step in
    let before = keeps_now x past old holds in
    let KeepsAt : ℕ → Type 0 = λ t. Keeps (x ∷ past) t new.torrents in
    let kept : Keeps (x ∷ past) now new.torrents = subst KeepsAt after.on_time after.kept in
    let swarm : meets_full_swarm g new.time old.torrents x.call ≡ is_swarm_full g past now x.call = ap (λ t. meets_full_swarm g t old.torrents x.call) after.on_time ∙ swarm_test past now old.torrents before g x.call in
    let bucket : meets_full_bucket g new.time old.torrents x.call ≡ is_bucket_full g past now x.call = ap (λ t. meets_full_bucket g t old.torrents x.call) after.on_time ∙ bucket_test past now old.torrents before g x.call in
    let want : could_want g new.time old.torrents x.call ≡ may_want g past now x.call = ap (λ t. could_want g t old.torrents x.call) after.on_time ∙ want_test past now old.torrents before g x.call in
    chosen _ _ _ _ _ swarm
    (λ fact. chosen _ _ _ _ _ bucket
    (λ deep. either (is_no_memory x.answer) _ _ _ _ (λ free. sym want ∙ free) (tells_right g past (x ∷ past) old new x.call x.answer after.on_time kept holds.noted holds.lost) deep)
    fact)
    right

-- a bucket that stands for a history, answers right by what it has stored and makes the entry's
-- step stands for the longer history
pub stands_judged : (history : List Entry) (x : Entry) (old new : Shape) → StandsFor history old → IsWellFormed x.call → IsRightFor old new x.call x.answer → StepsTo x old new → StandsFor (history ++ x ∷ []) new
stands_judged history x old new stands formed right step = stands_step history x old new stands formed (judged_right x (reverse history) old new stands.holds step right) step
