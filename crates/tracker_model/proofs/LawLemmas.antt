-- Laws of histories.
use Rattle.std.proofs.Common.{◌≡◌, ℕ, ◌+◌, ◌-◌, ◌≤◌, Bool, true, false, not, ◌&&◌, List, [], ◌∷◌, ◌++◌, reverse, Option, Some, None, refl, sym, ◌∙◌, ap, subst, arith, nat_lt, if◌then◌else◌, add-zero, min, cond}
use Rattle.std.proofs.lemmas.Bool.Decides.{nat_tests}
use Rattle.std.proofs.lemmas.List.{reverse-append}
use Rattle.std.specs.Option.{option_map_or}
use Rattle.ot_base.specs.declared.hash.InfoHash.{InfoHash}
use Rattle.ot_base.specs.declared.address.Endpoint.{Endpoint}
use Rattle.ot_base.specs.declared.peer.Held.{Held}
use Rattle.ot_base.specs.Same.{same_hash, same_endpoint}
use Rattle.ot_base.specs.declared.peer.Mark.TheVariants.{Leecher, Seed, Stopped}
use Rattle.tracker_model.specs.Calls.{Word, silent, gone, here, call_word, is_about, is_joining}
use Rattle.std.specs.List.{filter}
use Rattle.std.specs.Set.{distinct_count}
use Rattle.ot_base.specs.declared.peer.Counts.{Counts}
use Rattle.tracker_model.specs.Counted.{named_endpoints, how_many, counts_of, is_leecher}
use Rattle.tracker_model.specs.Entries.{time_of, is_effective, word_of, last_word, held_after}
use Rattle.tracker_model.specs.Known.{is_known, is_recent, touch_of, touches, downloads, downloaded_of, counts_download, is_seed, known}
use Rattle.tracker_model.specs.Legal.{IsLegalPast, IsLegalHistory}
use Rattle.tracker_model.specs.Live.{if_live, live}
use Rattle.tracker_model.specs.Outbox.{is_drain, note_of, outbox_notes, outbox_dropped}
use Rattle.tracker_model.specs.Reports.{IsReported}
use Rattle.tracker_model.specs.Settings.{Settings}
use Rattle.tracker_model.specs.Steps.{notes_with, dropped_with}
use Rattle.tracker_model.specs.declared.call.Call.{Call}
use Rattle.tracker_model.specs.declared.call.Call.TheVariants.{Announce, Stop, Scrape, Scan, Clean, Sync, Drain}
use Rattle.tracker_model.specs.declared.entry.Entry.{Entry}
use Rattle.tracker_model.specs.declared.limits.TheConstants.{PEER_MINUTES, TORRENT_MINUTES}
use Rattle.tracker_model.proofs.Cases.{by_test, and_false, both_first}
use Rattle.tracker_model.proofs.EntryLemmas.{quiet_refused, says_word, touches_announced}
use Rattle.tracker_model.proofs.KnownLemmas.{known-kept, unknown_downloads}
use Rattle.tracker_model.proofs.LiveLemmas.{live-kept, live-gone, live-here}
use Rattle.tracker_model.proofs.OutboxLemmas.{notes_after, dropped_after}

pub refused_peers : (x : Entry) (past : List Entry) → is_effective x ≡ false → (h : InfoHash) (e : Endpoint) (minute : ℕ) → live (x ∷ past) h e minute ≡ live past h e minute
refused_peers x past refused h e minute = live-kept x past h e minute ((quiet_refused x past refused).unsaid h e)

pub refused_torrents : (x : Entry) (past : List Entry) → is_effective x ≡ false → (h : InfoHash) (minute : ℕ) → time_of (x ∷ past) ≤ minute → known (x ∷ past) h minute ≡ known past h minute
refused_torrents x past refused h minute le = let quiet = quiet_refused x past refused in known-kept x past h minute (quiet.untouched h) (quiet.uncounted h) le

pub refused_notes : (g : Settings) (x : Entry) (past : List Entry) → is_effective x ≡ false → is_drain x.call ≡ false → outbox_notes g (x ∷ past) ≡ outbox_notes g past
refused_notes g x past refused stays = notes_after g x past stays ∙ ap (λ b. notes_with g (if b then note_of x.call else None) (outbox_notes g past)) refused

pub refused_dropped : (g : Settings) (x : Entry) (past : List Entry) → is_effective x ≡ false → is_drain x.call ≡ false → outbox_dropped g (x ∷ past) ≡ outbox_dropped g past
refused_dropped g x past refused stays = dropped_after g x past stays ∙ ap (λ b. dropped_with g (if b then note_of x.call else None) (outbox_notes g past) (outbox_dropped g past)) refused

pub stopped_is_gone : (x : Entry) (past : List Entry) (h : InfoHash) (e : Endpoint) (minute : ℕ) → is_effective x ≡ true → x.call ≡ Stop h e → live (x ∷ past) h e minute ≡ None
stopped_is_gone x past h e minute done is = live-gone x past h e minute (says_word x (Stop h e) h e done is refl).itself

pub announced_is_live : (x : Entry) (past : List Entry) (h : InfoHash) (e : Endpoint) (seed completed : Bool) (want : ℕ) → is_effective x ≡ true → x.call ≡ Announce h e seed completed want →
    live (x ∷ past) h e (time_of (x ∷ past)) ≡ Some (record { who = e; seed = seed; stamp = record { 0 = time_of (x ∷ past) } })
announced_is_live x past h e seed completed want done is = live-here x past h e seed (says_word x (Announce h e seed completed want) h e done is refl).itself

-- what an entry that says that an endpoint takes part is
spoken : (took about : Bool) (word : Word) (seed : Bool) → (if took && about then word else silent) ≡ here seed → (took ≡ true) × (about ≡ true) × (word ≡ here seed)
spoken true true word seed e = (refl, refl, e)
spoken true false word seed e = absurd (let p : ⊥ = cc in p)
spoken false about word seed e = absurd (let p : ⊥ = cc in p)

-- after one more entry
reported_at : (x : Entry) (past : List Entry) (h : InfoHash) (e : Endpoint) (held : Held) (word : Word) → word_of x h e ≡ word → held_after word e (time_of (x ∷ past)) (last_word past h e) ≡ Some held → (last_word past h e ≡ Some held → IsReported past h e held) → IsReported (x ∷ past) h e held
reported_at x past h e held silent said_now stands before = let old = before stands in record {
  newer = x ∷ old.newer;
  report = old.report;
  older = old.older;
  among = ap (λ l. x ∷ l) old.among;
  effective = old.effective;
  about = old.about;
  says = old.says;
  stamped = old.stamped;
  since = (said_now, old.since);
}
reported_at x past h e held gone said_now stands before = absurd (let p : ⊥ = cc in p)
reported_at x past h e held (here seed) said_now stands before =
    let parts = spoken (is_effective x) (is_about x.call h e) (call_word x.call) seed said_now in
    let flag : seed ≡ held.seed = ap (λ o. option_map_or (λ (k : Held). k.seed) o false) stands in
    let stamp : time_of (x ∷ past) ≡ held.stamp.0 = ap (λ o. option_map_or (λ (k : Held). k.stamp.0) o 0) stands in
    record {
      newer = [];
      report = x;
      older = past;
      among = refl;
      effective = parts.0;
      about = parts.1;
      says = parts.2 ∙ ap here flag;
      stamped = sym stamp;
      since = tt;
    }

-- the last word on an endpoint was said by an effective entry about it
pub reported : (past : List Entry) (h : InfoHash) (e : Endpoint) (held : Held) → last_word past h e ≡ Some held → IsReported past h e held
reported [] h e held stands = absurd (let p : ⊥ = cc in p)
reported (x ∷ past) h e held stands = reported_at x past h e held (word_of x h e) refl stands (reported past h e held)

-- what is live was last said at its stamp, and is younger than 45 minutes
if_live_some : (minute : ℕ) (o : Option Held) (held : Held) → if_live minute o ≡ Some held → (o ≡ Some held) × (nat_lt (minute - held.stamp.0) PEER_MINUTES ≡ true)
if_live_some minute None held stands = absurd (let p : ⊥ = cc in p)
if_live_some minute (Some found) held stands =
    by_test (nat_lt (minute - found.stamp.0) PEER_MINUTES) ((Some found ≡ Some held) × (nat_lt (minute - held.stamp.0) PEER_MINUTES ≡ true))
    (λ young.
    let same : Some found ≡ Some held = sym (ap (λ b. if b then Some found else None) young) ∙ stands in
    let stamp : found.stamp.0 ≡ held.stamp.0 = ap (λ o. option_map_or (λ (k : Held). k.stamp.0) o 0) same in
    (same, ap (λ n. nat_lt (minute - n) PEER_MINUTES) (sym stamp) ∙ young))
    (λ old. let none : None ≡ Some held = sym (ap (λ b. if b then Some found else None) old) ∙ stands in absurd (let p : ⊥ = cc in p))

pub live_reported : (past : List Entry) (h : InfoHash) (e : Endpoint) (minute : ℕ) (held : Held) → live past h e minute ≡ Some held → IsReported past h e held
live_reported past h e minute held stands = reported past h e held (if_live_some minute (last_word past h e) held stands).0

pub live_earlier : (past : List Entry) (h : InfoHash) (e : Endpoint) (earlier later : ℕ) (held : Held) → earlier ≤ later → live past h e later ≡ Some held → live past h e earlier ≡ Some held
live_earlier past h e earlier later held le stands =
    let parts = if_live_some later (last_word past h e) held stands in
    let young : nat_lt (earlier - held.stamp.0) PEER_MINUTES ≡ true = (let before = parts.1 in grind (arith, nat_tests)) in
    ap (λ o. if_live earlier o) parts.0 ∙ ap (λ b. if b then Some held else None) young

pub gone_at_45 : (past : List Entry) (h : InfoHash) (e : Endpoint) (minute : ℕ) (held : Held) → last_word past h e ≡ Some held → held.stamp.0 + 45 ≤ minute → live past h e minute ≡ None
gone_at_45 past h e minute held last old =
    let aged : nat_lt (minute - held.stamp.0) PEER_MINUTES ≡ false = grind (arith, nat_tests) in
    ap (λ o. if_live minute o) last ∙ ap (λ b. if b then Some held else None) aged

pub forgotten : (past : List Entry) (h : InfoHash) (minute touch : ℕ) → touch_of past h ≡ Some touch → touch + 1440 ≤ minute → is_known past h minute ≡ false
forgotten past h minute touch last old =
    let aged : nat_lt (minute - touch) TORRENT_MINUTES ≡ false = grind (arith, nat_tests) in
    ap (λ o. is_recent minute o) last ∙ aged

pub counts_anew : (x : Entry) (past : List Entry) (h : InfoHash) → is_known past h (time_of (x ∷ past)) ≡ false → downloads (x ∷ past) h ≡ (if counts_download x h past then 1 else 0)
counts_anew x past h unknown =
    ap (λ b. (if b then downloads past h else 0) + (if counts_download x h past then 1 else 0)) unknown
    ∙ elim (counts_download x h past) as (λ b. 0 + (if b then 1 else 0) ≡ (if b then 1 else 0)) [ true ↦ refl | false ↦ refl ]

-- a call that says that an endpoint takes part in a torrent touches it
joining_said : (call : Call) (h : InfoHash) (e : Endpoint) (seed : Bool) → is_about call h e ≡ true → call_word call ≡ here seed → is_joining call h ≡ true
joining_said (Announce hash who flag completed want) h e seed about says = both_first (same_hash hash h) (same_endpoint who e) about
joining_said (Stop hash who) h e seed about says = absurd (let p : ⊥ = cc in p)
joining_said (Scrape hash) h e seed about says = absurd (let p : ⊥ = cc in p)
joining_said Scan h e seed about says = absurd (let p : ⊥ = cc in p)
joining_said Clean h e seed about says = absurd (let p : ⊥ = cc in p)
joining_said (Sync hash who Leecher) h e seed about says = both_first (same_hash hash h) (same_endpoint who e) about
joining_said (Sync hash who Seed) h e seed about says = both_first (same_hash hash h) (same_endpoint who e) about
joining_said (Sync hash who Stopped) h e seed about says = absurd (let p : ⊥ = cc in p)
joining_said Drain h e seed about says = absurd (let p : ⊥ = cc in p)

-- the last touch of a torrent isn't before a stamp in it, nor after the bucket's time
record IsTouchedSince (past : List Entry) (h : InfoHash) (stamp : ℕ) : Type 0 where
  touch : ℕ
  last : touch_of past h ≡ Some touch
  not_before : stamp ≤ touch
  not_after : touch ≤ time_of past

touched_at : (x : Entry) (past : List Entry) (h : InfoHash) (e : Endpoint) (held : Held) (word : Word) → word_of x h e ≡ word → held_after word e (time_of (x ∷ past)) (last_word past h e) ≡ Some held → (last_word past h e ≡ Some held → IsTouchedSince past h held.stamp.0) → IsTouchedSince (x ∷ past) h held.stamp.0
touched_at x past h e held silent said_now stands before =
    let old = before stands in
    by_test (touches x h) (IsTouchedSince (x ∷ past) h held.stamp.0)
    (λ again. record { touch = time_of (x ∷ past); last = ap (λ b. if b then Some (time_of (x ∷ past)) else touch_of past h) again; not_before = omega (arith, old.not_before, old.not_after); not_after = omega arith })
    (λ untouched. record { touch = old.touch; last = ap (λ b. if b then Some (time_of (x ∷ past)) else touch_of past h) untouched ∙ old.last; not_before = old.not_before; not_after = omega (arith, old.not_after) })
touched_at x past h e held gone said_now stands before = absurd (let p : ⊥ = cc in p)
touched_at x past h e held (here seed) said_now stands before =
    let parts = spoken (is_effective x) (is_about x.call h e) (call_word x.call) seed said_now in
    let stamp : time_of (x ∷ past) ≡ held.stamp.0 = ap (λ o. option_map_or (λ (k : Held). k.stamp.0) o 0) stands in
    let again : touches x h ≡ true = ap (λ b. b && is_joining x.call h) parts.0 ∙ joining_said x.call h e seed parts.1 parts.2 in
    record { touch = time_of (x ∷ past); last = ap (λ b. if b then Some (time_of (x ∷ past)) else touch_of past h) again; not_before = omega arith; not_after = omega arith }

touched_since : (past : List Entry) (h : InfoHash) (e : Endpoint) (held : Held) → last_word past h e ≡ Some held → IsTouchedSince past h held.stamp.0
touched_since [] h e held stands = absurd (let p : ⊥ = cc in p)
touched_since (x ∷ past) h e held stands = touched_at x past h e held (word_of x h e) refl stands (touched_since past h e held)

-- a torrent with a live peer is known
pub live_is_known : (past : List Entry) (h : InfoHash) (e : Endpoint) (minute : ℕ) (held : Held) → live past h e minute ≡ Some held → is_known past h minute ≡ true
live_is_known past h e minute held stands =
    let parts = if_live_some minute (last_word past h e) held stands in
    let since = touched_since past h e held parts.0 in
    let young : nat_lt (minute - since.touch) TORRENT_MINUTES ≡ true = (let before = parts.1 in let le = since.not_before in grind (arith, nat_tests)) in
    ap (λ o. is_recent minute o) since.last ∙ young

-- a completed announce of a live seed adds no download
pub seed_adds_nothing : (x : Entry) (past : List Entry) (h : InfoHash) (e : Endpoint) (seed completed : Bool) (want : ℕ) (held : Held) → is_effective x ≡ true → x.call ≡ Announce h e seed completed want →
    live past h e (time_of (x ∷ past)) ≡ Some held → held.seed ≡ true → downloads (x ∷ past) h ≡ downloads past h
seed_adds_nothing x past h e seed completed want held done is stands seeds =
    let now = time_of (x ∷ past) in
    let none : counts_download x h past ≡ false =
    (touches_announced x past h e seed completed want done is).counted
    ∙ ap (λ o. completed && not (is_seed o)) stands ∙ ap (λ b. completed && not b) seeds ∙ and_false completed in
    ap (λ b. (if b then downloads past h else 0) + (if counts_download x h past then 1 else 0)) (live_is_known past h e now held stands)
    ∙ ap (λ b. downloads past h + (if b then 1 else 0)) none ∙ add-zero (downloads past h)

legal_tail : (g : Settings) (newer older : List Entry) → IsLegalPast g (newer ++ older) → IsLegalPast g older
legal_tail g [] older legal = legal
legal_tail g (x ∷ newer) older legal = legal_tail g newer older legal.2

pub legal_prefix : (g : Settings) (history more : List Entry) → IsLegalHistory g (history ++ more) → IsLegalHistory g history
legal_prefix g history more legal = let P : List Entry → Type 0 = λ past. IsLegalPast g past in legal_tail g (reverse more) (reverse history) (subst P (reverse-append history more) legal)

-- nothing is live of a torrent that isn't known
nobody_live : (past : List Entry) (h : InfoHash) (minute : ℕ) → is_known past h minute ≡ false → (e : Endpoint) (o : Option Held) → live past h e minute ≡ o → o ≡ None
nobody_live past h minute unknown e None is = refl
nobody_live past h minute unknown e (Some held) is = let q : true ≡ false = sym (live_is_known past h e minute held is) ∙ unknown in absurd (let p : ⊥ = cc in p)

none_pass : (p : Endpoint → Bool) → ((e : Endpoint) → p e ≡ false) → (es : List Endpoint) → filter p es ≡ []
none_pass p none [] = refl
none_pass p none (e ∷ es) = ap (λ b. cond b (e ∷ filter p es) (filter p es)) (none e) ∙ none_pass p none es

none_of_unknown : (past : List Entry) (h : InfoHash) (minute : ℕ) (test : Option Held → Bool) → test None ≡ false → is_known past h minute ≡ false → how_many test past h minute ≡ 0
none_of_unknown past h minute test nothing unknown =
    ap (λ es. distinct_count same_endpoint es) (none_pass (λ e. test (live past h e minute)) (λ e. ap test (nobody_live past h minute unknown e (live past h e minute) refl) ∙ nothing) (named_endpoints past h))

pub unknown_counts : (past : List Entry) (h : InfoHash) → is_known past h (time_of past) ≡ false → counts_of past h ≡ record { complete = 0; downloaded = 0; incomplete = 0 }
unknown_counts past h unknown =
    let now = time_of past in
    let told = λ (c d i : ℕ). (let counts : Counts = record { complete = c; downloaded = d; incomplete = i } in counts) in
    ap (λ n. told n (downloaded_of past h) (how_many is_leecher past h now)) (none_of_unknown past h now is_seed refl unknown)
    ∙ ap (λ n. told 0 (downloaded_of past h) n) (none_of_unknown past h now is_leecher refl unknown)
    ∙ ap (λ n. told 0 (min 4294967295 n) 0) (unknown_downloads past h unknown)
