-- Histories stay alike.
use Rattle.std.proofs.Common.{◌≡◌, ◌≢◌, ℕ, suc, ◌+◌, ◌≤◌, max, Bool, true, false, ◌&&◌, List, [], ◌∷◌, ◌++◌, Option, Some, None, refl, sym, ◌∙◌, ap, subst, arith, cond, if◌then◌else◌, length, map, reverse}
use Rattle.std.specs.Bool.{◌==◌}
use Rattle.std.specs.List.{filter, AllByRecursion}
use Rattle.std.specs.Option.{option_map_or}
use Rattle.ot_base.specs.Address.{no_endpoint}
use Rattle.ot_base.specs.Same.{same_hash, same_endpoint}
use Rattle.ot_base.proofs.SameLemmas.{same_hash_decides}
use Rattle.ot_base.specs.declared.address.Endpoint.{Endpoint}
use Rattle.ot_base.specs.declared.hash.InfoHash.{InfoHash}
use Rattle.ot_base.specs.declared.minute.Minute.{Minute}
use Rattle.ot_base.specs.declared.peer.Held.{Held}
use Rattle.tracker_model.specs.Calls.{IsReport, is_about, is_joining, subject}
use Rattle.tracker_model.specs.Entries.{time_of, is_effective}
use Rattle.tracker_model.specs.Known.{Standing, known}
use Rattle.tracker_model.specs.Live.{live}
use Rattle.tracker_model.specs.Placed.{bucket_for}
use Rattle.tracker_model.specs.declared.call.Call.{Call}
use Rattle.tracker_model.specs.declared.call.Call.TheVariants.{Announce, Stop, Scrape, Scan, Clean, Sync, Drain}
use Rattle.tracker_model.specs.declared.entry.Entry.{Entry}
use Rattle.tracker_model.proofs.Cases.{by_test}
use Rattle.tracker_model.proofs.KnownLemmas.{known_agrees_later}
use Rattle.tracker_model.proofs.LiveLemmas.{live_agrees_later}
use Rattle.load_model.specs.Alike.{AreAlike, IsMade, after, after_calls}
use Rattle.load_model.specs.Load.{made}
use Rattle.load_model.proofs.Lookups.{IsOfLoad, said, touched, downloads_by, who_of, live_then, known_then, live-then, known-then, live_commutes, known_commutes, unnamed_about}
use Rattle.load_model.proofs.Shuffle.{shuffled}

-- ---- at one minute

pub time_then : (x : Entry) (past : List Entry) (minute : ℕ) → x.minute.0 ≡ minute → time_of past ≤ minute → time_of (x ∷ past) ≡ minute
time_then x past minute at on_time = omega arith

-- what is live and known after such an entry
module _ (minute : ℕ) (h : InfoHash) (call : Call) (of_load : IsOfLoad call) (x : Entry) (past : List Entry) (is : IsMade minute call x) (on_time : time_of past ≤ minute) where
  pub live_made : (e : Endpoint) → live (x ∷ past) h e minute ≡ live_then minute h e call (live past h e minute)
  live_made e =
      live-then x past is.took h minute (time_then x past minute is.at on_time) (subst IsOfLoad (sym is.calls) of_load) e
      ∙ ap (λ c. live_then minute h e c (live past h e minute)) is.calls

  pub known_made : (d : Endpoint) → known (x ∷ past) h minute ≡ known_then minute h call (live past h (who_of d call) minute) (known past h minute)
  known_made d =
      known-then x past is.took h minute (time_then x past minute is.at on_time) (subst IsOfLoad (sym is.calls) of_load) d
      ∙ ap (λ c. known_then minute h c (live past h (who_of d c) minute) (known past h minute)) is.calls

pub made_is : (minute : Minute) (call : Call) → IsMade minute.0 call (made minute call)
made_is minute call = record { took = refl; at = refl; calls = refl }

pub alike_itself : (minute : ℕ) (h : InfoHash) (past : List Entry) → time_of past ≤ minute → AreAlike minute h past past
alike_itself minute h past on_time = record { peers = λ e. refl; torrent = refl; on_time = on_time; other_on_time = on_time }

pub alike_turned : (minute : ℕ) (h : InfoHash) (a b : List Entry) → AreAlike minute h a b → AreAlike minute h b a
alike_turned minute h a b ab = record { peers = λ e. sym (ab.peers e); torrent = sym ab.torrent; on_time = ab.other_on_time; other_on_time = ab.on_time }

pub alike_chain : (minute : ℕ) (h : InfoHash) (a b c : List Entry) → AreAlike minute h a b → AreAlike minute h b c → AreAlike minute h a c
alike_chain minute h a b c ab bc = record { peers = λ e. ab.peers e ∙ bc.peers e; torrent = ab.torrent ∙ bc.torrent; on_time = ab.on_time; other_on_time = bc.other_on_time }

pub alike_later : (now later : ℕ) → now ≤ later → (h : InfoHash) (a b : List Entry) → AreAlike now h a b → AreAlike later h a b
alike_later now later le h a b ab = record {
  peers = λ e. live_agrees_later now later le _ _ (ab.peers e);
  torrent = known_agrees_later now later le _ _ ab.torrent;
  on_time = (let first = ab.on_time in omega arith);
  other_on_time = (let other = ab.other_on_time in omega arith);
}

-- the endpoint of a call that reports on none
abbrev pub some_endpoint : Endpoint
some_endpoint = no_endpoint

-- the same call on both sides
pub alike_more : (minute : ℕ) (h : InfoHash) (call : Call) → IsOfLoad call → (x y : Entry) (a b : List Entry) → IsMade minute call x → IsMade minute call y → AreAlike minute h a b → AreAlike minute h (x ∷ a) (y ∷ b)
alike_more minute h call of_load x y a b is also ab =
    record {
      peers = λ e. live_made minute h call of_load x a is ab.on_time e ∙ ap (λ l. live_then minute h e call l) (ab.peers e) ∙ sym (live_made minute h call of_load y b also ab.other_on_time e);
      torrent = known_made minute h call of_load x a is ab.on_time some_endpoint
          ∙ ap (λ l. known_then minute h call l (known a h minute)) (ab.peers (who_of some_endpoint call))
          ∙ ap (λ k. known_then minute h call (live b h (who_of some_endpoint call) minute) k) ab.torrent
          ∙ sym (known_made minute h call of_load y b also ab.other_on_time some_endpoint);
      on_time = (let e = time_then x a minute is.at ab.on_time in omega arith);
      other_on_time = (let e = time_then y b minute also.at ab.other_on_time in omega arith);
    }

-- ---- calls in a row

reports_of_load : (call : Call) → IsReport call → IsOfLoad call
reports_of_load (Announce h e seed completed want) report = tt
reports_of_load (Stop h e) report = tt
reports_of_load (Scrape h) report = absurd report
reports_of_load Scan report = tt
reports_of_load Clean report = absurd report
reports_of_load (Sync h e mark) report = absurd report
reports_of_load Drain report = absurd report

module _ (minute : Minute) (h : InfoHash) where
  -- a call says nothing of another endpoint
  unsaid : (call : Call) (e : Endpoint) (before : Option Held) → who_of some_endpoint call ≢ e → live_then minute.0 h e call before ≡ before
  unsaid call e before apart = ap (λ b. if b then said minute.0 e call else before) (unnamed_about call h some_endpoint e apart)

  -- two calls of different endpoints, in either order
  alike_swapped : (c d : Call) → IsOfLoad c → IsOfLoad d → who_of some_endpoint c ≢ who_of some_endpoint d → (past : List Entry) → time_of past ≤ minute.0 →
      AreAlike minute.0 h (made minute d ∷ made minute c ∷ past) (made minute c ∷ made minute d ∷ past)
  alike_swapped c d c_of d_of apart past on_time =
      let m = minute.0 in
      let x = made minute c in
      let y = made minute d in
      let x_on : time_of (x ∷ past) ≤ m = (let e = time_then x past m refl on_time in omega arith) in
      let y_on : time_of (y ∷ past) ≤ m = (let e = time_then y past m refl on_time in omega arith) in
      let live_c = live_made m h c c_of x past (made_is minute c) on_time in
      let live_d = live_made m h d d_of y past (made_is minute d) on_time in
      let c_who = who_of some_endpoint c in
      let d_who = who_of some_endpoint d in
      record {
        peers = λ e.
            live_made m h d d_of y (x ∷ past) (made_is minute d) x_on e
            ∙ ap (λ l. live_then m h e d l) (live_c e)
            ∙ live_commutes m h some_endpoint e c d (live past h e m) apart
            ∙ sym (ap (λ l. live_then m h e c l) (live_d e))
            ∙ sym (live_made m h c c_of x (y ∷ past) (made_is minute c) y_on e);
        torrent =
            known_made m h d d_of y (x ∷ past) (made_is minute d) x_on some_endpoint
            ∙ ap (λ k. known_then m h d (live (x ∷ past) h d_who m) k) (known_made m h c c_of x past (made_is minute c) on_time some_endpoint)
            ∙ ap (λ l. known_then m h d l (known_then m h c (live past h c_who m) (known past h m))) (live_c d_who ∙ unsaid c d_who (live past h d_who m) apart)
            ∙ known_commutes m h c d (live past h c_who m) (live past h d_who m) (known past h m)
            ∙ sym (ap (λ l. known_then m h c l (known_then m h d (live past h d_who m) (known past h m))) (live_d c_who ∙ unsaid d c_who (live past h c_who m) (λ e. apart (sym e))))
            ∙ sym (ap (λ k. known_then m h c (live (y ∷ past) h c_who m) k) (known_made m h d d_of y past (made_is minute d) on_time some_endpoint))
            ∙ sym (known_made m h c c_of x (y ∷ past) (made_is minute c) y_on some_endpoint);
        on_time = (let e = time_then y (x ∷ past) m refl x_on in omega arith);
        other_on_time = (let e = time_then x (y ∷ past) m refl y_on in omega arith);
      }

  on_time_more : (call : Call) (past : List Entry) → time_of past ≤ minute.0 → time_of (made minute call ∷ past) ≤ minute.0
  on_time_more call past on_time = (let e = time_then (made minute call) past minute.0 refl on_time in omega arith)

  -- the same calls on both sides
  pub alike_calls : (calls : List Call) → AllByRecursion IsReport calls → (a b : List Entry) → AreAlike minute.0 h a b → AreAlike minute.0 h (after_calls minute a calls) (after_calls minute b calls)
  alike_calls [] reports a b ab = ab
  alike_calls (call ∷ calls) reports a b ab =
      alike_calls calls reports.1 (made minute call ∷ a) (made minute call ∷ b)
      (alike_more minute.0 h call (reports_of_load call reports.0) (made minute call) (made minute call) a b (made_is minute call) (made_is minute call) ab)

  -- entries of any callers, with any answers that took effect, on one side, and their calls on the
  -- other
  pub alike_entries : (xs : List Entry) → AllByRecursion (λ x. IsReport x.call × IsMade minute.0 x.call x) xs → (a b : List Entry) → AreAlike minute.0 h a b →
      AreAlike minute.0 h (after a xs) (after_calls minute b (map (λ (x : Entry). x.call) xs))
  alike_entries [] are a b ab = ab
  alike_entries (x ∷ xs) are a b ab =
      alike_entries xs are.1 (x ∷ a) (made minute x.call ∷ b)
      (alike_more minute.0 h x.call (reports_of_load x.call are.0.0) x (made minute x.call) a b are.0.1 (made_is minute x.call) ab)

  -- one list of calls makes of alike histories what the other one makes
  abbrev pub ActAlike : List Call → List Call → Type 0
  ActAlike cs ds = (a b : List Entry) → AreAlike minute.0 h a b → AreAlike minute.0 h (after_calls minute a cs) (after_calls minute b ds)

  module _ (key : Call → ℕ) (by_endpoint : (c d : Call) → IsReport c → IsReport d → who_of some_endpoint c ≡ who_of some_endpoint d → key c ≡ key d) where
    -- calls that agree on each key, where calls of one endpoint have one key
    pub act_alike : (cs ds : List Call) → AllByRecursion IsReport cs → AllByRecursion IsReport ds → ((k : ℕ) → filter (λ c. key c == k) cs ≡ filter (λ d. key d == k) ds) → ActAlike cs ds
    act_alike = shuffled key ActAlike IsReport alike_calls
        (λ cs ds es first next a b ab. alike_chain minute.0 h _ _ _ (first a a (alike_itself minute.0 h a ab.on_time)) (next a b ab))
        (λ c cs ds report rest a b ab. rest (made minute c ∷ a) (made minute c ∷ b)
        (alike_more minute.0 h c (reports_of_load c report) (made minute c) (made minute c) a b (made_is minute c) (made_is minute c) ab))
        (λ c d cs c_report d_report reports apart a b ab.
        let c_of = reports_of_load c c_report in
        let d_of = reports_of_load d d_report in
        let more = alike_more minute.0 h c c_of (made minute c) (made minute c) a b (made_is minute c) (made_is minute c) ab in
        let both = alike_more minute.0 h d d_of (made minute d) (made minute d) (made minute c ∷ a) (made minute c ∷ b) (made_is minute d) (made_is minute d) more in
        let turned = alike_swapped c d c_of d_of (λ e. apart (by_endpoint c d c_report d_report e)) b ab.other_on_time in
        alike_calls cs reports (made minute d ∷ made minute c ∷ a) (made minute c ∷ made minute d ∷ b)
        (alike_chain minute.0 h _ _ _ both turned))

every : {X : Type 0} (xs : List X) → AllByRecursion (λ x. Unit {0}) xs
every [] = tt
every (x ∷ xs) = (tt, every xs)

-- as many calls of each key are as many calls
pub as_many : {X : Type 0} (key : X → ℕ) (cs ds : List X) → ((k : ℕ) → filter (λ c. key c == k) cs ≡ filter (λ d. key d == k) ds) → length cs ≡ length ds
as_many {X} key cs ds agree =
    shuffled key (λ (xs ys : List X). length xs ≡ length ys) (λ x. Unit {0}) (λ xs all. refl) (λ xs ys zs first next. first ∙ next) (λ x xs ys it same. ap suc same) (λ x y xs it also all apart. refl) cs ds (every cs) (every ds) agree

-- ---- one bucket's calls among all

abbrev pub is_named : Option (InfoHash × Endpoint) → InfoHash → Bool
is_named None h = false
is_named (Some s) h = same_hash s.0 h

-- whether a call names a torrent
abbrev pub names : Call → InfoHash → Bool
names call h = is_named (subject call) h

module _ (minute : Minute) (h : InfoHash) where
  unnamed_says_nothing : (call : Call) (e : Endpoint) → names call h ≡ false → is_about call h e ≡ false
  unnamed_says_nothing call e other = elim (subject call) as (λ s. is_named s h ≡ false → option_map_or (λ s. same_hash s.0 h && same_endpoint s.1 e) s false ≡ false) [
    | None ↦ λ no. refl
    | Some s ↦ λ no. ap (λ b. b && same_endpoint s.1 e) no
  ] other

  unnamed_joins_nothing : (call : Call) → IsReport call → names call h ≡ false → is_joining call h ≡ false
  unnamed_joins_nothing (Announce g e seed completed want) report other = other
  unnamed_joins_nothing (Stop g e) report other = refl
  unnamed_joins_nothing (Scrape g) report other = refl
  unnamed_joins_nothing Scan report other = refl
  unnamed_joins_nothing Clean report other = refl
  unnamed_joins_nothing (Sync g e mark) report other = absurd report
  unnamed_joins_nothing Drain report other = refl

  -- a call on another torrent
  alike_beside : (call : Call) → IsReport call → names call h ≡ false → (a b : List Entry) → AreAlike minute.0 h a b → AreAlike minute.0 h a (made minute call ∷ b)
  alike_beside call report other a b ab =
      let m = minute.0 in
      let of_load = reports_of_load call report in record {
        peers = λ e. ab.peers e ∙ sym (live_made m h call of_load (made minute call) b (made_is minute call) ab.other_on_time e
            ∙ ap (λ c. if c then said m e call else live b h e m) (unnamed_says_nothing call e other));
        torrent = ab.torrent ∙ sym (known_made m h call of_load (made minute call) b (made_is minute call) ab.other_on_time some_endpoint
            ∙ ap (λ c. if c then touched m (downloads_by call (live b h (who_of some_endpoint call) m)) (known b h m) else known b h m) (unnamed_joins_nothing call report other));
        on_time = ab.on_time;
        other_on_time = on_time_more minute h call b ab.other_on_time;
      }

  -- of some calls only those that may name the torrent, on one side, and all on the other
  pub alike_part : (mine : Call → Bool) → ((call : Call) → IsReport call → mine call ≡ false → names call h ≡ false) → (calls : List Call) → AllByRecursion IsReport calls → (a b : List Entry) → AreAlike minute.0 h a b →
      AreAlike minute.0 h (after_calls minute a (filter mine calls)) (after_calls minute b calls)
  alike_part mine apart [] reports a b ab = ab
  alike_part mine apart (call ∷ calls) reports a b ab =
      by_test (mine call) (AreAlike minute.0 h (after_calls minute a (filter mine (call ∷ calls))) (after_calls minute b (call ∷ calls)))
      (λ is_it.
      subst (λ l. AreAlike minute.0 h (after_calls minute a l) (after_calls minute b (call ∷ calls))) (ap (λ c. cond c (call ∷ filter mine calls) (filter mine calls)) (sym is_it))
      (alike_part mine apart calls reports.1 (made minute call ∷ a) (made minute call ∷ b)
      (alike_more minute.0 h call (reports_of_load call reports.0) (made minute call) (made minute call) a b (made_is minute call) (made_is minute call) ab)))
      (λ other.
      subst (λ l. AreAlike minute.0 h (after_calls minute a l) (after_calls minute b (call ∷ calls))) (ap (λ c. cond c (call ∷ filter mine calls) (filter mine calls)) (sym other))
      (alike_part mine apart calls reports.1 a (made minute call ∷ b)
      (alike_beside call reports.0 (apart call reports.0 other) a b ab)))

  -- a torrent that no call names stays unknown
  pub unknown_still : (calls : List Call) → AllByRecursion (λ call. IsReport call × (names call h ≡ false)) calls → (past : List Entry) → time_of past ≤ minute.0 → known past h minute.0 ≡ None → known (after_calls minute past calls) h minute.0 ≡ None
  unknown_still [] others past on_time unknown = unknown
  unknown_still (call ∷ calls) others past on_time unknown =
      let beside = alike_beside call others.0.0 others.0.1 past past (alike_itself minute.0 h past on_time) in
      unknown_still calls others.1 (made minute call ∷ past) (on_time_more minute h call past on_time) (sym beside.torrent ∙ unknown)

  -- a scan
  pub alike_scanned : (x y : Entry) (a b : List Entry) → IsMade minute.0 Scan x → IsMade minute.0 Scan y → AreAlike minute.0 h a b → AreAlike minute.0 h (x ∷ a) (y ∷ b)
  alike_scanned x y a b is also ab = alike_more minute.0 h Scan tt x y a b is also ab

  -- after a scan a torrent that wasn't known isn't
  pub scan_unknown : (x : Entry) (past : List Entry) → IsMade minute.0 Scan x → time_of past ≤ minute.0 → known past h minute.0 ≡ None → known (x ∷ past) h minute.0 ≡ None
  scan_unknown x past is on_time unknown = known_made minute.0 h Scan tt x past is on_time some_endpoint ∙ unknown
