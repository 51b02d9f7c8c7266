-- The requests of a load, and its history.
use Rattle.std.proofs.Common.{◌≡◌, ◌≢◌, ℕ, zero, suc, ◌+◌, ◌*◌, ◌/◌, ◌%◌, ◌<◌, ◌≤◌, Bool, true, false, List, [], ◌∷◌, ◌++◌, Option, Some, None, refl, sym, ◌∙◌, ap, subst, cond, arith, length, map, nat_lt, reverse, append_assoc}
use Rattle.std.proofs.lemmas.Bool.Decides.{nat_tests}
use Rattle.std.proofs.lemmas.List.{append-nil, reverse-append}
use Rattle.std.specs.Bool.{◌==◌}
use Rattle.std.specs.List.{filter, AllByRecursion}
use Rattle.std.specs.Set.{is_member}
use Rattle.ot_base.specs.Same.{same_hash}
use Rattle.ot_base.proofs.SameLemmas.{same_hash_decides}
use Rattle.ot_base.specs.declared.address.Endpoint.{Endpoint}
use Rattle.ot_base.specs.declared.hash.InfoHash.{InfoHash}
use Rattle.ot_base.specs.declared.minute.Minute.{Minute}
use Rattle.tracker_model.specs.Calls.{IsPeer, IsReport, IsWellFormed, names_torrent}
use Rattle.tracker_model.specs.Entries.{time_of}
use Rattle.tracker_model.specs.Known.{known}
use Rattle.tracker_model.specs.declared.call.Call.{Call}
use Rattle.tracker_model.specs.declared.call.Call.TheVariants.{Announce, Stop, Scrape, Scan, Clean, Sync, Drain}
use Rattle.tracker_model.specs.declared.entry.Entry.{Entry}
use Rattle.tracker_model.proofs.Cases.{by_test}
use Rattle.tracker_model.proofs.KnownLemmas.{known_agrees_later}
use Rattle.load_model.specs.Alike.{after, after_calls}
use Rattle.load_model.specs.Load.{call_by, call_of, caller_number, made, past_after, peer_at, peer_number, phase_minute, requests, requests_in, torrent_hash}
use Rattle.load_model.specs.declared.request.Request.{Request}
use Rattle.load_model.specs.declared.settings.DrillSettings.{DrillSettings}
use Rattle.load_model.proofs.AlikeLemmas.{alike_calls, alike_itself, made_is, names, scan_unknown, some_endpoint, time_then, unknown_still}
use Rattle.load_model.proofs.Lookups.{who_of}
use Rattle.load_model.proofs.PartLemmas.{all_mapped}
use Rattle.load_model.proofs.TorrentLemmas.{torrent_among, torrents}

-- ---- requests

pub call_reports : (r : Request) → IsReport (call_of r)
call_reports r = elim (r.first / 64 % 8) as (λ kind. IsReport (call_by kind (torrent_hash (r.first % 64)) (peer_at (peer_number r)))) [ zero ↦ tt | suc kind ↦ tt ]

call_names_one : (r : Request) (q : InfoHash) → names (call_of r) q ≡ same_hash (torrent_hash (r.first % 64)) q
call_names_one r q = elim (r.first / 64 % 8) as (λ kind. names (call_by kind (torrent_hash (r.first % 64)) (peer_at (peer_number r))) q ≡ same_hash (torrent_hash (r.first % 64)) q) [ zero ↦ refl | suc kind ↦ refl ]

-- a request names a torrent of the load
pub call_names : (r : Request) (q : InfoHash) → is_member same_hash torrents q ≡ false → names (call_of r) q ≡ false
call_names r q never =
    call_names_one r q
    ∙ by_test (same_hash (torrent_hash (r.first % 64)) q) (same_hash (torrent_hash (r.first % 64)) q ≡ false)
    (λ same.
    let among : is_member same_hash torrents q ≡ true = subst (λ h. is_member same_hash torrents h ≡ true) ((same_hash_decides (torrent_hash (r.first % 64)) q).0 same) (torrent_among (r.first % 64) (omega arith)) in
    let e : true ≡ false = sym among ∙ never in absurd (let p : ⊥ = cc in p))
    (λ differ. differ)

-- the call's peer is the request's
pub call_caller : (r : Request) → caller_number (call_of r) ≡ peer_number r
call_caller r =
    let e = peer_number r in
    let parts : e / 256 * 256 + e % 256 ≡ e = omega arith in
    (elim (r.first / 64 % 8) as (λ kind. caller_number (call_by kind (torrent_hash (r.first % 64)) (peer_at e)) ≡ e / 256 * 256 + e % 256) [ zero ↦ refl | suc kind ↦ refl ]) ∙ parts

-- calls of one endpoint are of one peer
pub caller_by_endpoint : (workers : ℕ) (c d : Call) → IsReport c → IsReport d → who_of some_endpoint c ≡ who_of some_endpoint d → caller_number c % workers ≡ caller_number d % workers
caller_by_endpoint workers (Announce g e seed completed want) (Announce h d seed' completed' want') a b same = ap (λ (p : Endpoint). caller_number (Stop g p) % workers) same
caller_by_endpoint workers (Announce g e seed completed want) (Stop h d) a b same = ap (λ (p : Endpoint). caller_number (Stop g p) % workers) same
caller_by_endpoint workers (Stop g e) (Announce h d seed completed want) a b same = ap (λ (p : Endpoint). caller_number (Stop g p) % workers) same
caller_by_endpoint workers (Stop g e) (Stop h d) a b same = ap (λ (p : Endpoint). caller_number (Stop g p) % workers) same
caller_by_endpoint workers (Scrape g) d a b same = absurd a
caller_by_endpoint workers Scan d a b same = absurd a
caller_by_endpoint workers Clean d a b same = absurd a
caller_by_endpoint workers (Sync g e mark) d a b same = absurd a
caller_by_endpoint workers Drain d a b same = absurd a
caller_by_endpoint workers (Announce g e seed completed want) (Scrape h) a b same = absurd b
caller_by_endpoint workers (Announce g e seed completed want) Scan a b same = absurd b
caller_by_endpoint workers (Announce g e seed completed want) Clean a b same = absurd b
caller_by_endpoint workers (Announce g e seed completed want) (Sync h d mark) a b same = absurd b
caller_by_endpoint workers (Announce g e seed completed want) Drain a b same = absurd b
caller_by_endpoint workers (Stop g e) (Scrape h) a b same = absurd b
caller_by_endpoint workers (Stop g e) Scan a b same = absurd b
caller_by_endpoint workers (Stop g e) Clean a b same = absurd b
caller_by_endpoint workers (Stop g e) (Sync h d mark) a b same = absurd b
caller_by_endpoint workers (Stop g e) Drain a b same = absurd b

-- ---- histories in either order

pub reverse_after : (history xs : List Entry) → reverse (history ++ xs) ≡ after (reverse history) xs
reverse_after history [] = ap reverse (append-nil history)
reverse_after history (x ∷ xs) =
    ap reverse (sym (append_assoc history (x ∷ []) xs))
    ∙ reverse_after (history ++ x ∷ []) xs
    ∙ ap (λ past. after past xs) (reverse-append history (x ∷ []))

onto_after : (xs past : List Entry) → reverse xs ++ past ≡ after past xs
onto_after [] past = refl
onto_after (x ∷ xs) past =
    ap (λ l. l ++ past) (reverse-append (x ∷ []) xs)
    ∙ append_assoc (reverse xs) (x ∷ []) past
    ∙ onto_after xs (x ∷ past)

calls_after : (minute : Minute) (rs : List Request) (past : List Entry) → after past (map (λ r. made minute (call_of r)) rs) ≡ after_calls minute past (map call_of rs)
calls_after minute [] past = refl
calls_after minute (r ∷ rs) past = calls_after minute rs (made minute (call_of r) ∷ past)

-- what is known after a phase: its calls, and then the scan
pub past_after_is : (s : DrillSettings) (phase : ℕ) → past_after s (suc phase) ≡ made (phase_minute phase) Scan ∷ after_calls (phase_minute phase) (past_after s phase) (map call_of (requests_in phase (requests s)))
past_after_is s phase =
    let minute = phase_minute phase in
    let calls = map (λ r. made minute (call_of r)) (requests_in phase (requests s)) in
    ap (λ l. l ++ past_after s phase) (reverse-append calls (made minute Scan ∷ []))
    ∙ ap (λ l. made minute Scan ∷ l) (onto_after calls (past_after s phase) ∙ calls_after minute (requests_in phase (requests s)) (past_after s phase))

-- ---- the whole load

pub calls_report : (rs : List Request) → AllByRecursion IsReport (map call_of rs)
calls_report [] = tt
calls_report (r ∷ rs) = (call_reports r, calls_report rs)

unnamed_all : (q : InfoHash) → is_member same_hash torrents q ≡ false → (rs : List Request) → AllByRecursion (λ c. IsReport c × (names c q ≡ false)) (map call_of rs)
unnamed_all q never [] = tt
unnamed_all q never (r ∷ rs) = ((call_reports r, call_names r q never), unnamed_all q never rs)

-- of torrents that aren't of the load nothing is known
abbrev pub IsOutside : List Entry → ℕ → Type 0
IsOutside past minute = (q : InfoHash) → is_member same_hash torrents q ≡ false → known past q minute ≡ None

-- a load before a phase
pub record IsBefore (s : DrillSettings) (phase : ℕ) : Type 0 where
  pub on_time : time_of (past_after s phase) ≤ 15 * phase
  pub outside : IsOutside (past_after s phase) (15 * phase)

-- a load after a phase
pub record IsAfterPhase (s : DrillSettings) (phase : ℕ) : Type 0 where
  pub now : time_of (past_after s (suc phase)) ≡ 15 * phase
  pub outside : IsOutside (past_after s (suc phase)) (15 * phase)

after_phase : (s : DrillSettings) (phase : ℕ) → IsBefore s phase → IsAfterPhase s phase
after_phase s phase before =
    let minute = phase_minute phase in
    let rs = requests_in phase (requests s) in
    let past = past_after s phase in
    let calls = map call_of rs in
    let called = after_calls minute past calls in
    let h : InfoHash = record { 0 = [] } in
    let on_time : time_of called ≤ minute.0 = (alike_calls minute h calls (calls_report rs) past past (alike_itself minute.0 h past before.on_time)).on_time in
    let IsNow : List Entry → Type 0 = λ p. time_of p ≡ minute.0 in
    record {
      now = subst IsNow (sym (past_after_is s phase)) (time_then (made minute Scan) called minute.0 refl on_time);
      outside = λ q never.
          let IsNone : List Entry → Type 0 = λ p. known p q minute.0 ≡ None in
          subst IsNone (sym (past_after_is s phase))
          (scan_unknown minute q (made minute Scan) called (made_is minute Scan) on_time
          (unknown_still minute q calls (unnamed_all q never rs) past before.on_time (before.outside q never)));
    }

pub before_phase : (s : DrillSettings) (phase : ℕ) → IsBefore s phase
before_phase s zero = record { on_time = omega arith; outside = λ q never. refl }
before_phase s (suc phase) =
    let is = after_phase s phase (before_phase s phase) in
    let le : 15 * phase ≤ 15 * suc phase = omega arith in
    record {
      on_time = (let e = is.now in omega arith);
      outside = λ q never. known_agrees_later (15 * phase) (15 * suc phase) le _ None (is.outside q never);
    }

pub load_after : (s : DrillSettings) (phase : ℕ) → IsAfterPhase s phase
load_after s phase = after_phase s phase (before_phase s phase)

-- a request's call is well formed
pub call_formed : (r : Request) → IsWellFormed (call_of r)
call_formed r =
    let peer : IsPeer (peer_at (peer_number r)) = ((let e : 6881 ≢ 0 = omega arith in e), refl) in
    elim (r.first / 64 % 8) as (λ kind. IsWellFormed (call_by kind (torrent_hash (r.first % 64)) (peer_at (peer_number r)))) [
      | zero ↦ peer
      | suc kind ↦ ((λ completed. let e : (kind == 0) ≡ true = completed in let p : nat_lt kind 3 ≡ true = grind (arith, nat_tests) in p), (let few : 50 ≤ 200 = omega arith in few), peer)
    ]

pub call_names_torrent : (r : Request) → names_torrent (call_of r) ≡ true
call_names_torrent r = elim (r.first / 64 % 8) as (λ kind. names_torrent (call_by kind (torrent_hash (r.first % 64)) (peer_at (peer_number r))) ≡ true) [ zero ↦ refl | suc kind ↦ refl ]
