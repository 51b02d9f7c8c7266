-- What is live and known after a call that took effect, by what was before.
use Rattle.std.proofs.Common.{◌≡◌, ◌≢◌, ℕ, ◌+◌, ◌≤◌, max, min, Bool, true, false, not, ◌&&◌, List, [], ◌∷◌, Option, Some, None, refl, sym, ◌∙◌, ap, subst, arith, if◌then◌else◌}
use Rattle.ot_base.specs.Same.{same_hash, same_endpoint}
use Rattle.ot_base.proofs.SameLemmas.{same_hash_decides, same_endpoint_decides}
use Rattle.ot_base.specs.declared.address.Endpoint.{Endpoint}
use Rattle.ot_base.specs.declared.hash.InfoHash.{InfoHash}
use Rattle.ot_base.specs.declared.peer.Held.{Held}
use Rattle.tracker_model.specs.Calls.{here, gone, is_about, is_joining}
use Rattle.tracker_model.specs.Counted.{same_subject}
use Rattle.tracker_model.specs.Entries.{time_of, is_effective}
use Rattle.tracker_model.specs.Known.{Standing, known, is_seed}
use Rattle.tracker_model.specs.Live.{live}
use Rattle.tracker_model.specs.Shape.{downloads_in}
use Rattle.tracker_model.specs.Steps.{one_more}
use Rattle.tracker_model.specs.declared.call.Call.{Call}
use Rattle.tracker_model.specs.declared.call.Call.TheVariants.{Announce, Stop, Scrape, Scan, Clean, Sync, Drain}
use Rattle.tracker_model.specs.declared.entry.Entry.{Entry}
use Rattle.tracker_model.proofs.Cases.{by_test}
use Rattle.tracker_model.proofs.EntryLemmas.{says_word, touches_announced, leaves_untouched, leaves_uncounted, quiet_asking}
use Rattle.tracker_model.proofs.KnownLemmas.{known-kept, known-touched}
use Rattle.tracker_model.proofs.LiveLemmas.{live-kept, live-gone, live-here}
use Rattle.tracker_model.proofs.StepLemmas.{same_subject_decides}

-- the calls of a load: announces, stops and scans
abbrev pub IsOfLoad : Call → Type 0
IsOfLoad (Announce h e seed completed want) = Unit {0}
IsOfLoad (Stop h e) = Unit {0}
IsOfLoad (Scrape h) = ⊥
IsOfLoad Scan = Unit {0}
IsOfLoad Clean = ⊥
IsOfLoad (Sync h e mark) = ⊥
IsOfLoad Drain = ⊥

-- the endpoint that a call reports on, where it reports on one
abbrev pub who_of : Endpoint → Call → Endpoint
who_of d (Announce h e seed completed want) = e
who_of d (Stop h e) = e
who_of d (Scrape h) = d
who_of d Scan = d
who_of d Clean = d
who_of d (Sync h e mark) = e
who_of d Drain = d

-- what an announce or a stop makes of the endpoint that it reports on
abbrev pub said : ℕ → Endpoint → Call → Option Held
said minute e (Announce h d seed completed want) = Some (record { who = e; seed = seed; stamp = record { 0 = minute } })
said minute e (Stop h d) = None
said minute e (Scrape h) = None
said minute e Scan = None
said minute e Clean = None
said minute e (Sync h d mark) = None
said minute e Drain = None

-- whether a call is a download, if this was live of its endpoint
abbrev pub downloads_by : Call → Option Held → Bool
downloads_by (Announce h d seed completed want) was = completed && not (is_seed was)
downloads_by (Stop h d) was = false
downloads_by (Scrape h) was = false
downloads_by Scan was = false
downloads_by Clean was = false
downloads_by (Sync h d mark) was = false
downloads_by Drain was = false

-- what stands of a torrent that is touched
abbrev pub touched : ℕ → Bool → Option Standing → Option Standing
touched minute is_one before = Some (record { touch = minute; downloaded = one_more is_one (downloads_in before) })

abbrev pub live_then : ℕ → InfoHash → Endpoint → Call → Option Held → Option Held
live_then minute h e call before = if is_about call h e then said minute e call else before

abbrev pub known_then : ℕ → InfoHash → Call → (was : Option Held) → Option Standing → Option Standing
known_then minute h call was before = if is_joining call h then touched minute (downloads_by call was) before else before

module _ (x : Entry) (past : List Entry) (took : is_effective x ≡ true) (h : InfoHash) where
  abbrev now : ℕ
  now = time_of (x ∷ past)

  live_now : (e : Endpoint) (call : Call) → IsOfLoad call → x.call ≡ call → live (x ∷ past) h e now ≡ live_then now h e call (live past h e now)
  live_now e (Announce g d seed completed want) of_load is =
      let says = says_word x (Announce g d seed completed want) g d took is refl in
      by_test (same_subject (g, d) (h, e)) (live (x ∷ past) h e now ≡ live_then now h e (Announce g d seed completed want) (live past h e now))
      (λ yes.
      let P : InfoHash × Endpoint → Type 0 = λ s. live (x ∷ past) s.0 s.1 now ≡ Some (record { who = s.1; seed = seed; stamp = record { 0 = now } }) in
      subst P ((same_subject_decides (g, d) (h, e)).0 yes) (live-here x past g d seed says.itself)
      ∙ ap (λ b. if b then said now e (Announce g d seed completed want) else live past h e now) (sym yes))
      (λ no. live-kept x past h e now (says.others h e no)
      ∙ ap (λ b. if b then said now e (Announce g d seed completed want) else live past h e now) (sym no))
  live_now e (Stop g d) of_load is =
      let says = says_word x (Stop g d) g d took is refl in
      by_test (same_subject (g, d) (h, e)) (live (x ∷ past) h e now ≡ live_then now h e (Stop g d) (live past h e now))
      (λ yes.
      let P : InfoHash × Endpoint → Type 0 = λ s. live (x ∷ past) s.0 s.1 now ≡ None in
      subst P ((same_subject_decides (g, d) (h, e)).0 yes) (live-gone x past g d now says.itself)
      ∙ ap (λ b. if b then said now e (Stop g d) else live past h e now) (sym yes))
      (λ no. live-kept x past h e now (says.others h e no)
      ∙ ap (λ b. if b then said now e (Stop g d) else live past h e now) (sym no))
  live_now e (Scrape g) of_load is = absurd of_load
  live_now e Scan of_load is = live-kept x past h e now ((quiet_asking x past Scan took is (λ g d. refl) (λ g. refl) (λ g. refl)).unsaid h e)
  live_now e Clean of_load is = absurd of_load
  live_now e (Sync g d mark) of_load is = absurd of_load
  live_now e Drain of_load is = absurd of_load

  known_now : (call : Call) → IsOfLoad call → (d : Endpoint) → x.call ≡ call → known (x ∷ past) h now ≡ known_then now h call (live past h (who_of d call) now) (known past h now)
  known_now (Announce g e seed completed want) of_load d is =
      let touches = touches_announced x past g e seed completed want took is in
      let told = λ (b : Bool). (if b then touched now (completed && not (is_seed (live past h e now))) (known past h now) else known past h now) in
      by_test (same_hash g h) (known (x ∷ past) h now ≡ told (same_hash g h))
      (λ yes.
      let P : InfoHash → Type 0 = λ k. known (x ∷ past) k now ≡ touched now (completed && not (is_seed (live past k e now))) (known past k now) in
      subst P ((same_hash_decides g h).0 yes) (known-touched x past g _ touches.itself touches.counted)
      ∙ ap told (sym yes))
      (λ no. known-kept x past h now (touches.others h no) (touches.uncounted h no) (let le : now ≤ now = omega arith in le)
      ∙ ap told (sym no))
  known_now (Stop g e) of_load d is =
      known-kept x past h now (leaves_untouched x (Stop g e) took is (λ k. refl) h) (leaves_uncounted x past (Stop g e) took is (λ k. refl) h) (let le : now ≤ now = omega arith in le)
  known_now (Scrape g) of_load d is = absurd of_load
  known_now Scan of_load d is =
      let quiet = quiet_asking x past Scan took is (λ g e. refl) (λ g. refl) (λ g. refl) in
      known-kept x past h now (quiet.untouched h) (quiet.uncounted h) (let le : now ≤ now = omega arith in le)
  known_now Clean of_load d is = absurd of_load
  known_now (Sync g e mark) of_load d is = absurd of_load
  known_now Drain of_load d is = absurd of_load

  -- the same at a minute that is the time then
  module _ (minute : ℕ) (on_time : now ≡ minute) (of_load : IsOfLoad x.call) where
    pub live-then : (e : Endpoint) → live (x ∷ past) h e minute ≡ live_then minute h e x.call (live past h e minute)
    live-then e = subst (λ t. live (x ∷ past) h e t ≡ live_then t h e x.call (live past h e t)) on_time (live_now e x.call of_load refl)

    pub known-then : (d : Endpoint) → known (x ∷ past) h minute ≡ known_then minute h x.call (live past h (who_of d x.call) minute) (known past h minute)
    known-then d = subst (λ t. known (x ∷ past) h t ≡ known_then t h x.call (live past h (who_of d x.call) t) (known past h t)) on_time (known_now x.call of_load d refl)

-- ---- two calls of different endpoints

second : (a b : Bool) → (a && b) ≡ true → b ≡ true
second true b both = both
second false b both = absurd (let p : ⊥ = cc in p)

-- a call that reports on an endpoint of a torrent names it
about_names : (call : Call) (h : InfoHash) (d e : Endpoint) → is_about call h e ≡ true → who_of d call ≡ e
about_names (Announce g c seed completed want) h d e about = (same_endpoint_decides c e).0 (second (same_hash g h) (same_endpoint c e) about)
about_names (Stop g c) h d e about = (same_endpoint_decides c e).0 (second (same_hash g h) (same_endpoint c e) about)
about_names (Scrape g) h d e about = absurd (let p : ⊥ = cc in p)
about_names Scan h d e about = absurd (let p : ⊥ = cc in p)
about_names Clean h d e about = absurd (let p : ⊥ = cc in p)
about_names (Sync g c mark) h d e about = (same_endpoint_decides c e).0 (second (same_hash g h) (same_endpoint c e) about)
about_names Drain h d e about = absurd (let p : ⊥ = cc in p)

-- one that names another says nothing of it
pub unnamed_about : (call : Call) (h : InfoHash) (d e : Endpoint) → who_of d call ≢ e → is_about call h e ≡ false
unnamed_about call h d e apart = by_test (is_about call h e) (is_about call h e ≡ false) (λ yes. absurd (apart (about_names call h d e yes))) (λ no. no)

one_of_two : {X : Type 0} (a b : Bool) (x y z : X) → (a ≡ true → b ≡ false) → (if b then y else (if a then x else z)) ≡ (if a then x else (if b then y else z))
one_of_two true true x y z apart = let e : true ≡ false = apart refl in absurd (let p : ⊥ = cc in p)
one_of_two true false x y z apart = refl
one_of_two false b x y z apart = refl

pub live_commutes : (minute : ℕ) (h : InfoHash) (d e : Endpoint) (a b : Call) (before : Option Held) → who_of d a ≢ who_of d b → live_then minute h e b (live_then minute h e a before) ≡ live_then minute h e a (live_then minute h e b before)
live_commutes minute h d e a b before apart =
    one_of_two (is_about a h e) (is_about b h e) (said minute e a) (said minute e b) before
    (λ yes. unnamed_about b h d e (λ same. apart (about_names a h d e yes ∙ sym same)))

adds_commute : (a b : Bool) (n : ℕ) → one_more b (one_more a n) ≡ one_more a (one_more b n)
adds_commute true true n = refl
adds_commute true false n = refl
adds_commute false true n = refl
adds_commute false false n = refl

touches_commute : (minute : ℕ) (a b is_one is_two : Bool) (before : Option Standing) →
    (if b then touched minute is_two (if a then touched minute is_one before else before) else (if a then touched minute is_one before else before))
    ≡ (if a then touched minute is_one (if b then touched minute is_two before else before) else (if b then touched minute is_two before else before))
touches_commute minute true true is_one is_two before = ap (λ n. Some (let s : Standing = record { touch = minute; downloaded = n } in s)) (adds_commute is_one is_two (downloads_in before))
touches_commute minute true false is_one is_two before = refl
touches_commute minute false true is_one is_two before = refl
touches_commute minute false false is_one is_two before = refl

pub known_commutes : (minute : ℕ) (h : InfoHash) (a b : Call) (was is : Option Held) (before : Option Standing) → known_then minute h b is (known_then minute h a was before) ≡ known_then minute h a was (known_then minute h b is before)
known_commutes minute h a b was is before = touches_commute minute (is_joining a h) (is_joining b h) (downloads_by a was) (downloads_by b is) before
