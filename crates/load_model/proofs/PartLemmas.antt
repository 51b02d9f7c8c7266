-- A phase in one bucket, and in the whole load.
use Rattle.std.proofs.Common.{◌≡◌, ◌≢◌, ℕ, ◌+◌, ◌≤◌, max, Bool, true, false, List, [], ◌∷◌, ◌++◌, Option, Some, None, cond, refl, sym, ◌∙◌, ap, subst, arith, length, map, reverse, append_assoc}
use Rattle.std.proofs.lemmas.Bool.Decides.{nat_tests}
use Rattle.std.proofs.lemmas.List.{reverse-append}
use Rattle.std.specs.Bool.{◌==◌}
use Rattle.std.specs.List.{filter, AllByRecursion}
use Rattle.ot_base.specs.Same.{same_hash}
use Rattle.ot_base.proofs.SameLemmas.{same_hash_decides}
use Rattle.ot_base.specs.declared.address.Endpoint.{Endpoint}
use Rattle.ot_base.specs.declared.hash.InfoHash.{InfoHash}
use Rattle.ot_base.specs.declared.minute.Minute.{Minute}
use Rattle.tracker_model.specs.Calls.{IsReport}
use Rattle.tracker_model.specs.Entries.{time_of}
use Rattle.tracker_model.specs.Known.{known}
use Rattle.tracker_model.specs.Placed.{bucket_for, bucket_in}
use Rattle.tracker_model.specs.declared.call.Call.{Call}
use Rattle.tracker_model.specs.declared.call.Call.TheVariants.{Announce, Stop, Scrape, Scan, Clean, Sync, Drain}
use Rattle.tracker_model.specs.declared.entry.Entry.{Entry}
use Rattle.tracker_model.proofs.Cases.{by_test}
use Rattle.tracker_model.proofs.KnownLemmas.{known_agrees_later}
use Rattle.load_model.specs.Alike.{AreAlike, IsMade, IsOfPhase, IsPart, after, after_calls}
use Rattle.load_model.specs.Load.{made}
use Rattle.load_model.proofs.AlikeLemmas.{act_alike, alike_calls, alike_chain, alike_entries, alike_itself, alike_later, alike_part, alike_scanned, made_is, names, scan_unknown, some_endpoint, time_then, unknown_still}
use Rattle.load_model.proofs.Lookups.{who_of}
use Rattle.load_model.proofs.Shuffle.{shuffled}

-- ---- later

pub part_later : (bits bucket now later : ℕ) (past load : List Entry) → now ≤ later → IsPart bits bucket now past load → IsPart bits bucket later past load
part_later bits bucket now later past load le is_part = record {
  alike = λ h mine. alike_later now later le h past load (is_part.alike h mine);
  elsewhere = λ h other. known_agrees_later now later le _ None (is_part.elsewhere h other);
  on_time = (let e = is_part.on_time in omega arith);
  load_on_time = (let e = is_part.load_on_time in omega arith);
}

-- ---- the calls of a phase

-- a torrent of another bucket is another one
other_hash : (bucket : InfoHash → ℕ) (g h : InfoHash) → bucket g ≢ bucket h → same_hash g h ≡ false
other_hash bucket g h apart = by_test (same_hash g h) (same_hash g h ≡ false) (λ same. absurd (apart (ap bucket ((same_hash_decides g h).0 same)))) (λ differ. differ)

-- a call on a torrent of another bucket doesn't name this one
other_bucket : (bucket : InfoHash → ℕ) (h : InfoHash) (call : Call) → IsReport call → bucket_for bucket call ≢ bucket h → names call h ≡ false
other_bucket bucket h (Announce g e seed completed want) report apart = other_hash bucket g h apart
other_bucket bucket h (Stop g e) report apart = other_hash bucket g h apart
other_bucket bucket h (Scrape g) report apart = absurd report
other_bucket bucket h Scan report apart = refl
other_bucket bucket h Clean report apart = refl
other_bucket bucket h (Sync g e mark) report apart = absurd report
other_bucket bucket h Drain report apart = refl

some_hash : InfoHash
some_hash = record { 0 = [] }

-- what passes a test passes it
pub passes_all : {X : Type 0} (p : X → Bool) (xs : List X) → AllByRecursion (λ x. p x ≡ true) (filter p xs)
passes_all p [] = tt
passes_all p (x ∷ xs) =
    by_test (p x) (AllByRecursion (λ y. p y ≡ true) (filter p (x ∷ xs)))
    (λ pass. subst (λ b. AllByRecursion (λ y. p y ≡ true) (cond b (x ∷ filter p xs) (filter p xs))) (sym pass) (pass, passes_all p xs))
    (λ fail. subst (λ b. AllByRecursion (λ y. p y ≡ true) (cond b (x ∷ filter p xs) (filter p xs))) (sym fail) (passes_all p xs))

pub part_of_all : {X : Type 0} (P : X → Type 0) (p : X → Bool) (xs : List X) → AllByRecursion P xs → AllByRecursion P (filter p xs)
part_of_all P p [] all = tt
part_of_all P p (x ∷ xs) all =
    elim (p x) as (λ b. AllByRecursion P (cond b (x ∷ filter p xs) (filter p xs))) [ true ↦ (all.0, part_of_all P p xs all.1) | false ↦ part_of_all P p xs all.1 ]

pub all_mapped : {X Y : Type 0} (P : Y → Type 0) (f : X → Y) (xs : List X) → AllByRecursion (λ x. P (f x)) xs → AllByRecursion P (map f xs)
all_mapped P f [] all = tt
all_mapped P f (x ∷ xs) all = (all.0, all_mapped P f xs all.1)

pub all_weaker : {X : Type 0} (P Q : X → Type 0) → ((x : X) → P x → Q x) → (xs : List X) → AllByRecursion P xs → AllByRecursion Q xs
all_weaker P Q weaker [] all = tt
all_weaker P Q weaker (x ∷ xs) all = (weaker x all.0, all_weaker P Q weaker xs all.1)

pub all_both : {X : Type 0} (P Q : X → Type 0) (xs : List X) → AllByRecursion P xs → AllByRecursion Q xs → AllByRecursion (λ x. P x × Q x) xs
all_both P Q [] all also = tt
all_both P Q (x ∷ xs) all also = ((all.0, also.0), all_both P Q xs all.1 also.1)

module _ (bits bucket : ℕ) (minute : Minute) (past load : List Entry) (start : IsPart bits bucket minute.0 past load) (cs : List Call) (reports : AllByRecursion IsReport cs) (xs : List Entry) (are : AllByRecursion (IsOfPhase minute) xs)
    (key : Call → ℕ) (by_endpoint : (c d : Call) → IsReport c → IsReport d → who_of some_endpoint c ≡ who_of some_endpoint d → key c ≡ key d)
    (agree : (k : ℕ) → filter (λ c. key c == k) (map (λ (x : Entry). x.call) xs) ≡ filter (λ c. key c == k) (filter (λ c. bucket_for (bucket_in bits) c == bucket) cs)) where
  abbrev pub mine : Call → Bool
  mine c = bucket_for (bucket_in bits) c == bucket

  abbrev pub theirs : List Call
  theirs = map (λ (x : Entry). x.call) xs

  their_reports : AllByRecursion IsReport theirs
  their_reports = all_mapped IsReport (λ (x : Entry). x.call) xs (all_weaker (IsOfPhase minute) (λ x. IsReport x.call) (λ x is. is.0) xs are)

  my_reports : AllByRecursion IsReport (filter mine cs)
  my_reports = part_of_all IsReport mine cs reports

  -- all of them are of the bucket
  theirs_are_mine : AllByRecursion (λ c. mine c ≡ true) theirs
  theirs_are_mine =
      let P : Call → Type 0 = λ c. mine c ≡ true in
      shuffled key (λ ys zs. AllByRecursion P zs → AllByRecursion P ys) IsReport (λ ys all same. same) (λ ys zs us first next all. first (next all))
      (λ y ys zs report rest all. (all.0, rest all.1)) (λ y z ys one other all apart both. (both.1.0, (both.0, both.1.1)))
      theirs (filter mine cs) their_reports my_reports agree (passes_all mine cs)

  phase_alike : (h : InfoHash) → bucket_in bits h ≡ bucket → AreAlike minute.0 h (after past xs) (after_calls minute load cs)
  phase_alike h here =
      let m = minute.0 in
      let itself = alike_itself m h load start.load_on_time in
      alike_chain m h _ _ _ (alike_entries minute h xs are past load (start.alike h here))
      (alike_chain m h _ _ _ (act_alike minute h key by_endpoint theirs (filter mine cs) their_reports my_reports agree load load itself)
      (alike_part minute h mine
      (λ c report no_. other_bucket (bucket_in bits) h c report (λ e. let same : bucket_for (bucket_in bits) c ≡ bucket = e ∙ here in absurd (grind (arith, nat_tests))))
      cs reports load load itself))

  phase_elsewhere : (h : InfoHash) → bucket_in bits h ≢ bucket → known (after past xs) h minute.0 ≡ None
  phase_elsewhere h other =
      let m = minute.0 in
      let itself = alike_itself m h past start.on_time in
      let others : AllByRecursion (λ c. IsReport c × (names c h ≡ false)) theirs =
      all_weaker (λ c. IsReport c × (mine c ≡ true)) (λ c. IsReport c × (names c h ≡ false))
      (λ c both. (both.0, other_bucket (bucket_in bits) h c both.0 (λ e. let is_it : mine c ≡ true = both.1 in other (sym e ∙ (let p : bucket_for (bucket_in bits) c ≡ bucket = grind (arith, nat_tests) in p)))))
      theirs (all_both IsReport (λ c. mine c ≡ true) theirs their_reports theirs_are_mine) in
      (alike_entries minute h xs are past past itself).torrent ∙ unknown_still minute h theirs others past start.on_time (start.elsewhere h other)

  phase_on_time : time_of (after past xs) ≤ minute.0
  phase_on_time = (alike_entries minute some_hash xs are past past (alike_itself minute.0 some_hash past start.on_time)).on_time

  load_on_time : time_of (after_calls minute load cs) ≤ minute.0
  load_on_time = (alike_calls minute some_hash cs reports load load (alike_itself minute.0 some_hash load start.load_on_time)).on_time

  module _ (x : Entry) (scan : IsMade minute.0 Scan x) where
    pub phase_now : time_of (x ∷ after past xs) ≡ minute.0
    phase_now = time_then x (after past xs) minute.0 scan.at phase_on_time

    pub load_now : time_of (made minute Scan ∷ after_calls minute load cs) ≡ minute.0
    load_now = time_then (made minute Scan) (after_calls minute load cs) minute.0 refl load_on_time

    pub phase_part : IsPart bits bucket minute.0 (x ∷ after past xs) (made minute Scan ∷ after_calls minute load cs)
    phase_part = record {
      alike = λ h here. alike_scanned minute h x (made minute Scan) (after past xs) (after_calls minute load cs) scan (made_is minute Scan) (phase_alike h here);
      elsewhere = λ h other.
          scan_unknown minute h x (after past xs) scan phase_on_time (phase_elsewhere h other);
      on_time = (let e = phase_now in omega arith);
      load_on_time = (let e = load_now in omega arith);
    }
