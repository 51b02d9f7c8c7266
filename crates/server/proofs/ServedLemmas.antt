-- What jobs did, by the histories that caller 0 has seen once their passes were joined to its.
use Rattle.std.proofs.Common.{◌≡◌, ◌≢◌, ℕ, zero, suc, ◌+◌, ◌<◌, ◌^◌, List, [], ◌∷◌, ◌++◌, All, length, map, reverse, get_or, refl, sym, ap, subst, ◌∙◌, append-nil, vec_len, arith}
use Rattle.std.specs.Prelude.{None, Option, Some}
use Rattle.std.specs.List.{AllByRecursion, range_with_len}
use Rattle.std.proofs.lemmas.List.{length-append, length-map, map-append, reverse-append}
use Rattle.std.proofs.lemmas.List.FromFn.{length-range_with_len}
use Rattle.std.proofs.lemmas.List.Elements.{All-cons, All-head, All-map, All-nil, All-tail}
use Rattle.access_list.specs.Access.{Listing}
use Rattle.ot_io.specs.Lending.{Lends, Lent}
use Rattle.ot_io.specs.Tales.{IsNewListener, Links, ListenerTale, listener_tale}
use Rattle.ot_io.specs.Traffic.{IsNewWire, IsUnused, Traffic, WireTale, wire_tale}
use Rattle.ot_io.specs.declared.settings.ServeSettings.{ServeSettings}
use Rattle.ot_io.specs.declared.settings.SyncSettings.{SyncSettings}
use Rattle.serve.specs.Jobs.{HeardOf, Ran}
use Rattle.serve.specs.ServedLinks.{RestsAt, WorkedLinks}
use Rattle.serve.specs.Worked.{Rests, Worked}
use Rattle.serve.specs.declared.job.Job.{Job}
use Rattle.serve.specs.declared.job.Job.TheVariants.{Udp, Http, Cleaner, Sender, Receiver}
use Rattle.shards.proofs.FirstPass.{nothing_seen}
use Rattle.shards.proofs.JoiningLemmas.{joined_further}
use Rattle.shards.specs.Joining.{AreJoined, HoldAllOf}
use Rattle.shards.specs.Shape.{KnowsNumbers, PassShape, ShardsShape, first_pass}
use Rattle.tracker_model.specs.Grows.{history_at}
use Rattle.tracker_model.specs.Legal.{IsLegalHistory}
use Rattle.tracker_model.specs.declared.call.Call.TheVariants.{Clean, Drain}
use Rattle.tracker_model.specs.declared.entry.Entry.{Entry}
use Rattle.turn_lock.proofs.HistoryLemmas.{all_left, all_right}
use Rattle.turn_lock.specs.Histories.{AllBelow, GoesOn, NoneBy}
use Rattle.turn_lock.specs.Shape.{LockShape}
use Rattle.upkeep.specs.Sweeps.{Sweeps}
use Rattle.server.specs.Devices.{AreDevices, TakesBack, job_count, sync_count}
use Rattle.server.specs.Opening.{AreJobs, AreLinkJobs, AreSyncJobs, AreWireJobs, IsCleanerJob, IsOpened, passes_from}
use Rattle.server.specs.Run.{HasServed}
use Rattle.server.specs.Served.{AreServed, ServeListeners, ServeWires, SharedBy, SweptBy, bucket_settings, unused_pass}
use Rattle.server.specs.Teams.{AllRan, HaveRun, listeners_of, pass_of, wires_of}
use Rattle.server.specs.declared.devices.Devices.{Devices}
use Rattle.server.specs.declared.opening.Opened.{Opened}
use Rattle.server.proofs.TeamLemmas.{HasJobs, IsOther, all_jobs, cleaner_job, cleaner_long, link_jobs, link_long, listeners_of-append, sync_jobs, wire_jobs, wire_long, wires_of-append}

-- what holds of each of a list from behind holds of each
all_reverse : {X : Type 0} (P : X → Type 0) (xs : List X) → AllByRecursion P (reverse xs) → AllByRecursion P xs
all_reverse P [] all = tt
all_reverse P (x ∷ xs) all =
    let cut : AllByRecursion P (reverse xs ++ x ∷ []) = subst (AllByRecursion P) (reverse-append (x ∷ []) xs) all in
    ((all_right P (reverse xs) (x ∷ []) cut).0, all_reverse P xs (all_left P (reverse xs) (x ∷ []) cut))

-- ---- passes that have seen nothing

pub none_known : (shards : ShardsShape) (free out : ℕ) → free < suc shards.callers → KnowsNumbers (record (first_pass shards) { free = free; out = out })
none_known shards free out fits = record {
  free_fits = omega arith;
  not_free = λ first. All-map (AllBelow free) (λ (lock : LockShape). []) shards.locks (λ k d within. tt);
}

-- passes of the numbers from this one on, which have seen nothing
pub Unused : ShardsShape → (caller : ℕ) → List PassShape → Type 0
Unused shards caller [] = Unit
Unused shards caller (pass ∷ passes) = (pass ≡ unused_pass shards caller) × Unused shards (caller + 1) passes

pub are_unused : (shards : ShardsShape) (caller count : ℕ) → Unused shards caller (passes_from shards caller count)
unfolding Unused
are_unused shards caller zero = tt
are_unused shards caller (suc count) = (refl, are_unused shards (caller + 1) count)

-- the first of them, and those behind
unused_cut : (shards : ShardsShape) (caller : ℕ) (xs ys : List PassShape) → Unused shards caller (xs ++ ys) → Unused shards caller xs × Unused shards (caller + length xs) ys
unfolding Unused
unused_cut shards caller [] ys unused = (tt, subst (λ n. Unused shards n ys) (let e : caller ≡ caller + 0 = omega arith in e) unused)
unused_cut shards caller (x ∷ xs) ys unused =
    let tail = unused_cut shards (caller + 1) xs ys unused.1 in
    ((unused.0, tail.0), subst (λ n. Unused shards n ys) (let e : caller + 1 + length xs ≡ caller + suc (length xs) = omega arith in e) tail.1)

-- they aren't the first pass
unused_others : (shards : ShardsShape) (caller : ℕ) (passes : List PassShape) → caller ≢ 0 → Unused shards caller passes → All (IsOther shards) passes
unfolding Unused
unused_others shards caller [] split unused = All-nil (IsOther shards)
unused_others shards caller (pass ∷ passes) split unused =
    All-cons (IsOther shards) pass passes (subst (IsOther shards) (sym unused.0) (refl, split)) (unused_others shards (caller + 1) passes (λ e. absurd (omega arith)) unused.1)

pub are_others : (shards : ShardsShape) (caller count : ℕ) → caller ≢ 0 → All (IsOther shards) (passes_from shards caller count)
are_others shards caller count split = unused_others shards caller (passes_from shards caller count) split (are_unused shards caller count)

-- the passes of each kind of jobs
module _ {W L C : Type 0} (shards : ShardsShape) (wires : List W) (listeners : List L) (sync_wires : List W) (passes : List PassShape) (jobs : List (Job W L C)) (are : AreJobs wires listeners sync_wires passes jobs) where
  pub record Numbered : Type 0 where
    pub for_wires : Unused shards 2 are.wire_passes
    pub for_listeners : Unused shards (2 + length are.wire_passes) are.listener_passes
    pub for_cleaner : Unused shards (2 + length are.wire_passes + length are.listener_passes) are.cleaner_passes
    pub for_sharers : Unused shards (2 + length are.wire_passes + length are.listener_passes + length are.cleaner_passes) are.sharer_passes

  pub numbered : Unused shards 2 passes → Numbered
  numbered unused =
      let a = unused_cut shards 2 are.wire_passes (are.listener_passes ++ (are.cleaner_passes ++ (are.sharer_passes ++ are.left))) (subst (Unused shards 2) are.passes_are unused) in
      let b = unused_cut shards (2 + length are.wire_passes) are.listener_passes (are.cleaner_passes ++ (are.sharer_passes ++ are.left)) a.1 in
      let c = unused_cut shards (2 + length are.wire_passes + length are.listener_passes) are.cleaner_passes (are.sharer_passes ++ are.left) b.1 in
      let d = unused_cut shards (2 + length are.wire_passes + length are.listener_passes + length are.cleaner_passes) are.sharer_passes are.left c.1 in
      record { for_wires = a.0; for_listeners = b.0; for_cleaner = c.0; for_sharers = d.0 }

  -- what new jobs have
  pub has_jobs : (sync : Option SyncSettings) → Unused shards 2 passes → length sync_wires ≡ sync_count sync → HasJobs shards sync (wires ++ sync_wires) listeners (job_count (length wires) (length listeners) (length sync_wires)) jobs
  has_jobs sync unused many =
      let n = numbered unused in
      let a = wire_jobs shards sync wires are.wire_passes are.at_wires (unused_others shards _ are.wire_passes (λ e. absurd (omega arith)) n.for_wires) are.wire_jobs in
      let b = link_jobs shards sync listeners are.listener_passes are.at_listeners (unused_others shards _ are.listener_passes (λ e. absurd (omega arith)) n.for_listeners) are.listener_jobs in
      let c = cleaner_job shards sync are.cleaner_passes are.cleaners (unused_others shards _ are.cleaner_passes (λ e. absurd (omega arith)) n.for_cleaner) are.cleaner_job in
      let d = sync_jobs shards sync sync_wires are.sharer_passes are.sharers (unused_others shards _ are.sharer_passes (λ e. absurd (omega arith)) n.for_sharers) many are.sync_jobs in
      let cd = all_jobs shards sync [] sync_wires [] [] 1 (length sync_wires) are.cleaners are.sharers c d in
      let bcd = all_jobs shards sync [] sync_wires listeners [] (length listeners) (1 + length sync_wires) are.at_listeners (are.cleaners ++ are.sharers) b cd in
      let abcd = all_jobs shards sync wires sync_wires [] (listeners ++ []) (length wires) (length listeners + (1 + length sync_wires)) are.at_wires (are.at_listeners ++ (are.cleaners ++ are.sharers)) a bcd in
      let count : length wires + (length listeners + (1 + length sync_wires)) ≡ job_count (length wires) (length listeners) (length sync_wires) = omega arith in
      subst (HasJobs shards sync (wires ++ sync_wires) listeners (job_count (length wires) (length listeners) (length sync_wires))) (sym are.jobs_are)
      (subst (λ n. HasJobs shards sync (wires ++ sync_wires) listeners n (are.at_wires ++ (are.at_listeners ++ (are.cleaners ++ are.sharers)))) count
      (subst (λ l. HasJobs shards sync (wires ++ sync_wires) l (length wires + (length listeners + (1 + length sync_wires))) (are.at_wires ++ (are.at_listeners ++ (are.cleaners ++ are.sharers)))) (append-nil listeners) abcd))

-- ---- each job that ran, beside what it was

module _ {J : Type 0} (ran : J → J → Type 0) where
  RanEach : List J → List J → Type 0
  RanEach [] [] = Unit
  RanEach (x ∷ xs) (y ∷ ys) = ran x y × RanEach xs ys
  RanEach [] (y ∷ ys) = ⊥
  RanEach (x ∷ xs) [] = ⊥

  ran_each : (old new : List J) → length new ≡ length old → ((i : ℕ) (d : J) → i < length old → ran (get_or old i d) (get_or new i d)) → RanEach old new
  unfolding RanEach
  ran_each [] [] count each = tt
  ran_each [] (y ∷ new) count each = absurd (omega arith)
  ran_each (x ∷ old) [] count each = absurd (omega arith)
  ran_each (x ∷ old) (y ∷ new) count each = (each zero x (omega arith), ran_each old new (omega arith) (λ i d within. each (suc i) d (omega arith)))

  -- the first of them, and the others
  record Parted (xs ys new : List J) : Type 0 where
    first : List J
    others : List J
    cut : new ≡ first ++ others
    first_ran : RanEach xs first
    others_ran : RanEach ys others

  part : (xs ys new : List J) → RanEach (xs ++ ys) new → Parted xs ys new
  unfolding RanEach
  part [] ys new ran_all = record { first = []; others = new; cut = refl; first_ran = tt; others_ran = ran_all }
  part (x ∷ xs) ys [] ran_all = absurd ran_all
  part (x ∷ xs) ys (y ∷ new) ran_all =
      let tail = part xs ys new ran_all.1 in
      record { first = y ∷ tail.first; others = tail.others; cut = ap (λ l. y ∷ l) tail.cut; first_ran = (ran_all.0, tail.first_ran); others_ran = tail.others_ran }

-- what is told of wires and listeners
module _ {W : Type 0} (traffic : W → Option Traffic) (faults idles : W → ℕ) where
  abbrev IsNewW : W → Type 0
  IsNewW wire = IsNewWire (traffic wire) (faults wire) (idles wire)

  abbrev wire_told : W → WireTale
  wire_told wire = wire_tale (traffic wire) (faults wire) (idles wire)

module _ {L : Type 0} (links : L → Option Links) (faults idles : L → ℕ) where
  abbrev IsNewL : L → Type 0
  IsNewL listener = IsNewListener (links listener) (faults listener) (idles listener)

  abbrev listener_told : L → ListenerTale
  listener_told listener = listener_tale (links listener) (faults listener) (idles listener)

-- the jobs that share with other nodes, if any
module _ (shards : ShardsShape) (histories : List (List Entry)) where
  none_shared : (sync : Option SyncSettings) (caller : ℕ) → sync_count sync ≡ 0 → SharedBy shards histories sync caller []
  none_shared None caller none = tt
  none_shared (Some sync) caller none = absurd (omega arith)

  both_shared : (sync : Option SyncSettings) (caller : ℕ) (first : Option Traffic) (last : PassShape) (sent heard : WireTale) → SweptBy shards histories Drain caller → IsUnused first
      → HeardOf sync (unused_pass shards (caller + 1)) last first heard.traffic 0 heard.faults → Rests heard.traffic 0 heard.faults → HoldAllOf histories last → SharedBy shards histories sync caller (sent ∷ heard ∷ [])
  both_shared None caller first last sent heard swept unused hears rests held = absurd hears
  both_shared (Some sync) caller first last sent heard swept unused hears rests held =
      (swept, record { first = first; last = last; unused = unused; heard = hears; rests = rests; held = held })

module _ {W L C : Type 0} (traffic : W → Option Traffic) (wire_faults wire_idles : W → ℕ) (links : L → Option Links) (listener_faults listener_idles : L → ℕ)
    (settings : ServeSettings) (access : Option Listing) where
  abbrev RanAs : Job W L C → Job W L C → Type 0
  RanAs old new = Ran traffic wire_faults links listener_faults settings access old new

  module _ (shards : ShardsShape) (histories : List (List Entry)) where
    abbrev Holds : Job W L C → Type 0
    Holds job = HoldAllOf histories (pass_of job)

    -- what the workers at new wires did
    record WiresServed (caller count : ℕ) (ended : List (Job W L C)) : Type 0 where
      serve : ServeWires settings access shards histories caller (map (wire_told traffic wire_faults wire_idles) (wires_of ended))
      many : length (wires_of ended) ≡ count
      no_listeners : listeners_of ended ≡ []

    wires_served : (caller : ℕ) (wires : List W) (passes : List PassShape) (jobs ended : List (Job W L C)) → AreWireJobs wires passes jobs → Unused shards caller passes
        → All (IsNewW traffic wire_faults wire_idles) wires → RanEach RanAs jobs ended → AllByRecursion Holds ended → WiresServed caller (length wires) ended
    unfolding Ran RanEach Unused
    wires_served caller [] [] [] [] are unused new ran held = record { serve = tt; many = refl; no_listeners = refl }
    wires_served caller (wire ∷ wires) (pass ∷ passes) (Udp pass' wire' clock scratch ∷ jobs) (Udp last wire'' clock'' scratch'' ∷ ended) are unused new ran held =
        let tail = wires_served (caller + 1) wires passes jobs ended are.2 unused.1 (All-tail (IsNewW traffic wire_faults wire_idles) wire wires new) ran.1 held.1 in
        let fresh : (IsNewW traffic wire_faults wire_idles) wire' = subst (IsNewW traffic wire_faults wire_idles) (sym are.0) (All-head (IsNewW traffic wire_faults wire_idles) wire wires new) in
        let own : pass' ≡ unused_pass shards caller = are.1 ∙ unused.0 in
        let worked : Worked settings.replay.secret access (unused_pass shards caller) last (traffic wire') (traffic wire'') 0 (wire_faults wire'') =
        subst (λ n. Worked settings.replay.secret access (unused_pass shards caller) last (traffic wire') (traffic wire'') n (wire_faults wire'')) fresh.1
        (subst (λ p. Worked settings.replay.secret access p last (traffic wire') (traffic wire'') (wire_faults wire') (wire_faults wire'')) own ran.0.0) in
        let rests : Rests (traffic wire'') 0 (wire_faults wire'') = subst (λ n. Rests (traffic wire'') n (wire_faults wire'')) fresh.1 ran.0.1 in
        record {
          serve = (record { first = traffic wire'; last = last; unused = fresh.0; worked = worked; rests = rests; held = held.0 }, tail.serve);
          many = ap suc tail.many;
          no_listeners = tail.no_listeners;
        }
    wires_served caller (wire ∷ wires) (pass ∷ passes) (Udp pass' wire' clock scratch ∷ jobs) (Http last listener'' clock'' scratch'' ∷ ended) are unused new ran held = absurd ran.0
    wires_served caller (wire ∷ wires) (pass ∷ passes) (Udp pass' wire' clock scratch ∷ jobs) (Cleaner last clock'' ∷ ended) are unused new ran held = absurd ran.0
    wires_served caller (wire ∷ wires) (pass ∷ passes) (Udp pass' wire' clock scratch ∷ jobs) (Sender last wire'' clock'' ∷ ended) are unused new ran held = absurd ran.0
    wires_served caller (wire ∷ wires) (pass ∷ passes) (Udp pass' wire' clock scratch ∷ jobs) (Receiver last wire'' clock'' ∷ ended) are unused new ran held = absurd ran.0
    wires_served caller (wire ∷ wires) (pass ∷ passes) (Udp pass' wire' clock scratch ∷ jobs) [] are unused new ran held = absurd ran
    wires_served caller (wire ∷ wires) (pass ∷ passes) (Http pass' listener' clock' scratch' ∷ jobs) ended are unused new ran held = absurd are
    wires_served caller (wire ∷ wires) (pass ∷ passes) (Cleaner pass' clock' ∷ jobs) ended are unused new ran held = absurd are
    wires_served caller (wire ∷ wires) (pass ∷ passes) (Sender pass' wire' clock' ∷ jobs) ended are unused new ran held = absurd are
    wires_served caller (wire ∷ wires) (pass ∷ passes) (Receiver pass' wire' clock' ∷ jobs) ended are unused new ran held = absurd are
    wires_served caller (wire ∷ wires) (pass ∷ passes) [] ended are unused new ran held = absurd are
    wires_served caller (wire ∷ wires) [] jobs ended are unused new ran held = absurd are
    wires_served caller [] (pass ∷ passes) jobs ended are unused new ran held = absurd are
    wires_served caller [] [] (job ∷ jobs) ended are unused new ran held = absurd are
    wires_served caller [] [] [] (job ∷ ended) are unused new ran held = absurd ran

    -- what the workers at new listeners did
    record ListenersServed (caller count : ℕ) (ended : List (Job W L C)) : Type 0 where
      serve : ServeListeners settings access shards histories caller (map (listener_told links listener_faults listener_idles) (listeners_of ended))
      many : length (listeners_of ended) ≡ count
      no_wires : wires_of ended ≡ []

    listeners_served : (caller : ℕ) (listeners : List L) (passes : List PassShape) (jobs ended : List (Job W L C)) → AreLinkJobs listeners passes jobs → Unused shards caller passes
        → All (IsNewL links listener_faults listener_idles) listeners → RanEach RanAs jobs ended → AllByRecursion Holds ended → ListenersServed caller (length listeners) ended
    unfolding Ran RanEach Unused
    listeners_served caller [] [] [] [] are unused new ran held = record { serve = tt; many = refl; no_wires = refl }
    listeners_served caller (listener ∷ listeners) (pass ∷ passes) (Http pass' listener' clock scratch ∷ jobs) (Http last listener'' clock'' scratch'' ∷ ended) are unused new ran held =
        let tail = listeners_served (caller + 1) listeners passes jobs ended are.2 unused.1 (All-tail (IsNewL links listener_faults listener_idles) listener listeners new) ran.1 held.1 in
        let fresh : (IsNewL links listener_faults listener_idles) listener' = subst (IsNewL links listener_faults listener_idles) (sym are.0) (All-head (IsNewL links listener_faults listener_idles) listener listeners new) in
        let own : pass' ≡ unused_pass shards caller = are.1 ∙ unused.0 in
        let worked : WorkedLinks access settings.replay.full (unused_pass shards caller) last (links listener') (links listener'') 0 (listener_faults listener'') =
        subst (λ n. WorkedLinks access settings.replay.full (unused_pass shards caller) last (links listener') (links listener'') n (listener_faults listener'')) fresh.1
        (subst (λ p. WorkedLinks access settings.replay.full p last (links listener') (links listener'') (listener_faults listener') (listener_faults listener'')) own ran.0.0) in
        let rests : RestsAt (links listener'') 0 (listener_faults listener'') = subst (λ n. RestsAt (links listener'') n (listener_faults listener'')) fresh.1 ran.0.1 in
        record {
          serve = (record { first = links listener'; last = last; unopened = fresh.0; worked = worked; rests = rests; held = held.0 }, tail.serve);
          many = ap suc tail.many;
          no_wires = tail.no_wires;
        }
    listeners_served caller (listener ∷ listeners) (pass ∷ passes) (Http pass' listener' clock scratch ∷ jobs) (Udp last wire'' clock'' scratch'' ∷ ended) are unused new ran held = absurd ran.0
    listeners_served caller (listener ∷ listeners) (pass ∷ passes) (Http pass' listener' clock scratch ∷ jobs) (Cleaner last clock'' ∷ ended) are unused new ran held = absurd ran.0
    listeners_served caller (listener ∷ listeners) (pass ∷ passes) (Http pass' listener' clock scratch ∷ jobs) (Sender last wire'' clock'' ∷ ended) are unused new ran held = absurd ran.0
    listeners_served caller (listener ∷ listeners) (pass ∷ passes) (Http pass' listener' clock scratch ∷ jobs) (Receiver last wire'' clock'' ∷ ended) are unused new ran held = absurd ran.0
    listeners_served caller (listener ∷ listeners) (pass ∷ passes) (Http pass' listener' clock scratch ∷ jobs) [] are unused new ran held = absurd ran
    listeners_served caller (listener ∷ listeners) (pass ∷ passes) (Udp pass' wire' clock' scratch' ∷ jobs) ended are unused new ran held = absurd are
    listeners_served caller (listener ∷ listeners) (pass ∷ passes) (Cleaner pass' clock' ∷ jobs) ended are unused new ran held = absurd are
    listeners_served caller (listener ∷ listeners) (pass ∷ passes) (Sender pass' wire' clock' ∷ jobs) ended are unused new ran held = absurd are
    listeners_served caller (listener ∷ listeners) (pass ∷ passes) (Receiver pass' wire' clock' ∷ jobs) ended are unused new ran held = absurd are
    listeners_served caller (listener ∷ listeners) (pass ∷ passes) [] ended are unused new ran held = absurd are
    listeners_served caller (listener ∷ listeners) [] jobs ended are unused new ran held = absurd are
    listeners_served caller [] (pass ∷ passes) jobs ended are unused new ran held = absurd are
    listeners_served caller [] [] (job ∷ jobs) ended are unused new ran held = absurd are
    listeners_served caller [] [] [] (job ∷ ended) are unused new ran held = absurd ran

    -- what the cleaner did
    record Cleaned (caller : ℕ) (ended : List (Job W L C)) : Type 0 where
      swept : SweptBy shards histories Clean caller
      no_wires : wires_of ended ≡ []
      no_listeners : listeners_of ended ≡ []

    cleaned : (caller : ℕ) (pass : PassShape) (clock : C) (ended : List (Job W L C)) → pass ≡ unused_pass shards caller → RanEach RanAs (Cleaner pass clock ∷ []) ended → AllByRecursion Holds ended → Cleaned caller ended
    unfolding Ran RanEach
    cleaned caller pass clock (Cleaner last clock'' ∷ []) own ran held = record {
      swept = record { last = last; swept = subst (λ p. Sweeps Clean p last) own ran.0; held = held.0 };
      no_wires = refl;
      no_listeners = refl;
    }
    cleaned caller pass clock (Cleaner last clock'' ∷ job ∷ ended) own ran held = absurd ran.1
    cleaned caller pass clock (Udp last wire'' clock'' scratch'' ∷ ended) own ran held = absurd ran.0
    cleaned caller pass clock (Http last listener'' clock'' scratch'' ∷ ended) own ran held = absurd ran.0
    cleaned caller pass clock (Sender last wire'' clock'' ∷ ended) own ran held = absurd ran.0
    cleaned caller pass clock (Receiver last wire'' clock'' ∷ ended) own ran held = absurd ran.0
    cleaned caller pass clock [] own ran held = absurd ran

    cleaner_served : (caller : ℕ) (passes : List PassShape) (jobs ended : List (Job W L C)) → IsCleanerJob passes jobs → Unused shards caller passes → RanEach RanAs jobs ended → AllByRecursion Holds ended → Cleaned caller ended
    unfolding Unused
    cleaner_served caller passes jobs ended is unused ran held =
        cleaned caller is.pass is.clock ended (subst (Unused shards caller) is.passes_are unused).0 (subst (λ l. RanEach RanAs l ended) is.jobs_are ran) held

    -- what the jobs that share with other nodes did
    record Shared (caller count : ℕ) (ended : List (Job W L C)) : Type 0 where
      shared : SharedBy shards histories settings.sync caller (map (wire_told traffic wire_faults wire_idles) (wires_of ended))
      many : length (wires_of ended) ≡ count
      no_listeners : listeners_of ended ≡ []

    shared : (caller : ℕ) (wire wire' : W) (pass next : PassShape) (clock clock' : C) (ended : List (Job W L C)) → pass ≡ unused_pass shards caller → next ≡ unused_pass shards (caller + 1) → IsNewW traffic wire_faults wire_idles wire'
        → RanEach RanAs (Sender pass wire clock ∷ Receiver next wire' clock' ∷ []) ended → AllByRecursion Holds ended → Shared caller 2 ended
    unfolding Ran RanEach
    shared caller wire wire' pass next clock clock' (Sender first sent clock'' ∷ Receiver last heard next_clock ∷ []) own then fresh ran held =
        let hears : HeardOf settings.sync (unused_pass shards (caller + 1)) last (traffic wire') (traffic heard) 0 (wire_faults heard) =
        subst (λ n. HeardOf settings.sync (unused_pass shards (caller + 1)) last (traffic wire') (traffic heard) n (wire_faults heard)) fresh.1
        (subst (λ p. HeardOf settings.sync p last (traffic wire') (traffic heard) (wire_faults wire') (wire_faults heard)) then ran.1.0.0) in
        let rests : Rests (traffic heard) 0 (wire_faults heard) = subst (λ n. Rests (traffic heard) n (wire_faults heard)) fresh.1 ran.1.0.1 in
        record {
          shared = both_shared shards histories settings.sync caller (traffic wire') last (wire_told traffic wire_faults wire_idles sent) (wire_told traffic wire_faults wire_idles heard)
              (record { last = first; swept = subst (λ p. Sweeps Drain p first) own ran.0; held = held.0 }) fresh.0 hears rests held.1.0;
          many = refl;
          no_listeners = refl;
        }
    shared caller wire wire' pass next clock clock' (Sender first sent clock'' ∷ Receiver last heard next_clock ∷ job ∷ ended) own then fresh ran held = absurd ran.1.1
    shared caller wire wire' pass next clock clock' (Sender first sent clock'' ∷ []) own then fresh ran held = absurd ran.1
    shared caller wire wire' pass next clock clock' (Sender first sent clock'' ∷ Udp last wire''' clock''' scratch''' ∷ ended) own then fresh ran held = absurd ran.1.0
    shared caller wire wire' pass next clock clock' (Sender first sent clock'' ∷ Http last listener''' clock''' scratch''' ∷ ended) own then fresh ran held = absurd ran.1.0
    shared caller wire wire' pass next clock clock' (Sender first sent clock'' ∷ Cleaner last clock''' ∷ ended) own then fresh ran held = absurd ran.1.0
    shared caller wire wire' pass next clock clock' (Sender first sent clock'' ∷ Sender last wire''' clock''' ∷ ended) own then fresh ran held = absurd ran.1.0
    shared caller wire wire' pass next clock clock' (Udp last wire'' clock'' scratch'' ∷ ended) own then fresh ran held = absurd ran.0
    shared caller wire wire' pass next clock clock' (Http last listener'' clock'' scratch'' ∷ ended) own then fresh ran held = absurd ran.0
    shared caller wire wire' pass next clock clock' (Cleaner last clock'' ∷ ended) own then fresh ran held = absurd ran.0
    shared caller wire wire' pass next clock clock' (Receiver last wire'' clock'' ∷ ended) own then fresh ran held = absurd ran.0
    shared caller wire wire' pass next clock clock' [] own then fresh ran held = absurd ran

    sharers_served : (caller : ℕ) (wires : List W) (passes : List PassShape) (jobs ended : List (Job W L C)) → AreSyncJobs wires passes jobs → Unused shards caller passes → length wires ≡ sync_count settings.sync
        → All (IsNewW traffic wire_faults wire_idles) wires → RanEach RanAs jobs ended → AllByRecursion Holds ended → Shared caller (length wires) ended
    unfolding RanEach Unused
    sharers_served caller [] passes jobs [] are unused many new ran held = record { shared = none_shared shards histories settings.sync caller (sym many); many = refl; no_listeners = refl }
    sharers_served caller [] passes jobs (job ∷ ended) are unused many new ran held = absurd (subst (λ l. RanEach RanAs l (job ∷ ended)) are.1 ran)
    sharers_served caller (wire ∷ wire' ∷ []) passes jobs ended are unused many new ran held =
        let own = subst (Unused shards caller) are.passes_are unused in
        shared caller wire wire' are.pass are.next are.clock are.next_clock ended own.0 own.1.0
        (All-head (IsNewW traffic wire_faults wire_idles) wire' [] (All-tail (IsNewW traffic wire_faults wire_idles) wire (wire' ∷ []) new))
        (subst (λ l. RanEach RanAs l ended) are.jobs_are ran) held
    sharers_served caller (wire ∷ []) passes jobs ended are unused many new ran held = absurd are
    sharers_served caller (wire ∷ wire' ∷ wire'' ∷ wires) passes jobs ended are unused many new ran held = absurd are

-- ---- what stands in the histories at the end

-- a history that goes on from nothing has no entry of the numbers that it goes on without
none_at_all : (callers : List ℕ) (old new : List Entry) → old ≡ [] → GoesOn callers old new → NoneBy callers new
none_at_all callers old new nothing on = subst (NoneBy callers) (sym (on.grown ∙ ap (λ l. l ++ on.others) nothing)) on.apart

pub none_of_others : (shards : ShardsShape) (free out : ℕ) (others : List PassShape) (last : PassShape)
    → AreJoined (others ++ passes_from shards 1 1) (record (first_pass shards) { free = free; out = out }) last → (bucket : ℕ) → NoneBy (0 ∷ 1 ∷ []) (history_at last.seen bucket)
none_of_others shards free out others last joined bucket =
    let nothing = nothing_seen shards.locks bucket in
    let idle = all_right (HoldAllOf last.seen) others (passes_from shards 1 1) joined.others_seen in
    ((none_at_all (0 ∷ []) _ _ nothing (joined.seen bucket)).0, ((none_at_all (1 ∷ []) _ _ nothing (idle.0 bucket)).0, tt))

all_mapped : {X Y : Type 0} (P : Y → Type 0) (f : X → Y) (xs : List X) → AllByRecursion P (map f xs) → AllByRecursion (λ x. P (f x)) xs
all_mapped P f [] all = tt
all_mapped P f (x ∷ xs) all = (all.0, all_mapped P f xs all.1)

module _ {W L C : Type 0} (traffic : W → Option Traffic) (wire_faults wire_idles : W → ℕ) (links : L → Option Links) (listener_faults listener_idles : L → ℕ)
    (settings : ServeSettings) (access : Option Listing) (shards : ShardsShape) (bits : shards.bits ≡ settings.replay.bits) (settings_are : shards.settings ≡ bucket_settings settings)
    (wires : List W) (listeners : List L) (sync_wires : List W) (count : ℕ) (jobs : List (Job W L C)) (are : AreJobs wires listeners sync_wires (passes_from shards 2 count) jobs) where
  -- what is told of wires and listeners as they came back
  pub record Ended (ended : List (Job W L C)) (histories : List (List Entry)) : Type 0 where
    pub wire_tales : List WireTale
    pub listener_tales : List ListenerTale
    pub sync_tales : List WireTale
    pub wires_are : map (wire_told traffic wire_faults wire_idles) (wires_of ended) ≡ wire_tales ++ sync_tales
    pub listeners_are : map (listener_told links listener_faults listener_idles) (listeners_of ended) ≡ listener_tales
    pub wire_count : length wire_tales ≡ length wires
    pub listener_count : length listener_tales ≡ length listeners
    pub sync_wire_count : length sync_tales ≡ length sync_wires
    pub served : AreServed settings access wire_tales listener_tales sync_tales histories

  pub all_served : (ended : List (Job W L C)) (middle last : PassShape)
      → All (λ wire. IsNewWire (traffic wire) (wire_faults wire) (wire_idles wire)) wires → All (λ listener. IsNewListener (links listener) (listener_faults listener) (listener_idles listener)) listeners
      → All (λ wire. IsNewWire (traffic wire) (wire_faults wire) (wire_idles wire)) sync_wires → length sync_wires ≡ sync_count settings.sync → count ≡ job_count (length wires) (length listeners) (length sync_wires)
      → AllRan (λ old new. Ran traffic wire_faults links listener_faults settings access old new) jobs ended
      → AreJoined (passes_from shards 1 1) (record (first_pass shards) { free = 2 + count; out = 1 + count }) middle → AreJoined (reverse (map pass_of ended)) middle last
      → KnowsNumbers last → length last.seen ≡ 2 ^ shards.bits → All (IsLegalHistory shards.settings) last.seen → Ended ended last.seen
  all_served ended middle last new_wires new_listeners new_sync_wires sync_many many ran idle joins known buckets legal =
      let Ran' = RanAs traffic wire_faults wire_idles links listener_faults listener_idles settings access in
      let each = ran_each Ran' (are.at_wires ++ (are.at_listeners ++ (are.cleaners ++ are.sharers))) ended (ran.count ∙ ap length are.jobs_are) (subst (λ l. AllRan Ran' l ended) are.jobs_are ran).each in
      let a = part Ran' are.at_wires (are.at_listeners ++ (are.cleaners ++ are.sharers)) ended each in
      let b = part Ran' are.at_listeners (are.cleaners ++ are.sharers) a.others a.others_ran in
      let c = part Ran' are.cleaners are.sharers b.others b.others_ran in
      let first : PassShape = record (first_pass shards) { free = 2 + count; out = 1 + count } in
      let joined : AreJoined (reverse (map pass_of ended) ++ passes_from shards 1 1) first last = joined_further (passes_from shards 1 1) (reverse (map pass_of ended)) first middle last idle joins in
      let Held : Job W L C → Type 0 = λ job. HoldAllOf last.seen (pass_of job) in
      let held : AllByRecursion Held ended = all_mapped (HoldAllOf last.seen) pass_of ended (all_reverse (HoldAllOf last.seen) (map pass_of ended) joins.others_seen) in
      let held_a : AllByRecursion Held (a.first ++ a.others) = subst (AllByRecursion Held) a.cut held in
      let held_b : AllByRecursion Held (b.first ++ b.others) = subst (AllByRecursion Held) b.cut (all_right Held a.first a.others held_a) in
      let held_c : AllByRecursion Held (c.first ++ c.others) = subst (AllByRecursion Held) c.cut (all_right Held b.first b.others held_b) in
      let numbers = numbered shards wires listeners sync_wires (passes_from shards 2 count) jobs are (are_unused shards 2 count) in
      let at_w = wires_served traffic wire_faults wire_idles links listener_faults listener_idles settings access shards last.seen 2 wires are.wire_passes are.at_wires a.first
      are.wire_jobs numbers.for_wires new_wires a.first_ran (all_left Held a.first a.others held_a) in
      let at_l = listeners_served traffic wire_faults wire_idles links listener_faults listener_idles settings access shards last.seen (2 + length are.wire_passes) listeners are.listener_passes are.at_listeners b.first
      are.listener_jobs numbers.for_listeners new_listeners b.first_ran (all_left Held b.first b.others held_b) in
      let at_c = cleaner_served traffic wire_faults wire_idles links listener_faults listener_idles settings access shards last.seen (2 + length are.wire_passes + length are.listener_passes) are.cleaner_passes are.cleaners c.first
      are.cleaner_job numbers.for_cleaner c.first_ran (all_left Held c.first c.others held_c) in
      let at_s = sharers_served traffic wire_faults wire_idles links listener_faults listener_idles settings access shards last.seen (2 + length are.wire_passes + length are.listener_passes + length are.cleaner_passes) sync_wires are.sharer_passes are.sharers c.others
      are.sync_jobs numbers.for_sharers sync_many new_sync_wires c.others_ran (all_right Held c.first c.others held_c) in
      let told = wire_told traffic wire_faults wire_idles in
      let listener_told' = listener_told links listener_faults listener_idles in
      let rest : wires_of a.others ≡ wires_of c.others =
      ap wires_of b.cut ∙ wires_of-append b.first b.others ∙ ap (λ l. l ++ wires_of b.others) at_l.no_wires ∙ ap wires_of c.cut ∙ wires_of-append c.first c.others ∙ ap (λ l. l ++ wires_of c.others) at_c.no_wires in
      let wires_are : wires_of ended ≡ wires_of a.first ++ wires_of c.others = ap wires_of a.cut ∙ wires_of-append a.first a.others ∙ ap (λ l. wires_of a.first ++ l) rest in
      let none : listeners_of b.others ≡ [] = ap listeners_of c.cut ∙ listeners_of-append c.first c.others ∙ ap (λ l. l ++ listeners_of c.others) at_c.no_listeners ∙ at_s.no_listeners in
      let listeners_are : listeners_of ended ≡ listeners_of b.first =
      ap listeners_of a.cut ∙ listeners_of-append a.first a.others ∙ ap (λ l. l ++ listeners_of a.others) at_w.no_listeners
      ∙ ap listeners_of b.cut ∙ listeners_of-append b.first b.others ∙ ap (λ l. listeners_of b.first ++ l) none ∙ append-nil (listeners_of b.first) in
      let wire_count : length (map told (wires_of a.first)) ≡ length wires = length-map (wires_of a.first) told ∙ at_w.many in
      let listener_count : length (map listener_told' (listeners_of b.first)) ≡ length listeners = length-map (listeners_of b.first) listener_told' ∙ at_l.many in
      let sync_wire_count : length (map told (wires_of c.others)) ≡ length sync_wires = length-map (wires_of c.others) told ∙ at_s.many in
      let wires_many = (wire_long wires are.wire_passes are.at_wires are.wire_jobs).0 in
      let listeners_many = (link_long listeners are.listener_passes are.at_listeners are.listener_jobs).0 in
      let cleaners_many = (cleaner_long are.cleaner_passes are.cleaners are.cleaner_job).0 in
      let free : last.free ≡ 2 + job_count (length (map told (wires_of a.first))) (length (map listener_told' (listeners_of b.first))) (length (map told (wires_of c.others))) =
      ap (λ (p : PassShape). p.free) joined.pass ∙ (omega (arith, many, wire_count, listener_count, sync_wire_count)) in
      let before_listeners : 2 + length are.wire_passes ≡ 2 + length (map told (wires_of a.first)) = omega (arith, wires_many, wire_count) in
      let before_cleaner : 2 + length are.wire_passes + length are.listener_passes ≡ 2 + length (map told (wires_of a.first)) + length (map listener_told' (listeners_of b.first)) =
      omega (arith, wires_many, wire_count, listeners_many, listener_count) in
      let before_sharers : 2 + length are.wire_passes + length are.listener_passes + length are.cleaner_passes ≡ 3 + length (map told (wires_of a.first)) + length (map listener_told' (listeners_of b.first)) =
      omega (arith, wires_many, wire_count, listeners_many, listener_count, cleaners_many) in
      record {
        wire_tales = map told (wires_of a.first);
        listener_tales = map listener_told' (listeners_of b.first);
        sync_tales = map told (wires_of c.others);
        wires_are = ap (map told) wires_are ∙ map-append told (wires_of a.first) (wires_of c.others);
        listeners_are = ap (map listener_told') listeners_are;
        wire_count = wire_count;
        listener_count = listener_count;
        sync_wire_count = sync_wire_count;
        served = record {
          shards = shards;
          bits = bits;
          settings_are = settings_are;
          buckets = buckets ∙ ap (λ n. 2 ^ n) bits;
          legal = subst (λ g. All (IsLegalHistory g) last.seen) settings_are legal;
          callers = subst (λ n. All (AllBelow n) last.seen) free (known.not_free (ap (λ (p : PassShape). p.caller) joined.pass));
          no_others = none_of_others shards (2 + count) (1 + count) (reverse (map pass_of ended)) last joined;
          at_wires = at_w.serve;
          at_listeners = subst (λ n. ServeListeners settings access shards last.seen n (map listener_told' (listeners_of b.first))) before_listeners at_l.serve;
          cleaned = subst (SweptBy shards last.seen Clean) before_cleaner at_c.swept;
          shared = subst (λ n. SharedBy shards last.seen settings.sync n (map told (wires_of c.others))) before_sharers at_s.shared;
        };
      }

-- ---- what new jobs have

pub opened_jobs : {W L C : Type 0} (settings : ServeSettings) (count : ℕ) (opened : Opened W L C) (wires : List W) (listeners : List L) (sync_wires : List W) (jobs : List (Job W L C)) → IsOpened settings count opened
    → AreJobs wires listeners sync_wires opened.passes.items jobs → length sync_wires ≡ sync_count settings.sync → HasJobs opened.shards settings.sync (wires ++ sync_wires) listeners (job_count (length wires) (length listeners) (length sync_wires)) jobs
opened_jobs settings count opened wires listeners sync_wires jobs is are many =
    has_jobs opened.shards wires listeners sync_wires (passes_from opened.shards 2 count) jobs (subst (λ p. AreJobs wires listeners sync_wires p jobs) is.passes are) settings.sync (are_unused opened.shards 2 count) many

pub passes_count : (shards : ShardsShape) (caller count : ℕ) → length (passes_from shards caller count) ≡ count
passes_count shards caller count = length-map (range_with_len caller count) (λ n. unused_pass shards n) ∙ length-range_with_len caller count

-- ---- what such jobs have done once they have run

module _ {W L C : Type 0} (traffic : W → Option Traffic) (wire_faults wire_idles : W → ℕ) (links : L → Option Links) (listener_faults listener_idles : L → ℕ)
    (settings : ServeSettings) (access : Option Listing) (devices : Devices W L C) (opened : Opened W L C) (jobs : List (Job W L C))
    (a a' : Option (Lent WireTale)) (b b' : Option (Lent ListenerTale)) (last : PassShape) where
  -- on devices that were made, new jobs have run by what was opened for them
  pub record RanOn : Type 0 where
    pub devices_are : AreDevices (λ wire. IsNewWire (traffic wire) (wire_faults wire) (wire_idles wire)) (λ listener. IsNewListener (links listener) (listener_faults listener) (listener_idles listener)) settings devices
    pub is_opened : IsOpened settings (vec_len devices.clocks) opened
    pub jobs_are : AreJobs devices.wires.items devices.listeners.items devices.sync_wires.items opened.passes.items jobs
    pub run : HaveRun (λ old new. Ran traffic wire_faults links listener_faults settings access old new)
        (λ wire. wire_tale (traffic wire) (wire_faults wire) (wire_idles wire)) (λ listener. listener_tale (links listener) (listener_faults listener) (listener_idles listener))
        opened.idle.items jobs opened.pass last a a' b b'
    pub known : KnowsNumbers last
    pub buckets : length last.seen ≡ 2 ^ opened.shards.bits
    pub legal : All (IsLegalHistory opened.shards.settings) last.seen

  abbrev numbered_jobs : (ran : RanOn) → AreJobs devices.wires.items devices.listeners.items devices.sync_wires.items (passes_from opened.shards 2 (vec_len devices.clocks)) jobs
  numbered_jobs ran = subst (λ p. AreJobs devices.wires.items devices.listeners.items devices.sync_wires.items p jobs) ran.is_opened.passes ran.jobs_are

  have_ended : (ran : RanOn) → Ended traffic wire_faults wire_idles links listener_faults listener_idles settings access opened.shards ran.is_opened.bits ran.is_opened.settings_are
      devices.wires.items devices.listeners.items devices.sync_wires.items (vec_len devices.clocks) jobs (numbered_jobs ran) ran.run.ended last.seen
  have_ended ran =
      let are = ran.devices_are in
      let w = devices.wires.ok.0 in let l = devices.listeners.ok.0 in let x = devices.sync_wires.ok.0 in
      all_served traffic wire_faults wire_idles links listener_faults listener_idles settings access opened.shards ran.is_opened.bits ran.is_opened.settings_are
      devices.wires.items devices.listeners.items devices.sync_wires.items (vec_len devices.clocks) jobs (numbered_jobs ran) ran.run.ended ran.run.middle last
      are.new_wires are.new_listeners are.new_sync_wires (sym x ∙ are.sync_wire_count) (let n = are.clock_count in omega arith) ran.run.each
      (subst (λ p. AreJoined (passes_from opened.shards 1 1) p ran.run.middle) ran.is_opened.pass (subst (λ l. AreJoined l opened.pass ran.run.middle) ran.is_opened.idle ran.run.idle_joined))
      ran.run.jobs_joined ran.known ran.buckets ran.legal

  pub serves_so : RanOn → (HasWritten : List (List Entry) → Type 0) → HasWritten last.seen → HasServed settings access 0 0 a a' b b' HasWritten
  serves_so ran HasWritten has =
      let ended = have_ended ran in record {
        histories = last.seen;
        wires = ended.wire_tales;
        listeners = ended.listener_tales;
        sync_wires = ended.sync_tales;
        wire_count = ended.wire_count ∙ sym devices.wires.ok.0 ∙ ran.devices_are.wire_count;
        listener_count = ended.listener_count ∙ sym devices.listeners.ok.0 ∙ ran.devices_are.listener_count;
        sync_wire_count = ended.sync_wire_count ∙ sym devices.sync_wires.ok.0 ∙ ran.devices_are.sync_wire_count;
        served = ended.served;
        wires_back = subst (Lends a a' 0) ended.wires_are ran.run.wires_back;
        listeners_back = subst (Lends b b' 0) ended.listeners_are ran.run.listeners_back;
        has_written = has;
      }

  pub take_back : RanOn → TakesBack (vec_len devices.wires + vec_len devices.sync_wires) a a' × TakesBack (vec_len devices.listeners) b b'
  take_back ran =
      let ended = have_ended ran in (
        record {
          back = ended.wire_tales ++ ended.sync_tales;
          many = omega (arith, ended.wire_count, ended.sync_wire_count, length-append ended.wire_tales ended.sync_tales, devices.wires.ok.0, devices.sync_wires.ok.0);
          lends = subst (Lends a a' 0) ended.wires_are ran.run.wires_back;
        },
        record { back = ended.listener_tales; many = ended.listener_count ∙ sym devices.listeners.ok.0; lends = subst (Lends b b' 0) ended.listeners_are ran.run.listeners_back },
      )
