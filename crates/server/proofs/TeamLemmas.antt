-- The jobs of a server as a list: what they have, and what of it stays while they run.
use Rattle.std.proofs.Common.{◌≡◌, ◌≢◌, ℕ, zero, suc, ◌+◌, ◌<◌, ◌⊎◌, List, [], ◌∷◌, ◌++◌, All, length, map, get_or, refl, sym, ap, subst, ◌∙◌, inl, inr, arith}
use Rattle.std.specs.Prelude.{IsSome, None, Option, Some}
use Rattle.std.proofs.Math.Seq.{get_or-append_seam}
use Rattle.std.proofs.lemmas.List.{append-nil, length-append, length-map}
use Rattle.std.proofs.lemmas.List.Elements.{All-append, All-cons, All-get_or, All-head, All-nil, All-tail}
use Rattle.access_list.specs.Access.{Listing}
use Rattle.ot_io.specs.Lending.{AreOut, Lends, Lent}
use Rattle.ot_io.specs.Tales.{Links}
use Rattle.ot_io.specs.Traffic.{Traffic}
use Rattle.ot_io.specs.declared.settings.ServeSettings.{ServeSettings}
use Rattle.ot_io.specs.declared.settings.SyncSettings.{SyncSettings}
use Rattle.shards.specs.Shape.{PassShape, ShardsShape}
use Rattle.serve.specs.Jobs.{HeardOf, IsReady, Ran}
use Rattle.server.specs.Devices.{sync_count}
use Rattle.server.specs.Opening.{AddsJobs, AreLinkJobs, AreSyncJobs, AreWireJobs, IsCleanerJob}
use Rattle.server.specs.Teams.{AllRan, IsWorker, listeners_of, wires_of}
use Rattle.serve.specs.declared.job.Job.{Job}
use Rattle.serve.specs.declared.scratch.Scratch.{Scratch}
use Rattle.server.proofs.DeviceLemmas.{still_out}
use Rattle.serve.specs.declared.job.Job.TheVariants.{Udp, Http, Cleaner, Sender, Receiver}

-- ---- lists that are taken from the front

-- something is left of a list, where as much is gone as of another one, no longer, that isn't at its end
pub some_left : {X Y : Type 0} (all done rest : List X) (x : X) (others gone left : List Y) → length all < suc (length others) → all ≡ done ++ x ∷ rest → others ≡ gone ++ left → length gone ≡ length done → 0 < length left
some_left all done rest x others gone left few is cut as_many =
    let a = ap length is in let b = length-append done (x ∷ rest) in let c = ap length cut in let d = length-append gone left in omega arith

-- nothing is left, where all are gone
pub all_gone : {X : Type 0} (all done left : List X) → all ≡ done ++ left → length all ≡ length done → done ≡ all
all_gone all done [] is same = sym (is ∙ append-nil done)
all_gone all done (x ∷ left) is same = absurd (let a = ap length is in let b = length-append done (x ∷ left) in omega arith)

pub ran_from : {J : Type 0} {ran : J → J → Type 0} {lent old new : List J} → lent ≡ old → AllRan ran lent new → AllRan ran old new
ran_from {J} {ran} {lent} {old} {new} is all = subst (λ l. AllRan ran l new) is all

-- a pass of the shards, that isn't the first
abbrev pub IsOther : ShardsShape → PassShape → Type 0
IsOther shards pass = (pass.shards ≡ shards) × (pass.caller ≢ 0)

pass_kept : (shards : ShardsShape) (pass pass' : PassShape) → pass' ≡ record pass { seen = pass'.seen } → IsOther shards pass → IsOther shards pass'
pass_kept shards pass pass' is was = subst (IsOther shards) (sym is) was

heard_kept : (sync : Option SyncSettings) (old new : PassShape) (wire wire' : Option Traffic) (faults faults' : ℕ) → HeardOf sync old new wire wire' faults faults' → new ≡ record old { seen = new.seen }
heard_kept None old new wire wire' faults faults' heard = absurd heard
heard_kept (Some sync) old new wire wire' faults faults' heard = heard.pass

some_nodes : (sync : Option SyncSettings) → sync_count sync ≡ 2 → IsSome sync
some_nodes None two = absurd (omega arith)
some_nodes (Some sync) two = refl

-- the one number or the other, where it isn't the first
pub two_of : (count : ℕ) → (count ≡ 0) ⊎ (count ≡ 2) → 0 < count → count ≡ 2
two_of count (inl none) some = absurd (omega arith)
two_of count (inr two) some = two

module _ {W L C : Type 0} where
  -- ---- lists one behind the other

  pub wires_of-append : (xs ys : List (Job W L C)) → wires_of (xs ++ ys) ≡ wires_of xs ++ wires_of ys
  wires_of-append [] ys = refl
  wires_of-append (Udp pass wire clock scratch ∷ xs) ys = ap (λ l. wire ∷ l) (wires_of-append xs ys)
  wires_of-append (Http pass listener clock scratch ∷ xs) ys = wires_of-append xs ys
  wires_of-append (Cleaner pass clock ∷ xs) ys = wires_of-append xs ys
  wires_of-append (Sender pass wire clock ∷ xs) ys = ap (λ l. wire ∷ l) (wires_of-append xs ys)
  wires_of-append (Receiver pass wire clock ∷ xs) ys = ap (λ l. wire ∷ l) (wires_of-append xs ys)

  pub listeners_of-append : (xs ys : List (Job W L C)) → listeners_of (xs ++ ys) ≡ listeners_of xs ++ listeners_of ys
  listeners_of-append [] ys = refl
  listeners_of-append (Udp pass wire clock scratch ∷ xs) ys = listeners_of-append xs ys
  listeners_of-append (Http pass listener clock scratch ∷ xs) ys = ap (λ l. listener ∷ l) (listeners_of-append xs ys)
  listeners_of-append (Cleaner pass clock ∷ xs) ys = listeners_of-append xs ys
  listeners_of-append (Sender pass wire clock ∷ xs) ys = listeners_of-append xs ys
  listeners_of-append (Receiver pass wire clock ∷ xs) ys = listeners_of-append xs ys

  -- ---- what new jobs have

  pub record HasJobs (shards : ShardsShape) (sync : Option SyncSettings) (wires : List W) (listeners : List L) (n : ℕ) (jobs : List (Job W L C)) : Type 0 where
    pub wires_are : wires_of jobs ≡ wires
    pub listeners_are : listeners_of jobs ≡ listeners
    pub count : length jobs ≡ n
    pub ready : All (IsReady shards sync) jobs
    pub workers : All (IsWorker shards) jobs

  pub no_jobs : (shards : ShardsShape) (sync : Option SyncSettings) → HasJobs shards sync [] [] 0 []
  no_jobs shards sync = record { wires_are = refl; listeners_are = refl; count = refl; ready = All-nil (IsReady shards sync); workers = All-nil (IsWorker shards) }

  pub wire_jobs : (shards : ShardsShape) (sync : Option SyncSettings) (wires : List W) (passes : List PassShape) (jobs : List (Job W L C)) → All (IsOther shards) passes
      → AreWireJobs wires passes jobs → HasJobs shards sync wires [] (length wires) jobs
  unfolding IsReady IsWorker
  wire_jobs shards sync [] [] [] others are = no_jobs shards sync
  wire_jobs shards sync (wire ∷ wires) (pass ∷ passes) (Udp pass' wire' clock scratch ∷ jobs) others are =
      let tail = wire_jobs shards sync wires passes jobs (All-tail (IsOther shards) pass passes others) are.2 in
      let here : IsOther shards pass' = subst (IsOther shards) (sym are.1) (All-head (IsOther shards) pass passes others) in
      record {
        wires_are = ap (λ w. w ∷ wires_of jobs) are.0 ∙ ap (λ l. wire ∷ l) tail.wires_are;
        listeners_are = tail.listeners_are;
        count = ap suc tail.count;
        ready = All-cons (IsReady shards sync) (Udp pass' wire' clock scratch) jobs here.0 tail.ready;
        workers = All-cons (IsWorker shards) (Udp pass' wire' clock scratch) jobs here tail.workers;
      }
  wire_jobs shards sync (wire ∷ wires) (pass ∷ passes) (Http pass' listener' clock' scratch' ∷ jobs) others are = absurd are
  wire_jobs shards sync (wire ∷ wires) (pass ∷ passes) (Cleaner pass' clock' ∷ jobs) others are = absurd are
  wire_jobs shards sync (wire ∷ wires) (pass ∷ passes) (Sender pass' wire' clock' ∷ jobs) others are = absurd are
  wire_jobs shards sync (wire ∷ wires) (pass ∷ passes) (Receiver pass' wire' clock' ∷ jobs) others are = absurd are
  wire_jobs shards sync (wire ∷ wires) (pass ∷ passes) [] others are = absurd are
  wire_jobs shards sync (wire ∷ wires) [] jobs others are = absurd are
  wire_jobs shards sync [] (pass ∷ passes) jobs others are = absurd are
  wire_jobs shards sync [] [] (job ∷ jobs) others are = absurd are

  pub link_jobs : (shards : ShardsShape) (sync : Option SyncSettings) (listeners : List L) (passes : List PassShape) (jobs : List (Job W L C)) → All (IsOther shards) passes
      → AreLinkJobs listeners passes jobs → HasJobs shards sync [] listeners (length listeners) jobs
  unfolding IsReady IsWorker
  link_jobs shards sync [] [] [] others are = no_jobs shards sync
  link_jobs shards sync (listener ∷ listeners) (pass ∷ passes) (Http pass' listener' clock scratch ∷ jobs) others are =
      let tail = link_jobs shards sync listeners passes jobs (All-tail (IsOther shards) pass passes others) are.2 in
      let here : IsOther shards pass' = subst (IsOther shards) (sym are.1) (All-head (IsOther shards) pass passes others) in
      record {
        wires_are = tail.wires_are;
        listeners_are = ap (λ w. w ∷ listeners_of jobs) are.0 ∙ ap (λ l. listener ∷ l) tail.listeners_are;
        count = ap suc tail.count;
        ready = All-cons (IsReady shards sync) (Http pass' listener' clock scratch) jobs here.0 tail.ready;
        workers = All-cons (IsWorker shards) (Http pass' listener' clock scratch) jobs here tail.workers;
      }
  link_jobs shards sync (listener ∷ listeners) (pass ∷ passes) (Udp pass' wire' clock' scratch' ∷ jobs) others are = absurd are
  link_jobs shards sync (listener ∷ listeners) (pass ∷ passes) (Cleaner pass' clock' ∷ jobs) others are = absurd are
  link_jobs shards sync (listener ∷ listeners) (pass ∷ passes) (Sender pass' wire' clock' ∷ jobs) others are = absurd are
  link_jobs shards sync (listener ∷ listeners) (pass ∷ passes) (Receiver pass' wire' clock' ∷ jobs) others are = absurd are
  link_jobs shards sync (listener ∷ listeners) (pass ∷ passes) [] others are = absurd are
  link_jobs shards sync (listener ∷ listeners) [] jobs others are = absurd are
  link_jobs shards sync [] (pass ∷ passes) jobs others are = absurd are
  link_jobs shards sync [] [] (job ∷ jobs) others are = absurd are

  pub cleaner_job : (shards : ShardsShape) (sync : Option SyncSettings) (passes : List PassShape) (jobs : List (Job W L C)) → All (IsOther shards) passes → IsCleanerJob passes jobs → HasJobs shards sync [] [] 1 jobs
  unfolding IsReady IsWorker
  cleaner_job shards sync passes jobs others is =
      let here : IsOther shards is.pass = All-head (IsOther shards) is.pass [] (subst (All (IsOther shards)) is.passes_are others) in
      subst (HasJobs shards sync [] [] 1) (sym is.jobs_are) (record {
        wires_are = refl;
        listeners_are = refl;
        count = refl;
        ready = All-cons (IsReady shards sync) (Cleaner is.pass is.clock) [] here.0 (All-nil (IsReady shards sync));
        workers = All-cons (IsWorker shards) (Cleaner is.pass is.clock) [] here (All-nil (IsWorker shards));
      })

  pub sync_jobs : (shards : ShardsShape) (sync : Option SyncSettings) (wires : List W) (passes : List PassShape) (jobs : List (Job W L C)) → All (IsOther shards) passes → length wires ≡ sync_count sync
      → AreSyncJobs wires passes jobs → HasJobs shards sync wires [] (length wires) jobs
  unfolding IsReady IsWorker
  sync_jobs shards sync [] passes jobs others count are = subst (HasJobs shards sync [] [] 0) (sym are.1) (no_jobs shards sync)
  sync_jobs shards sync (first ∷ second ∷ []) passes jobs others count are =
      let each = subst (All (IsOther shards)) are.passes_are others in
      let here : IsOther shards are.pass = All-head (IsOther shards) are.pass (are.next ∷ []) each in
      let there : IsOther shards are.next = All-head (IsOther shards) are.next [] (All-tail (IsOther shards) are.pass (are.next ∷ []) each) in
      let some = some_nodes sync (sym count) in
      let sender = Sender are.pass first are.clock in
      let receiver = Receiver are.next second are.next_clock in
      subst (HasJobs shards sync (first ∷ second ∷ []) [] 2) (sym are.jobs_are) (record {
        wires_are = refl;
        listeners_are = refl;
        count = refl;
        ready = All-cons (IsReady shards sync) sender (receiver ∷ []) (here.0, some) (All-cons (IsReady shards sync) receiver [] (there.0, some) (All-nil (IsReady shards sync)));
        workers = All-cons (IsWorker shards) sender (receiver ∷ []) here (All-cons (IsWorker shards) receiver [] there (All-nil (IsWorker shards)));
      })
  sync_jobs shards sync (first ∷ []) passes jobs others count are = absurd are
  sync_jobs shards sync (first ∷ second ∷ third ∷ wires) passes jobs others count are = absurd are

  -- ---- a job more

  pub wire_more : (wires : List W) (passes : List PassShape) (jobs : List (Job W L C)) (wire : W) (pass : PassShape) (clock : C) (scratch : Scratch)
      → AreWireJobs wires passes jobs → AreWireJobs (wires ++ wire ∷ []) (passes ++ pass ∷ []) (jobs ++ Udp pass wire clock scratch ∷ [])
  wire_more [] [] [] wire pass clock scratch are = (refl, refl, tt)
  wire_more (w ∷ wires) (p ∷ passes) (Udp p' w' c s ∷ jobs) wire pass clock scratch are = (are.0, are.1, wire_more wires passes jobs wire pass clock scratch are.2)
  wire_more (w ∷ wires) (p ∷ passes) (Http p' l c s ∷ jobs) wire pass clock scratch are = absurd are
  wire_more (w ∷ wires) (p ∷ passes) (Cleaner p' c ∷ jobs) wire pass clock scratch are = absurd are
  wire_more (w ∷ wires) (p ∷ passes) (Sender p' w' c ∷ jobs) wire pass clock scratch are = absurd are
  wire_more (w ∷ wires) (p ∷ passes) (Receiver p' w' c ∷ jobs) wire pass clock scratch are = absurd are
  wire_more (w ∷ wires) (p ∷ passes) [] wire pass clock scratch are = absurd are
  wire_more (w ∷ wires) [] jobs wire pass clock scratch are = absurd are
  wire_more [] (p ∷ passes) jobs wire pass clock scratch are = absurd are
  wire_more [] [] (job ∷ jobs) wire pass clock scratch are = absurd are

  pub link_more : (listeners : List L) (passes : List PassShape) (jobs : List (Job W L C)) (listener : L) (pass : PassShape) (clock : C) (scratch : Scratch)
      → AreLinkJobs listeners passes jobs → AreLinkJobs (listeners ++ listener ∷ []) (passes ++ pass ∷ []) (jobs ++ Http pass listener clock scratch ∷ [])
  link_more [] [] [] listener pass clock scratch are = (refl, refl, tt)
  link_more (l ∷ listeners) (p ∷ passes) (Http p' l' c s ∷ jobs) listener pass clock scratch are = (are.0, are.1, link_more listeners passes jobs listener pass clock scratch are.2)
  link_more (l ∷ listeners) (p ∷ passes) (Udp p' w c s ∷ jobs) listener pass clock scratch are = absurd are
  link_more (l ∷ listeners) (p ∷ passes) (Cleaner p' c ∷ jobs) listener pass clock scratch are = absurd are
  link_more (l ∷ listeners) (p ∷ passes) (Sender p' w c ∷ jobs) listener pass clock scratch are = absurd are
  link_more (l ∷ listeners) (p ∷ passes) (Receiver p' w c ∷ jobs) listener pass clock scratch are = absurd are
  link_more (l ∷ listeners) (p ∷ passes) [] listener pass clock scratch are = absurd are
  link_more (l ∷ listeners) [] jobs listener pass clock scratch are = absurd are
  link_more [] (p ∷ passes) jobs listener pass clock scratch are = absurd are
  link_more [] [] (job ∷ jobs) listener pass clock scratch are = absurd are

  pub wire_long : (wires : List W) (passes : List PassShape) (jobs : List (Job W L C)) → AreWireJobs wires passes jobs → (length passes ≡ length wires) × (length jobs ≡ length wires)
  wire_long [] [] [] are = (refl, refl)
  wire_long (w ∷ wires) (p ∷ passes) (Udp p' w' c s ∷ jobs) are = let e = wire_long wires passes jobs are.2 in (ap suc e.0, ap suc e.1)
  wire_long (w ∷ wires) (p ∷ passes) (Http p' l c s ∷ jobs) are = absurd are
  wire_long (w ∷ wires) (p ∷ passes) (Cleaner p' c ∷ jobs) are = absurd are
  wire_long (w ∷ wires) (p ∷ passes) (Sender p' w' c ∷ jobs) are = absurd are
  wire_long (w ∷ wires) (p ∷ passes) (Receiver p' w' c ∷ jobs) are = absurd are
  wire_long (w ∷ wires) (p ∷ passes) [] are = absurd are
  wire_long (w ∷ wires) [] jobs are = absurd are
  wire_long [] (p ∷ passes) jobs are = absurd are
  wire_long [] [] (job ∷ jobs) are = absurd are

  pub link_long : (listeners : List L) (passes : List PassShape) (jobs : List (Job W L C)) → AreLinkJobs listeners passes jobs → (length passes ≡ length listeners) × (length jobs ≡ length listeners)
  link_long [] [] [] are = (refl, refl)
  link_long (l ∷ listeners) (p ∷ passes) (Http p' l' c s ∷ jobs) are = let e = link_long listeners passes jobs are.2 in (ap suc e.0, ap suc e.1)
  link_long (l ∷ listeners) (p ∷ passes) (Udp p' w c s ∷ jobs) are = absurd are
  link_long (l ∷ listeners) (p ∷ passes) (Cleaner p' c ∷ jobs) are = absurd are
  link_long (l ∷ listeners) (p ∷ passes) (Sender p' w c ∷ jobs) are = absurd are
  link_long (l ∷ listeners) (p ∷ passes) (Receiver p' w c ∷ jobs) are = absurd are
  link_long (l ∷ listeners) (p ∷ passes) [] are = absurd are
  link_long (l ∷ listeners) [] jobs are = absurd are
  link_long [] (p ∷ passes) jobs are = absurd are
  link_long [] [] (job ∷ jobs) are = absurd are

  pub cleaner_long : (passes : List PassShape) (jobs : List (Job W L C)) → IsCleanerJob passes jobs → (length passes ≡ 1) × (length jobs ≡ 1)
  cleaner_long passes jobs is = (ap length is.passes_are, ap length is.jobs_are)

  pub sync_long : (wires : List W) (passes : List PassShape) (jobs : List (Job W L C)) → AreSyncJobs wires passes jobs → (length passes ≡ length wires) × (length jobs ≡ length wires)
  sync_long [] passes jobs are = (ap length are.0, ap length are.1)
  sync_long (first ∷ second ∷ []) passes jobs are = (ap length are.passes_are, ap length are.jobs_are)
  sync_long (first ∷ []) passes jobs are = absurd are
  sync_long (first ∷ second ∷ third ∷ wires) passes jobs are = absurd are

  -- so many jobs of all were made, and as many passes and clocks are left as are to be made still
  pub record Stock (done total : ℕ) (room : List (Job W L C)) (passes : List PassShape) (clocks : List C) : Type 0 where
    pub made : length room ≡ done
    pub passes_left : length passes + done ≡ total
    pub clocks_left : length clocks + done ≡ total

  -- so many more were made
  pub stock_after : {AreAdded : List PassShape → List (Job W L C) → Type 0} {room room' : List (Job W L C)} {passes passes' : List PassShape} {clocks clocks' : List C} (done total n : ℕ) → Stock done total room passes clocks
      → (adds : AddsJobs AreAdded room room' passes passes' clocks clocks') → (length adds.taken ≡ n) × (length adds.jobs ≡ n) → Stock (done + n) total room' passes' clocks'
  stock_after {room = room} {passes' = passes'} done total n stock adds long = record {
    made = omega (arith, stock.made, ap length adds.room_is, length-append room adds.jobs, long.1);
    passes_left = omega (arith, stock.passes_left, ap length adds.passes_are, length-append adds.taken passes', long.0);
    clocks_left = omega (arith, stock.clocks_left, adds.clocks_gone, long.1);
  }

  -- jobs behind others
  pub all_jobs : (shards : ShardsShape) (sync : Option SyncSettings) (wires wires' : List W) (listeners listeners' : List L) (m n : ℕ) (xs ys : List (Job W L C)) → HasJobs shards sync wires listeners m xs → HasJobs shards sync wires' listeners' n ys
      → HasJobs shards sync (wires ++ wires') (listeners ++ listeners') (m + n) (xs ++ ys)
  all_jobs shards sync wires wires' listeners listeners' m n xs ys first then = record {
    wires_are = wires_of-append xs ys ∙ ap (λ l. l ++ wires_of ys) first.wires_are ∙ ap (λ l. wires ++ l) then.wires_are;
    listeners_are = listeners_of-append xs ys ∙ ap (λ l. l ++ listeners_of ys) first.listeners_are ∙ ap (λ l. listeners ++ l) then.listeners_are;
    count = (let a = first.count in let b = then.count in let c = length-append xs ys in omega arith);
    ready = All-append (IsReady shards sync) xs ys first.ready then.ready;
    workers = All-append (IsWorker shards) xs ys first.workers then.workers;
  }

  -- ---- what stays of jobs that ran

  module _ (traffic : W → Option Traffic) (wire_faults : W → ℕ) (links : L → Option Links) (listener_faults : L → ℕ) (settings : ServeSettings) (access : Option Listing) where
    abbrev RanAs : Job W L C → Job W L C → Type 0
    RanAs old new = Ran traffic wire_faults links listener_faults settings access old new

    -- what a job has still
    record Keeps (shards : ShardsShape) (old new : Job W L C) : Type 0 where
      wires : length (wires_of (new ∷ [])) ≡ length (wires_of (old ∷ []))
      listeners : length (listeners_of (new ∷ [])) ≡ length (listeners_of (old ∷ []))
      worker : IsWorker shards old → IsWorker shards new

    keeps : (shards : ShardsShape) (old new : Job W L C) → RanAs old new → Keeps shards old new
    unfolding Ran IsWorker
    keeps shards (Udp pass wire clock scratch) (Udp pass' wire' clock' scratch') ran = record { wires = refl; listeners = refl; worker = pass_kept shards pass pass' ran.0.pass }
    keeps shards (Udp pass wire clock scratch) (Http pass' listener' clock' scratch') ran = absurd ran
    keeps shards (Udp pass wire clock scratch) (Cleaner pass' clock') ran = absurd ran
    keeps shards (Udp pass wire clock scratch) (Sender pass' wire' clock') ran = absurd ran
    keeps shards (Udp pass wire clock scratch) (Receiver pass' wire' clock') ran = absurd ran
    keeps shards (Http pass listener clock scratch) (Udp pass' wire' clock' scratch') ran = absurd ran
    keeps shards (Http pass listener clock scratch) (Http pass' listener' clock' scratch') ran = record { wires = refl; listeners = refl; worker = pass_kept shards pass pass' ran.0.pass }
    keeps shards (Http pass listener clock scratch) (Cleaner pass' clock') ran = absurd ran
    keeps shards (Http pass listener clock scratch) (Sender pass' wire' clock') ran = absurd ran
    keeps shards (Http pass listener clock scratch) (Receiver pass' wire' clock') ran = absurd ran
    keeps shards (Cleaner pass clock) (Udp pass' wire' clock' scratch') ran = absurd ran
    keeps shards (Cleaner pass clock) (Http pass' listener' clock' scratch') ran = absurd ran
    keeps shards (Cleaner pass clock) (Cleaner pass' clock') ran = record { wires = refl; listeners = refl; worker = pass_kept shards pass pass' ran.pass }
    keeps shards (Cleaner pass clock) (Sender pass' wire' clock') ran = absurd ran
    keeps shards (Cleaner pass clock) (Receiver pass' wire' clock') ran = absurd ran
    keeps shards (Sender pass wire clock) (Udp pass' wire' clock' scratch') ran = absurd ran
    keeps shards (Sender pass wire clock) (Http pass' listener' clock' scratch') ran = absurd ran
    keeps shards (Sender pass wire clock) (Cleaner pass' clock') ran = absurd ran
    keeps shards (Sender pass wire clock) (Sender pass' wire' clock') ran = record { wires = refl; listeners = refl; worker = pass_kept shards pass pass' ran.pass }
    keeps shards (Sender pass wire clock) (Receiver pass' wire' clock') ran = absurd ran
    keeps shards (Receiver pass wire clock) (Udp pass' wire' clock' scratch') ran = absurd ran
    keeps shards (Receiver pass wire clock) (Http pass' listener' clock' scratch') ran = absurd ran
    keeps shards (Receiver pass wire clock) (Cleaner pass' clock') ran = absurd ran
    keeps shards (Receiver pass wire clock) (Sender pass' wire' clock') ran = absurd ran
    keeps shards (Receiver pass wire clock) (Receiver pass' wire' clock') ran = record { wires = refl; listeners = refl; worker = pass_kept shards pass pass' (heard_kept settings.sync pass pass' (traffic wire) (traffic wire') (wire_faults wire) (wire_faults wire') ran.0) }

    pub record KeepAll (shards : ShardsShape) (old new : List (Job W L C)) : Type 0 where
      pub count : length new ≡ length old
      pub wires : length (wires_of new) ≡ length (wires_of old)
      pub listeners : length (listeners_of new) ≡ length (listeners_of old)
      pub workers : All (IsWorker shards) old → All (IsWorker shards) new

    keep_each : (shards : ShardsShape) (old new : List (Job W L C)) → length new ≡ length old
        → ((i : ℕ) (d : Job W L C) → i < length old → RanAs (get_or old i d) (get_or new i d)) → KeepAll shards old new
    keep_each shards [] [] count each = record { count = refl; wires = refl; listeners = refl; workers = λ was. was }
    keep_each shards [] (y ∷ new) count each = absurd (omega arith)
    keep_each shards (x ∷ old) [] count each = absurd (omega arith)
    keep_each shards (x ∷ old) (y ∷ new) count each =
        let tail = keep_each shards old new (omega arith) (λ i d within. each (suc i) d (omega arith)) in
        let head = keeps shards x y (each zero x (omega arith)) in
        record {
          count = count;
          wires = (let a = ap length (wires_of-append (y ∷ []) new) ∙ length-append (wires_of (y ∷ [])) (wires_of new) in
              let b = ap length (wires_of-append (x ∷ []) old) ∙ length-append (wires_of (x ∷ [])) (wires_of old) in
              let c = head.wires in let e = tail.wires in omega arith);
          listeners = (let a = ap length (listeners_of-append (y ∷ []) new) ∙ length-append (listeners_of (y ∷ [])) (listeners_of new) in
              let b = ap length (listeners_of-append (x ∷ []) old) ∙ length-append (listeners_of (x ∷ [])) (listeners_of old) in
              let c = head.listeners in let e = tail.listeners in omega arith);
          workers = λ was. All-cons (IsWorker shards) y new (head.worker (All-head (IsWorker shards) x old was)) (tail.workers (All-tail (IsWorker shards) x old was));
        }

    pub keep_all : (shards : ShardsShape) (old new : List (Job W L C)) → AllRan RanAs old new → KeepAll shards old new
    keep_all shards old new ran = keep_each shards old new ran.count ran.each

  -- ---- jobs that end, one after another

  -- the next one is a worker
  pub next_worker : (shards : ShardsShape) (all done rest : List (Job W L C)) (job : Job W L C) → all ≡ done ++ job ∷ rest → All (IsWorker shards) all → IsWorker shards job
  next_worker shards all done rest job is workers =
      let within : length done < length all = (let e = ap length is in let f = length-append done (job ∷ rest) in omega arith) in
      let at : get_or all (length done) job ≡ job = ap (λ l. get_or l (length done) job) is ∙ get_or-append_seam done job rest job in
      subst (IsWorker shards) at (All-get_or (IsWorker shards) all (length done) job within workers)

  -- its wire, if it has one, is out
  pub next_wire_out : {T : Type 0} (tale_of : W → T) (a b : Option (Lent T)) (all done rest : List (Job W L C)) (job : Job W L C) → all ≡ done ++ job ∷ rest
      → AreOut a (length (wires_of all)) → Lends a b 0 (map tale_of (wires_of done)) → AreOut b (length (wires_of (job ∷ [])))
  next_wire_out tale_of a b all done rest job is out lends =
      still_out a b (map tale_of (wires_of done)) (length (wires_of all)) (length (wires_of (job ∷ []))) lends out
      (let e = ap (λ l. length (wires_of l)) is in
      let f = ap length (wires_of-append done (job ∷ rest)) in
      let g = ap length (wires_of-append (job ∷ []) rest) in
      let h = length-append (wires_of done) (wires_of (job ∷ rest)) in
      let i = length-append (wires_of (job ∷ [])) (wires_of rest) in
      let j = length-map (wires_of done) tale_of in omega arith)

  pub next_listener_out : {T : Type 0} (tale_of : L → T) (a b : Option (Lent T)) (all done rest : List (Job W L C)) (job : Job W L C) → all ≡ done ++ job ∷ rest
      → AreOut a (length (listeners_of all)) → Lends a b 0 (map tale_of (listeners_of done)) → AreOut b (length (listeners_of (job ∷ [])))
  next_listener_out tale_of a b all done rest job is out lends =
      still_out a b (map tale_of (listeners_of done)) (length (listeners_of all)) (length (listeners_of (job ∷ []))) lends out
      (let e = ap (λ l. length (listeners_of l)) is in
      let f = ap length (listeners_of-append done (job ∷ rest)) in
      let g = ap length (listeners_of-append (job ∷ []) rest) in
      let h = length-append (listeners_of done) (listeners_of (job ∷ rest)) in
      let i = length-append (listeners_of (job ∷ [])) (listeners_of rest) in
      let j = length-map (listeners_of done) tale_of in omega arith)
