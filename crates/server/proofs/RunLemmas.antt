-- How a server's run ends, from what its parts did.
use Rattle.std.proofs.Common.{◌≡◌, ℕ, ◌+◌, ◌≤◌, ◌⊎◌, List, [], ◌++◌, length, map, sym, ap, subst, ◌∙◌, inl, inr, ⊎_elim, arith}
use Rattle.std.specs.Prelude.{Option, Some, None}
use Rattle.std.specs.Io.KnownBytes.{Appends, IsAtEnd}
use Rattle.std.proofs.lemmas.List.{length-map, length-reverse, take_all}
use Rattle.access_list.specs.Access.{Listing}
use Rattle.lines.specs.Responses.{AnswerRelation, RefusalRelation}
use Rattle.lines.specs.Run.{HasOutcome, RunsLines}
use Rattle.lines.specs.declared.run.Ending.{Ending}
use Rattle.lines.specs.declared.run.Ending.TheVariants as ending
use Rattle.ot_base.specs.declared.access.Mode.{Mode}
use Rattle.ot_base.specs.declared.address.Endpoint.{Endpoint}
use Rattle.ot_io.proofs.Runs.{Lends-refl, Lends-trans}
use Rattle.ot_io.specs.Counts.{Rose}
use Rattle.ot_io.specs.Lending.{Lends, Lent}
use Rattle.ot_io.specs.Tales.{ListenerTale}
use Rattle.ot_io.specs.Traffic.{WireTale}
use Rattle.ot_io.specs.declared.settings.ServeSettings.{ServeSettings}
use Rattle.ot_io.specs.declared.settings.SyncSettings.{SyncSettings}
use Rattle.ot_io.specs.declared.status.Status.{Status}
use Rattle.ot_io.specs.declared.status.Status.TheVariants.{Done, Words, NoMemory, ReadFault, WriteFault, Line, TooLong, TooMuch, Device}
use Rattle.ot_io.specs.declared.status.Status.TheVariants as status
use Rattle.serve.specs.declared.job.Job.{Job}
use Rattle.shards.specs.Shape.{PassShape}
use Rattle.tracker_model.specs.declared.entry.Entry.{Entry}
use Rattle.server.specs.Access.{IsListCaused, ListsLine, MayListEnd, RefusesEnd, RefusesListLine, empty_list}
use Rattle.server.specs.Devices.{IsDeviceCaused, IsShut, device_count, job_count, sync_count}
use Rattle.server.specs.Input.{IsInputCaused}
use Rattle.server.specs.Run.{BeginsWith, Concludes, HasServed, IsServeCaused, RunsServer, ServesTo, Tells, TellsList, WritesFront, ended_as, summary_of}
use Rattle.server.specs.Teams.{HaveRun, pass_of}
use Rattle.server.specs.declared.input.InputEnd.{InputEnd}
use Rattle.server.specs.declared.input.InputEnd.TheVariants.{Ended, Failed}

-- ---- the passes once all are joined

pub none_out : {W L C : Type 0} {ran : Job W L C → Job W L C → Type 0} {wire_told : W → WireTale} {listener_told : L → ListenerTale} {idle : List PassShape} {jobs : List (Job W L C)} {first last : PassShape}
    {a a' : Option (Lent WireTale)} {b b' : Option (Lent ListenerTale)} → HaveRun ran wire_told listener_told idle jobs first last a a' b b' → first.out ≡ length idle + length jobs → last.out ≡ 0
none_out {idle = idle} {jobs = jobs} {first = first} {last = last} run out =
    let passes = map pass_of run.ended in
    let a = run.idle_joined.out in let b = run.jobs_joined.out in let c = length-reverse passes in let d = length-map run.ended pass_of in let e = run.each.count in omega arith

-- caller 0's pass keeps what isn't its histories
pub shards_stay : {W L C : Type 0} {ran : Job W L C → Job W L C → Type 0} {wire_told : W → WireTale} {listener_told : L → ListenerTale} {idle : List PassShape} {jobs : List (Job W L C)} {first last : PassShape}
    {a a' : Option (Lent WireTale)} {b b' : Option (Lent ListenerTale)} → HaveRun ran wire_told listener_told idle jobs first last a a' b b' → (last.shards ≡ first.shards) × (last.caller ≡ first.caller)
shards_stay run = (
  ap (λ (p : PassShape). p.shards) run.jobs_joined.pass ∙ ap (λ (p : PassShape). p.shards) run.idle_joined.pass,
  ap (λ (p : PassShape). p.caller) run.jobs_joined.pass ∙ ap (λ (p : PassShape). p.caller) run.idle_joined.pass,
)

-- ---- how a run ends, by the end of its input and what became of its summary

no_front : (written written' : Option (List ℕ)) (text : List ℕ) → Appends written written' [] → WritesFront written written' text
no_front written written' text none = (0, omega arith, none)

whole_front : (written written' : Option (List ℕ)) (text : List ℕ) → Appends written written' text → WritesFront written written' text
whole_front written written' text all = (length text, omega arith, subst (Appends written written') (sym (take_all (length text) text (omega arith))) all)

pub told_at_end : (written written' : Option (List ℕ)) (writes writes' : ℕ) (histories : List (List Entry)) (end : InputEnd) (told : Status)
    → Concludes written written' writes writes' histories told → Tells written written' histories (ended_as end told)
told_at_end written written' writes writes' histories Ended Done ends = ends
told_at_end written written' writes writes' histories Ended WriteFault ends = ends.0
told_at_end written written' writes writes' histories Ended NoMemory ends = ends
told_at_end written written' writes writes' histories Ended (Words at) ends = absurd ends
told_at_end written written' writes writes' histories Ended ReadFault ends = absurd ends
told_at_end written written' writes writes' histories Ended (Line line why) ends = absurd ends
told_at_end written written' writes writes' histories Ended (TooLong line) ends = absurd ends
told_at_end written written' writes writes' histories Ended TooMuch ends = absurd ends
told_at_end written written' writes writes' histories Ended (status.List line why) ends = absurd ends
told_at_end written written' writes writes' histories Ended Device ends = absurd ends
told_at_end written written' writes writes' histories Failed Done ends = whole_front written written' (summary_of histories) ends
told_at_end written written' writes writes' histories Failed WriteFault ends = ends.0
told_at_end written written' writes writes' histories Failed NoMemory ends = no_front written written' (summary_of histories) ends
told_at_end written written' writes writes' histories Failed (Words at) ends = absurd ends
told_at_end written written' writes writes' histories Failed ReadFault ends = absurd ends
told_at_end written written' writes writes' histories Failed (Line line why) ends = absurd ends
told_at_end written written' writes writes' histories Failed (TooLong line) ends = absurd ends
told_at_end written written' writes writes' histories Failed TooMuch ends = absurd ends
told_at_end written written' writes writes' histories Failed (status.List line why) ends = absurd ends
told_at_end written written' writes writes' histories Failed Device ends = absurd ends

pub caused_at_end : (ends ends' reads reads' writes writes' makes makes' : ℕ) (written written' : Option (List ℕ)) (histories : List (List Entry)) (end : InputEnd) (told : Status)
    → IsInputCaused ends ends' reads reads' end → Concludes written written' writes writes' histories told → IsServeCaused ends ends' reads reads' writes writes' makes makes' (ended_as end told)
caused_at_end ends ends' reads reads' writes writes' makes makes' written written' histories Failed told by concluded = by
caused_at_end ends ends' reads reads' writes writes' makes makes' written written' histories Ended Done by concluded = by
caused_at_end ends ends' reads reads' writes writes' makes makes' written written' histories Ended WriteFault by concluded = concluded.1
caused_at_end ends ends' reads reads' writes writes' makes makes' written written' histories Ended NoMemory by concluded = tt
caused_at_end ends ends' reads reads' writes writes' makes makes' written written' histories Ended (Words at) by concluded = absurd concluded
caused_at_end ends ends' reads reads' writes writes' makes makes' written written' histories Ended ReadFault by concluded = absurd concluded
caused_at_end ends ends' reads reads' writes writes' makes makes' written written' histories Ended (Line line why) by concluded = absurd concluded
caused_at_end ends ends' reads reads' writes writes' makes makes' written written' histories Ended (TooLong line) by concluded = absurd concluded
caused_at_end ends ends' reads reads' writes writes' makes makes' written written' histories Ended TooMuch by concluded = absurd concluded
caused_at_end ends ends' reads reads' writes writes' makes makes' written written' histories Ended (status.List line why) by concluded = absurd concluded
caused_at_end ends ends' reads reads' writes writes' makes makes' written written' histories Ended Device by concluded = absurd concluded

-- ---- on devices that were made

module _ (settings : ServeSettings) (access : Option Listing) (m n : ℕ) (a a' : Option (Lent WireTale)) (b b' : Option (Lent ListenerTale)) (written written' : Option (List ℕ)) where
  -- what was told of some histories is what a server tells that has served so
  pub serves_to : (histories : List (List Entry)) (status : Status) → Tells written written' histories status
      → ((HasWritten : List (List Entry) → Type 0) → HasWritten histories → HasServed settings access m n a a' b b' HasWritten) → ServesTo settings access m n a a' b b' written written' status
  serves_to histories Done told make = make (λ h. Appends written written' (summary_of h)) told
  serves_to histories WriteFault told make = make (λ h. WritesFront written written' (summary_of h)) told
  serves_to histories ReadFault told make = make (λ h. WritesFront written written' (summary_of h)) told
  serves_to histories NoMemory told make = told
  serves_to histories (Words at) told make = absurd told
  serves_to histories (Line line why) told make = absurd told
  serves_to histories (TooLong line) told make = absurd told
  serves_to histories TooMuch told make = absurd told
  serves_to histories (status.List line why) told make = absurd told
  serves_to histories Device told make = absurd told

-- ---- from the access list on

-- a count that rose has risen when it is still greater
rose_further : (old middle new : ℕ) → Rose old middle → middle ≤ new → Rose old new
rose_further old middle new rose more = omega arith

-- what holds of a run over lines where the input came to its end does where it may have
module _ (E F : Type 0) (weaker : E → F) {S R : Type 0} (answers : AnswerRelation S) (refuses : RefusalRelation S R) (may_end : S → Type 0) (refuses_end : S → R → Type 0) where
  outcome_further : (old : S) (read text : List ℕ) (new : S) (end : Ending R) → HasOutcome E answers refuses may_end refuses_end old read text new end → HasOutcome F answers refuses may_end refuses_end old read text new end
  outcome_further old read text new ending.Done o = (weaker o.0, o.1, o.2)
  outcome_further old read text new (ending.Refused n why) (inl o) = inl o
  outcome_further old read text new (ending.Refused n why) (inr (inl o)) = inr (inl (weaker o.0, o.1))
  outcome_further old read text new (ending.Refused n why) (inr (inr o)) = inr (inr (weaker o.0, o.1))
  outcome_further old read text new (ending.TooLong n) o = o
  outcome_further old read text new ending.TooMuch o = o
  outcome_further old read text new ending.ReadFault o = o
  outcome_further old read text new ending.WriteFault (inl o) = inl o
  outcome_further old read text new ending.WriteFault (inr o) = inr (weaker o.0, o.1)
  outcome_further old read text new ending.NoMemory (inl o) = inl o
  outcome_further old read text new ending.NoMemory (inr o) = inr (weaker o.0, o.1)

  runs_further : (left left' held held' : Option (List ℕ)) (old new : S) (end : Ending R) → RunsLines E answers refuses may_end refuses_end left left' held held' old new end
      → RunsLines F answers refuses may_end refuses_end left left' held held' old new end
  runs_further left left' held held' old new end run = record {
    read = run.read;
    text = run.text;
    taken = run.taken;
    written = run.written;
    too_much = run.too_much;
    outcome = outcome_further old run.read run.text new end run.outcome;
  }

pub begins_further : (ends middle ends' : ℕ) (mode : Option Mode) (left : Option (List ℕ)) (access : Option Listing) → middle ≤ ends' → BeginsWith ends middle mode left access → BeginsWith ends ends' mode left access
begins_further ends middle ends' None left access more begins = begins
begins_further ends middle ends' (Some mode) left access more begins =
    let left' = begins.2 in
    let reads = begins.3 in (
      begins.0,
      begins.1,
      left',
      (
        reads.0,
        reads.1,
        runs_further (Rose ends middle × IsAtEnd left') (Rose ends ends' × IsAtEnd left') (λ was. (rose_further ends middle ends' was.0 more, was.1)) ListsLine RefusesListLine MayListEnd RefusesEnd left left' None None (empty_list mode) reads.0 reads.1 reads.2,
        reads.3,
      ),
    )

-- ---- a run that ended before it served

module _ (settings : ServeSettings) (ends ends' : ℕ) (left : Option (List ℕ)) (a a' : Option (Lent WireTale)) (b b' : Option (Lent ListenerTale)) (written written' : Option (List ℕ)) where
  pub ends_in_list : (reads reads' : ℕ) (status : Status) → IsListCaused reads reads' status → Appends written written' [] → RunsServer settings ends ends' left a a' b b' written written' status
  ends_in_list reads reads' ReadFault by none = inr none
  ends_in_list reads reads' NoMemory by none = none
  ends_in_list reads reads' (TooLong line) by none = none
  ends_in_list reads reads' TooMuch by none = none
  ends_in_list reads reads' (status.List line why) by none = none
  ends_in_list reads reads' Done by none = absurd by
  ends_in_list reads reads' WriteFault by none = absurd by
  ends_in_list reads reads' (Words at) by none = absurd by
  ends_in_list reads reads' (Line line why) by none = absurd by
  ends_in_list reads reads' Device by none = absurd by

  pub ends_at_devices : (makes makes' : ℕ) (status : Status) → IsDeviceCaused makes makes' status → Appends written written' [] → RunsServer settings ends ends' left a a' b b' written written' status
  ends_at_devices makes makes' status by none =
      ⊎_elim
      (λ (want : status ≡ NoMemory). subst (λ s. RunsServer settings ends ends' left a a' b b' written written' s) (sym want) none)
      (λ (failed : (status ≡ Device) × Rose makes makes'). subst (λ s. RunsServer settings ends ends' left a a' b b' written written' s) (sym failed.0) none)
      by

  -- ---- a run that served

  abbrev wires_made : ℕ
  wires_made = device_count settings.workers settings.udp + sync_count settings.sync

  abbrev listeners_made : ℕ
  listeners_made = device_count settings.workers settings.http

  -- what was made before is counted, too
  module _ (access : Option Listing) (a1 : Option (Lent WireTale)) (b1 : Option (Lent ListenerTale)) (made : Lends a a1 wires_made []) (made' : Lends b b1 listeners_made []) where
    counted : (HasWritten : List (List Entry) → Type 0) → HasServed settings access 0 0 a1 a' b1 b' HasWritten → HasServed settings access wires_made listeners_made a a' b b' HasWritten
    counted HasWritten has = record {
      histories = has.histories;
      wires = has.wires;
      listeners = has.listeners;
      sync_wires = has.sync_wires;
      wire_count = has.wire_count;
      listener_count = has.listener_count;
      sync_wire_count = has.sync_wire_count;
      served = has.served;
      wires_back = subst (λ n. Lends a a' n (has.wires ++ has.sync_wires)) (omega arith) (Lends-trans a a1 a' wires_made 0 [] (has.wires ++ has.sync_wires) made has.wires_back);
      listeners_back = subst (λ n. Lends b b' n has.listeners) (omega arith) (Lends-trans b b1 b' listeners_made 0 [] has.listeners made' has.listeners_back);
      has_written = has.has_written;
    }

    pub ends_served : (status : Status) → BeginsWith ends ends' settings.replay.access left access → ServesTo settings access 0 0 a1 a' b1 b' written written' status
        → RunsServer settings ends ends' left a a' b b' written written' status
    ends_served Done begins serves = (access, begins, counted (λ h. Appends written written' (summary_of h)) serves)
    ends_served WriteFault begins serves = (access, begins, counted (λ h. WritesFront written written' (summary_of h)) serves)
    ends_served ReadFault begins serves = inl (access, begins, counted (λ h. WritesFront written written' (summary_of h)) serves)
    ends_served NoMemory begins serves = serves
    ends_served (Words at) begins serves = absurd serves
    ends_served (Line line why) begins serves = absurd serves
    ends_served (TooLong line) begins serves = absurd serves
    ends_served TooMuch begins serves = absurd serves
    ends_served (status.List line why) begins serves = absurd serves
    ends_served Device begins serves = absurd serves

-- ---- causes

-- a status of the list's reading has its cause
pub list_caused : (ends ends' reads reads' writes writes' makes makes' : ℕ) (status : Status) → IsListCaused reads reads' status → IsServeCaused ends ends' reads reads' writes writes' makes makes' status
list_caused ends ends' reads reads' writes writes' makes makes' ReadFault by = by
list_caused ends ends' reads reads' writes writes' makes makes' NoMemory by = tt
list_caused ends ends' reads reads' writes writes' makes makes' (TooLong line) by = tt
list_caused ends ends' reads reads' writes writes' makes makes' TooMuch by = tt
list_caused ends ends' reads reads' writes writes' makes makes' (status.List line why) by = tt
list_caused ends ends' reads reads' writes writes' makes makes' Done by = absurd by
list_caused ends ends' reads reads' writes writes' makes makes' WriteFault by = absurd by
list_caused ends ends' reads reads' writes writes' makes makes' (Words at) by = absurd by
list_caused ends ends' reads reads' writes writes' makes makes' (Line line why) by = absurd by
list_caused ends ends' reads reads' writes writes' makes makes' Device by = absurd by

-- a status of the makers has its cause, and tells nothing of the list
pub device_caused : (ends ends' reads reads' writes writes' makes makes' : ℕ) (status : Status) → IsDeviceCaused makes makes' status → IsServeCaused ends ends' reads reads' writes writes' makes makes' status
device_caused ends ends' reads reads' writes writes' makes makes' status by =
    ⊎_elim
    (λ (want : status ≡ NoMemory). subst (λ s. IsServeCaused ends ends' reads reads' writes writes' makes makes' s) (sym want) tt)
    (λ (failed : (status ≡ Device) × Rose makes makes'). subst (λ s. IsServeCaused ends ends' reads reads' writes writes' makes makes' s) (sym failed.0) failed.1)
    by

pub device_tells_no_list : (E : Type 0) (mode : Option Mode) (left left' : Option (List ℕ)) (makes makes' : ℕ) (status : Status) → IsDeviceCaused makes makes' status → TellsList E mode left left' status
device_tells_no_list E mode left left' makes makes' status by =
    ⊎_elim
    (λ (want : status ≡ NoMemory). subst (TellsList E mode left left') (sym want) tt)
    (λ (failed : (status ≡ Device) × Rose makes makes'). subst (TellsList E mode left left') (sym failed.0) tt)
    by

-- a count that rose since later rose since before
rose_before : (old middle new : ℕ) → old ≤ middle → Rose middle new → Rose old new
rose_before old middle new less rose = omega arith

pub caused_before : (ends ends1 ends' reads reads1 reads' writes writes' makes makes1 makes' : ℕ) (status : Status) → ends ≤ ends1 → reads ≤ reads1 → makes ≤ makes1
    → IsServeCaused ends1 ends' reads1 reads' writes writes' makes1 makes' status → IsServeCaused ends ends' reads reads' writes writes' makes makes' status
caused_before ends ends1 ends' reads reads1 reads' writes writes' makes makes1 makes' Done e r m by = rose_before ends ends1 ends' e by
caused_before ends ends1 ends' reads reads1 reads' writes writes' makes makes1 makes' WriteFault e r m by = by
caused_before ends ends1 ends' reads reads1 reads' writes writes' makes makes1 makes' ReadFault e r m by = rose_before reads reads1 reads' r by
caused_before ends ends1 ends' reads reads1 reads' writes writes' makes makes1 makes' NoMemory e r m by = tt
caused_before ends ends1 ends' reads reads1 reads' writes writes' makes makes1 makes' (Words at) e r m by = by
caused_before ends ends1 ends' reads reads1 reads' writes writes' makes makes1 makes' (Line line why) e r m by = by
caused_before ends ends1 ends' reads reads1 reads' writes writes' makes makes1 makes' (TooLong line) e r m by = tt
caused_before ends ends1 ends' reads reads1 reads' writes writes' makes makes1 makes' TooMuch e r m by = tt
caused_before ends ends1 ends' reads reads1 reads' writes writes' makes makes1 makes' (status.List line why) e r m by = tt
caused_before ends ends1 ends' reads reads1 reads' writes writes' makes makes1 makes' Device e r m by = rose_before makes makes1 makes' m by

-- who has served tells nothing of the list
pub served_tells_no_list : (E : Type 0) (mode : Option Mode) (left left' : Option (List ℕ)) (settings : ServeSettings) (access : Option Listing) (m n : ℕ) (a a' : Option (Lent WireTale)) (b b' : Option (Lent ListenerTale))
    (written written' : Option (List ℕ)) (status : Status) → ServesTo settings access m n a a' b b' written written' status → TellsList E mode left left' status
served_tells_no_list E mode left left' settings access m n a a' b b' written written' Done serves = tt
served_tells_no_list E mode left left' settings access m n a a' b b' written written' WriteFault serves = tt
served_tells_no_list E mode left left' settings access m n a a' b b' written written' ReadFault serves = tt
served_tells_no_list E mode left left' settings access m n a a' b b' written written' NoMemory serves = tt
served_tells_no_list E mode left left' settings access m n a a' b b' written written' (Words at) serves = absurd serves
served_tells_no_list E mode left left' settings access m n a a' b b' written written' (Line line why) serves = absurd serves
served_tells_no_list E mode left left' settings access m n a a' b b' written written' (TooLong line) serves = absurd serves
served_tells_no_list E mode left left' settings access m n a a' b b' written written' TooMuch serves = absurd serves
served_tells_no_list E mode left left' settings access m n a a' b b' written written' (status.List line why) serves = absurd serves
served_tells_no_list E mode left left' settings access m n a a' b b' written written' Device serves = absurd serves

-- ---- devices

pub untouched : {T : Type 0} (a : Option (Lent T)) → IsShut a a
untouched a = record { back = []; lends = Lends-refl a }

pub few_devices : (workers : ℕ) (at : Option Endpoint) → workers ≤ 64 → device_count workers at ≤ 64
few_devices workers None few = omega arith
few_devices workers (Some at) few = few

pub none_or_two : (sync : Option SyncSettings) (count : ℕ) → count ≡ sync_count sync → (count ≡ 0) ⊎ (count ≡ 2)
none_or_two None count is = inl is
none_or_two (Some sync) count is = inr is

pub few_jobs : (workers : ℕ) (udp http : Option Endpoint) (sync : Option SyncSettings) → workers ≤ 64 → job_count (device_count workers udp) (device_count workers http) (sync_count sync) ≤ 1022
few_jobs workers udp http None few = let a = few_devices workers udp few in let b = few_devices workers http few in omega arith
few_jobs workers udp http (Some sync) few = let a = few_devices workers udp few in let b = few_devices workers http few in omega arith
