-- How the jobs of a server begin.
use Rattle.std.specs.Prelude.{◌≡◌, ℕ, ◌+◌, ◌≤◌, List, [], ◌∷◌, ◌++◌, length, vec_capacity}
use Rattle.ot_io.specs.declared.settings.ServeSettings.{ServeSettings}
use Rattle.shards.specs.Shape.{KnowsNumbers, PassShape, ShardsShape, first_pass, new_passes}
use Rattle.serve.specs.declared.job.Job.{Job}
use Rattle.serve.specs.declared.job.Job.TheVariants.{Udp, Http, Cleaner, Sender, Receiver}
use Rattle.server.specs.Served.{bucket_settings}
use Rattle.server.specs.declared.opening.Opened.{Opened}

-- new passes of so many numbers from one on, which have seen no entry
abbrev pub passes_from : ShardsShape → (first count : ℕ) → List PassShape
passes_from shards first count = new_passes (record (first_pass shards) { free = first }) count

-- Empty buckets by the settings, and a pass for each job: caller 0's, that of the job which waits
-- for the input's end, and those of the other jobs.
pub record IsOpened {W L C : Type 0} (settings : ServeSettings) (jobs : ℕ)
    (opened : Opened W L C) : Type 0 where
  pub settings_are : opened.shards.settings ≡ bucket_settings settings
  pub bits : opened.shards.bits ≡ settings.replay.bits
  pub pass : opened.pass ≡ record (first_pass opened.shards) { free = 2 + jobs; out = 1 + jobs }
  pub known : KnowsNumbers opened.pass
  pub idle : opened.idle.items ≡ passes_from opened.shards 1 1
  pub passes : opened.passes.items ≡ passes_from opened.shards 2 jobs
  pub empty : opened.room.items ≡ []
  pub room : jobs ≤ vec_capacity opened.room

-- Jobs were put behind those in a room, with the first of the passes and of the clocks that were
-- left.
pub record AddsJobs {W L C : Type 0} (AreAdded : List PassShape → List (Job W L C) → Type 0)
    (room room' : List (Job W L C)) (passes passes' : List PassShape) (clocks clocks' : List C)
    : Type 0 where
  pub jobs : List (Job W L C)
  pub taken : List PassShape
  pub added : AreAdded taken jobs
  pub room_is : room' ≡ room ++ jobs
  pub passes_are : passes ≡ taken ++ passes'
  pub clocks_gone : length clocks ≡ length jobs + length clocks'

-- a job for each of these wires, with these passes, in order
abbrev pub AreWireJobs : {W L C : Type 0} → List W → List PassShape → List (Job W L C) → Type 0
AreWireJobs [] [] [] = Unit {0}
AreWireJobs (wire ∷ wires) (pass ∷ passes) (Udp pass' wire' clock scratch ∷ jobs) =
    (wire' ≡ wire) × (pass' ≡ pass) × AreWireJobs wires passes jobs
AreWireJobs wires passes jobs = ⊥

-- the same of listeners
abbrev pub AreLinkJobs : {W L C : Type 0} → List L → List PassShape → List (Job W L C) → Type 0
AreLinkJobs [] [] [] = Unit {0}
AreLinkJobs (listener ∷ listeners) (pass ∷ passes) (Http pass' listener' clock scratch ∷ jobs) =
    (listener' ≡ listener) × (pass' ≡ pass) × AreLinkJobs listeners passes jobs
AreLinkJobs listeners passes jobs = ⊥

-- the one job that cleans, with the one pass
pub record IsCleanerJob {W L C : Type 0} (passes : List PassShape) (jobs : List (Job W L C))
    : Type 0 where
  pub pass : PassShape
  pub clock : C
  pub passes_are : passes ≡ pass ∷ []
  pub jobs_are : jobs ≡ Cleaner pass clock ∷ []

-- the job that tells other nodes over the first wire, and the one that hears them over the second
pub record AreSharers {W L C : Type 0} (first second : W) (passes : List PassShape)
    (jobs : List (Job W L C)) : Type 0 where
  pub pass : PassShape
  pub clock : C
  pub next : PassShape
  pub next_clock : C
  pub passes_are : passes ≡ pass ∷ next ∷ []
  pub jobs_are : jobs ≡ Sender pass first clock ∷ Receiver next second next_clock ∷ []

-- the jobs that share with other nodes, where there are two wires for them
abbrev pub AreSyncJobs : {W L C : Type 0} → List W → List PassShape → List (Job W L C) → Type 0
AreSyncJobs [] passes jobs = (passes ≡ []) × (jobs ≡ [])
AreSyncJobs (first ∷ second ∷ []) passes jobs = AreSharers first second passes jobs
AreSyncJobs wires passes jobs = ⊥

-- the jobs of a server, with the first of these passes: those of workers at wires and at listeners,
-- the one that cleans, and those that share with other nodes
pub record AreJobs {W L C : Type 0} (wires : List W) (listeners : List L) (sync_wires : List W)
    (passes : List PassShape) (jobs : List (Job W L C)) : Type 0 where
  pub at_wires : List (Job W L C)
  pub at_listeners : List (Job W L C)
  pub cleaners : List (Job W L C)
  pub sharers : List (Job W L C)
  pub jobs_are : jobs ≡ at_wires ++ (at_listeners ++ (cleaners ++ sharers))
  pub wire_passes : List PassShape
  pub listener_passes : List PassShape
  pub cleaner_passes : List PassShape
  pub sharer_passes : List PassShape
  pub left : List PassShape
  pub passes_are : passes ≡
      wire_passes ++ (listener_passes ++ (cleaner_passes ++ (sharer_passes ++ left)))
  pub wire_jobs : AreWireJobs wires wire_passes at_wires
  pub listener_jobs : AreLinkJobs listeners listener_passes at_listeners
  pub cleaner_job : IsCleanerJob cleaner_passes cleaners
  pub sync_jobs : AreSyncJobs sync_wires sharer_passes sharers
