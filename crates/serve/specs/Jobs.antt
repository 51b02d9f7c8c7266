-- The jobs of a server.
use Rattle.std.specs.Prelude.{◌≡◌, ℕ, Option, Some, None, IsSome}
use Rattle.access_list.specs.Access.{Listing}
use Rattle.ot_io.specs.Tales.{Links}
use Rattle.ot_io.specs.Traffic.{Traffic}
use Rattle.ot_io.specs.declared.settings.ServeSettings.{ServeSettings}
use Rattle.ot_io.specs.declared.settings.SyncSettings.{SyncSettings}
use Rattle.shards.specs.Shape.{PassShape, ShardsShape}
use Rattle.tracker_model.specs.declared.call.Call.TheVariants.{Clean, Drain}
use Rattle.upkeep.specs.Heard.{Heard}
use Rattle.upkeep.specs.Nodes.{nodes_of}
use Rattle.upkeep.specs.Sweeps.{Sweeps}
use Rattle.serve.specs.ServedLinks.{RestsAt, WorkedLinks}
use Rattle.serve.specs.Worked.{Rests, Worked}
use Rattle.serve.specs.declared.job.Job.{Job}
use Rattle.serve.specs.declared.job.Job.TheVariants.{Udp, Http, Cleaner, Sender, Receiver}

-- a job may run on these shards: it has a pass of them; and one that tells other nodes or hears
-- them needs to know them
unfoldable pub IsReady : {W L C : Type 0} → ShardsShape → Option SyncSettings → Job W L C → Type 0
IsReady shards sync (Udp pass wire clock scratch) = pass.shards ≡ shards
IsReady shards sync (Http pass listener clock scratch) = pass.shards ≡ shards
IsReady shards sync (Cleaner pass clock) = pass.shards ≡ shards
IsReady shards sync (Sender pass wire clock) = (pass.shards ≡ shards) × IsSome sync
IsReady shards sync (Receiver pass wire clock) = (pass.shards ≡ shards) × IsSome sync

-- what was heard of the nodes of these settings
abbrev pub HeardOf : Option SyncSettings → (old new : PassShape) → (wire wire' : Option Traffic)
    → (faults faults' : ℕ) → Type 0
HeardOf None old new wire wire' faults faults' = ⊥
HeardOf (Some sync) old new wire wire' faults faults' =
    Heard sync.own (nodes_of sync.nodes) old new wire wire' faults faults'

module _ {W L C : Type 0} (traffic : W → Option Traffic) (wire_faults : W → ℕ)
    (links : L → Option Links) (listener_faults : L → ℕ) where
  -- What a job did from its start to its end, by what is told of wires and of listeners. A worker
  -- served all that it received or accepted, and at its end it might rest; the receiver applied
  -- what it heard, likewise. The cleaner and the sender went over all buckets.
  unfoldable pub Ran : ServeSettings → (access : Option Listing) → (old new : Job W L C) → Type 0
  Ran settings access (Udp pass wire clock scratch) (Udp pass' wire' clock' scratch') =
      Worked settings.replay.secret access pass pass' (traffic wire) (traffic wire')
      (wire_faults wire) (wire_faults wire')
      × Rests (traffic wire') (wire_faults wire) (wire_faults wire')
  Ran settings access (Http pass listener clock scratch) (Http pass' listener' clock' scratch') =
      WorkedLinks access settings.replay.full pass pass' (links listener) (links listener')
      (listener_faults listener) (listener_faults listener')
      × RestsAt (links listener') (listener_faults listener) (listener_faults listener')
  Ran settings access (Cleaner pass clock) (Cleaner pass' clock') = Sweeps Clean pass pass'
  Ran settings access (Sender pass wire clock) (Sender pass' wire' clock') =
      Sweeps Drain pass pass'
  Ran settings access (Receiver pass wire clock) (Receiver pass' wire' clock') =
      HeardOf settings.sync pass pass' (traffic wire) (traffic wire')
      (wire_faults wire) (wire_faults wire')
      × Rests (traffic wire') (wire_faults wire) (wire_faults wire')
  Ran settings access old new = ⊥
