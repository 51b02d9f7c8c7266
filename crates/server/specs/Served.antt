-- What the jobs of a server did, by the histories that it ended with.
use Rattle.std.specs.Prelude.{◌≡◌, ℕ, ◌+◌, ◌^◌, List, [], ◌∷◌, All, length}
use Rattle.std.specs.Prelude.{Option, None, Some, is_some}
use Rattle.access_list.specs.Access.{Listing}
use Rattle.ot_io.specs.Tales.{IsUnopened, Links, ListenerTale}
use Rattle.ot_io.specs.Traffic.{IsUnused, Traffic, WireTale}
use Rattle.ot_io.specs.declared.settings.ServeSettings.{ServeSettings}
use Rattle.ot_io.specs.declared.settings.SyncSettings.{SyncSettings}
use Rattle.shards.specs.Joining.{HoldAllOf}
use Rattle.shards.specs.Shape.{PassShape, ShardsShape, first_pass, new_pass}
use Rattle.tracker_model.specs.Grows.{history_at}
use Rattle.tracker_model.specs.Legal.{IsLegalHistory}
use Rattle.tracker_model.specs.Settings.{Settings}
use Rattle.tracker_model.specs.declared.call.Call.{Call}
use Rattle.tracker_model.specs.declared.call.Call.TheVariants.{Clean, Drain}
use Rattle.tracker_model.specs.declared.entry.Entry.{Entry}
use Rattle.turn_lock.specs.Histories.{AllBelow, NoneBy}
use Rattle.upkeep.specs.Heard.{Heard}
use Rattle.upkeep.specs.Nodes.{nodes_of}
use Rattle.upkeep.specs.Sweeps.{Sweeps}
use Rattle.serve.specs.ServedLinks.{RestsAt, WorkedLinks}
use Rattle.serve.specs.Worked.{Rests, Worked}
use Rattle.server.specs.Devices.{job_count}

-- the settings of each bucket of a server, which keeps notes exactly where there are other nodes
abbrev pub bucket_settings : ServeSettings → Settings
bucket_settings settings =
    record { limits = settings.replay.limits; sync = is_some settings.sync }

-- a pass of this number that has seen no entry of any bucket
abbrev pub unused_pass : ShardsShape → (caller : ℕ) → PassShape
unused_pass shards caller = new_pass shards caller (first_pass shards).seen

module _ (settings : ServeSettings) (access : Option Listing) (shards : ShardsShape)
    (histories : List (List Entry)) where
  -- The worker of this number served at a wire, of which this is told as it came back. From a new
  -- wire and an unused pass on it served what it received, and the histories hold of its number the
  -- entries that its pass has seen, and no others.
  pub record ServesWire (caller : ℕ) (wire : WireTale) : Type 0 where
    pub first : Option Traffic
    pub last : PassShape
    pub unused : IsUnused first
    pub worked : Worked settings.replay.secret access (unused_pass shards caller) last
        first wire.traffic 0 wire.faults
    pub rests : Rests wire.traffic 0 wire.faults
    pub held : HoldAllOf histories last

  -- the same of a worker at a listener
  pub record ServesListener (caller : ℕ) (listener : ListenerTale) : Type 0 where
    pub first : Option Links
    pub last : PassShape
    pub unopened : IsUnopened first
    pub worked : WorkedLinks access settings.replay.full (unused_pass shards caller) last
        first listener.links 0 listener.faults
    pub rests : RestsAt listener.links 0 listener.faults
    pub held : HoldAllOf histories last

  -- workers of the numbers from this one on, in order
  abbrev pub ServeWires : (caller : ℕ) → List WireTale → Type 0
  ServeWires caller [] = Unit
  ServeWires caller (wire ∷ wires) = ServesWire caller wire × ServeWires (caller + 1) wires

  abbrev pub ServeListeners : (caller : ℕ) → List ListenerTale → Type 0
  ServeListeners caller [] = Unit
  ServeListeners caller (listener ∷ listeners) =
      ServesListener caller listener × ServeListeners (caller + 1) listeners

module _ (shards : ShardsShape) (histories : List (List Entry)) where
  -- The job of this number made this call on every bucket, on each at least once: from an unused
  -- pass on. The histories hold of its number the entries that its pass has seen, and no others.
  pub record SweptBy (call : Call) (caller : ℕ) : Type 0 where
    pub last : PassShape
    pub swept : Sweeps call (unused_pass shards caller) last
    pub held : HoldAllOf histories last

  -- The job of this number heard other nodes over a wire, of which this is told as it came back.
  -- From a new wire and an unused pass on it applied what it received, and likewise.
  pub record HeardBy (sync : SyncSettings) (caller : ℕ) (wire : WireTale) : Type 0 where
    pub first : Option Traffic
    pub last : PassShape
    pub unused : IsUnused first
    pub heard : Heard sync.own (nodes_of sync.nodes) (unused_pass shards caller) last
        first wire.traffic 0 wire.faults
    pub rests : Rests wire.traffic 0 wire.faults
    pub held : HoldAllOf histories last

  -- where there are other nodes, the job of this number told them over the first of two wires what
  -- the buckets learnt, and the job of the next number heard them over the second one
  abbrev pub SharedBy : Option SyncSettings → (caller : ℕ) → List WireTale → Type 0
  SharedBy None caller [] = Unit
  SharedBy (Some sync) caller (sent ∷ heard ∷ []) =
      SweptBy Drain caller × HeardBy sync (caller + 1) heard
  SharedBy sync caller wires = ⊥

-- Workers served at these wires and listeners, and there were these wires to other nodes; of all of
-- them this is told as they came back. There is one legal history for each bucket, which holds what
-- the jobs did and nothing else. Caller 0 is the server's own, and caller 1 the job that waits for
-- the input's end.
pub record AreServed (settings : ServeSettings) (access : Option Listing) (wires : List WireTale)
    (listeners : List ListenerTale) (sync_wires : List WireTale) (histories : List (List Entry))
    : Type 0 where
  pub shards : ShardsShape
  pub bits : shards.bits ≡ settings.replay.bits
  pub settings_are : shards.settings ≡ bucket_settings settings
  pub buckets : length histories ≡ 2 ^ settings.replay.bits
  pub legal : All (IsLegalHistory (bucket_settings settings)) histories
  pub callers : All (AllBelow
      (2 + job_count (length wires) (length listeners) (length sync_wires))) histories
  pub no_others : (bucket : ℕ) → NoneBy (0 ∷ 1 ∷ []) (history_at histories bucket)
  pub at_wires : ServeWires settings access shards histories 2 wires
  pub at_listeners : ServeListeners settings access shards histories (2 + length wires) listeners
  pub cleaned : SweptBy shards histories Clean (2 + length wires + length listeners)
  pub shared : SharedBy shards histories settings.sync
      (3 + length wires + length listeners) sync_wires
