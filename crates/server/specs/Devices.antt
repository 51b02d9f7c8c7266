-- What a server makes of its outside.
use Rattle.std.specs.Prelude.{◌≡◌, ℕ, ◌+◌, ◌⊎◌, List, [], length, All, Option, Some, None}
use Rattle.std.specs.Prelude.{Result, Ok, Err, vec_len}
use Rattle.ot_base.specs.declared.address.Endpoint.{Endpoint}
use Rattle.ot_io.specs.Counts.{Rose}
use Rattle.ot_io.specs.Lending.{Lends, Lent}
use Rattle.ot_io.specs.declared.outside.Made.{Made}
use Rattle.ot_io.specs.declared.outside.Made.TheVariants.{Got, Failed, NoMemory}
use Rattle.ot_io.specs.declared.settings.ServeSettings.{ServeSettings}
use Rattle.ot_io.specs.declared.settings.SyncSettings.{SyncSettings}
use Rattle.ot_io.specs.declared.status.Status.{Status}
use Rattle.ot_io.specs.declared.status.Status.TheVariants as status
use Rattle.server.specs.declared.devices.Devices.{Devices}

-- how many wires or listeners workers have: one for each worker, where there is an address
abbrev pub device_count : (workers : ℕ) → Option Endpoint → ℕ
device_count workers None = 0
device_count workers (Some at) = workers

-- how many wires there are to other nodes: one to tell them and one to hear them
abbrev pub sync_count : Option SyncSettings → ℕ
sync_count None = 0
sync_count (Some sync) = 2

-- how many jobs there are: one for each wire and each listener, and one that cleans
abbrev pub job_count : (wires listeners sync_wires : ℕ) → ℕ
job_count wires listeners sync_wires = wires + listeners + 1 + sync_wires

-- all that the settings ask for: new wires and listeners, and a clock for each job
pub record AreDevices {W L C : Type 0} (IsNewW : W → Type 0) (IsNewL : L → Type 0)
    (settings : ServeSettings) (devices : Devices W L C) : Type 0 where
  pub wire_count : vec_len devices.wires ≡ device_count settings.workers settings.udp
  pub listener_count : vec_len devices.listeners ≡ device_count settings.workers settings.http
  pub sync_wire_count : vec_len devices.sync_wires ≡ sync_count settings.sync
  pub clock_count : vec_len devices.clocks ≡
      job_count (vec_len devices.wires) (vec_len devices.listeners) (vec_len devices.sync_wires)
  pub new_wires : All IsNewW devices.wires.items
  pub new_listeners : All IsNewL devices.listeners.items
  pub new_sync_wires : All IsNewW devices.sync_wires.items

-- so many objects were made, all new, and none of their kind came back meanwhile
pub record OpensNew {X T : Type 0} (IsNew : X → Type 0) (count : ℕ) (lent lent' : Option (Lent T))
    (made : List X) : Type 0 where
  pub many : length made ≡ count
  pub each : All IsNew made
  pub lends : Lends lent lent' count []

-- so many objects of a kind came back
pub record TakesBack {T : Type 0} (count : ℕ) (lent lent' : Option (Lent T)) : Type 0 where
  pub back : List T
  pub many : length back ≡ count
  pub lends : Lends lent lent' 0 back

-- as many objects of a kind came back as were made
pub record IsShut {T : Type 0} (lent lent' : Option (Lent T)) : Type 0 where
  pub back : List T
  pub lends : Lends lent lent' (length back) back

-- a status that ends a server whose devices can't be made: the outside failed, and its count rose;
-- or there was no memory
abbrev pub IsDeviceCaused : (faults faults' : ℕ) → Status → Type 0
IsDeviceCaused faults faults' why =
    (why ≡ status.NoMemory) ⊎ ((why ≡ status.Device) × Rose faults faults')

-- what a maker gave, or the status that it ends a server with
abbrev pub IsMade : {T : Type 0} → Made T → Result T Status → Type 0
IsMade (Got all) (Ok made) = made ≡ all
IsMade (Got all) (Err why) = ⊥
IsMade Failed (Ok made) = ⊥
IsMade Failed (Err why) = why ≡ status.Device
IsMade NoMemory (Ok made) = ⊥
IsMade NoMemory (Err why) = why ≡ status.NoMemory
