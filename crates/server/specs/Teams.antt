-- The jobs of a server, all together.
use Rattle.std.specs.Prelude.{◌≡◌, ◌≢◌, ℕ, ◌<◌, List, [], ◌∷◌, length, map, reverse, Option}
use Rattle.std.specs.Prelude.{slice_index_or}
use Rattle.ot_io.specs.Lending.{Lends, Lent}
use Rattle.ot_io.specs.Tales.{ListenerTale}
use Rattle.ot_io.specs.Traffic.{WireTale}
use Rattle.shards.specs.Joining.{AreJoined}
use Rattle.shards.specs.Shape.{PassShape, ShardsShape}
use Rattle.serve.specs.declared.job.Job.{Job}
use Rattle.serve.specs.declared.job.Job.TheVariants.{Udp, Http, Cleaner, Sender, Receiver}

-- each task has run, and nothing else became of it
pub record AllRan {J : Type 0} (ran : J → J → Type 0) (old new : List J) : Type 0 where
  pub count : length new ≡ length old
  pub each : (i : ℕ) (d : J) → i < length old →
      ran (slice_index_or old i d) (slice_index_or new i d)

abbrev pub pass_of : {W L C : Type 0} → Job W L C → PassShape
pass_of (Udp pass wire clock scratch) = pass
pass_of (Http pass listener clock scratch) = pass
pass_of (Cleaner pass clock) = pass
pass_of (Sender pass wire clock) = pass
pass_of (Receiver pass wire clock) = pass

-- a job has a pass of these shards, that isn't the first
unfoldable pub IsWorker : {W L C : Type 0} → ShardsShape → Job W L C → Type 0
IsWorker shards (Udp pass wire clock scratch) = (pass.shards ≡ shards) × (pass.caller ≢ 0)
IsWorker shards (Http pass listener clock scratch) = (pass.shards ≡ shards) × (pass.caller ≢ 0)
IsWorker shards (Cleaner pass clock) = (pass.shards ≡ shards) × (pass.caller ≢ 0)
IsWorker shards (Sender pass wire clock) = (pass.shards ≡ shards) × (pass.caller ≢ 0)
IsWorker shards (Receiver pass wire clock) = (pass.shards ≡ shards) × (pass.caller ≢ 0)

-- the wires and the listeners of jobs, in their order
abbrev pub wires_of : {W L C : Type 0} → List (Job W L C) → List W
wires_of [] = []
wires_of (Udp pass wire clock scratch ∷ jobs) = wire ∷ wires_of jobs
wires_of (Http pass listener clock scratch ∷ jobs) = wires_of jobs
wires_of (Cleaner pass clock ∷ jobs) = wires_of jobs
wires_of (Sender pass wire clock ∷ jobs) = wire ∷ wires_of jobs
wires_of (Receiver pass wire clock ∷ jobs) = wire ∷ wires_of jobs

abbrev pub listeners_of : {W L C : Type 0} → List (Job W L C) → List L
listeners_of [] = []
listeners_of (Udp pass wire clock scratch ∷ jobs) = listeners_of jobs
listeners_of (Http pass listener clock scratch ∷ jobs) = listener ∷ listeners_of jobs
listeners_of (Cleaner pass clock ∷ jobs) = listeners_of jobs
listeners_of (Sender pass wire clock ∷ jobs) = listeners_of jobs
listeners_of (Receiver pass wire clock ∷ jobs) = listeners_of jobs

-- Jobs ran to their end, all at once. To caller 0's pass some were joined that made no call, and
-- then those of the jobs, in their order, in which their wires and listeners came back, too.
pub record HaveRun {W L C : Type 0} (ran : Job W L C → Job W L C → Type 0)
    (wire_told : W → WireTale) (listener_told : L → ListenerTale)
    (idle : List PassShape) (jobs : List (Job W L C)) (first last : PassShape)
    (wires_lent wires_lent' : Option (Lent WireTale))
    (listeners_lent listeners_lent' : Option (Lent ListenerTale)) : Type 0 where
  pub ended : List (Job W L C)
  pub each : AllRan ran jobs ended
  pub middle : PassShape
  pub idle_joined : AreJoined idle first middle
  pub jobs_joined : AreJoined (reverse (map pass_of ended)) middle last
  pub wires_back : Lends wires_lent wires_lent' 0 (map wire_told (wires_of ended))
  pub listeners_back :
      Lends listeners_lent listeners_lent' 0 (map listener_told (listeners_of ended))
