-- What goes over a wire.
use Rattle.std.specs.Prelude.{◌≡◌, ℕ, ◌≤◌, List, [], ◌∷◌, ◌++◌, length, take, min, Option, None, Some}
use Rattle.ot_base.specs.declared.address.Endpoint.{Endpoint}
use Rattle.ot_io.specs.Counts.{Rose}
use Rattle.ot_io.specs.declared.wire.Recv.{Recv}
use Rattle.ot_io.specs.declared.wire.Recv.TheVariants.{Got, Idle, Failed}
use Rattle.ot_io.specs.declared.wire.Sent.{Sent}
use Rattle.ot_io.specs.declared.wire.Sent.TheVariants.{Done}
use Rattle.ot_io.specs.declared.wire.Sent.TheVariants as sent

-- some bytes, and who sent them or is sent them
pub record Datagram : Type 0 where
  pub peer : Endpoint
  pub bytes : List ℕ

abbrev pub datagram : Endpoint → List ℕ → Datagram
datagram peer bytes = record { peer = peer; bytes = bytes }

-- what waits at a wire, and all that it has received and sent, in order
pub record Traffic : Type 0 where
  pub waiting : List Datagram
  pub received : List Datagram
  pub sent : List Datagram

-- A wire received the datagrams `ins`, which waited first, and sent the datagrams `outs`. What
-- isn't told stays untold.
abbrev pub Moves : Option Traffic → Option Traffic → List Datagram → List Datagram → Type 0
Moves None None ins outs = Unit
Moves None (Some new) ins outs = ⊥
Moves (Some old) None ins outs = ⊥
Moves (Some old) (Some new) ins outs =
    (old.waiting ≡ ins ++ new.waiting)
    × (new.received ≡ old.received ++ ins)
    × (new.sent ≡ old.sent ++ outs)

-- no datagram waits, where it is told
abbrev pub NoneWaits : Option Traffic → Type 0
NoneWaits None = Unit
NoneWaits (Some traffic) = traffic.waiting ≡ []

-- nothing was received or sent, where it is told
abbrev pub IsUnused : Option Traffic → Type 0
IsUnused None = Unit
IsUnused (Some traffic) = (traffic.received ≡ []) × (traffic.sent ≡ [])

-- a wire that a maker gives: nothing went over it, and nothing is counted
abbrev pub IsNewWire : Option Traffic → ℕ → ℕ → Type 0
IsNewWire traffic faults idles = IsUnused traffic × (faults ≡ 0) × (idles ≡ 0)

-- A datagram was received, of any length, and at most the first 2,048 of its bytes stand at the
-- front of the buffer; or none waits; or the outside failed.
abbrev pub Receives : Option Traffic → Option Traffic → Recv → List ℕ → Type 0
Receives old new (Got len from) buf =
    (bytes : List ℕ)
    × Moves old new (datagram from bytes ∷ []) []
    × (take len buf ≡ take 2048 bytes)
    × (len ≡ min (length bytes) 2048)
Receives old new Idle buf = Moves old new [] [] × NoneWaits new
Receives old new Failed buf = Moves old new [] []

-- the count of times that none waited doesn't fall, and such a time raises it
abbrev pub IdlesOnlyCounted : ℕ → ℕ → Recv → Type 0
IdlesOnlyCounted old new (Got len from) = old ≤ new
IdlesOnlyCounted old new Idle = (old ≤ new) × Rose old new
IdlesOnlyCounted old new Failed = old ≤ new

-- the count of faults doesn't fall, and a failure raises it
abbrev pub RecvFailsOnlyCounted : ℕ → ℕ → Recv → Type 0
RecvFailsOnlyCounted old new (Got len from) = old ≤ new
RecvFailsOnlyCounted old new Idle = old ≤ new
RecvFailsOnlyCounted old new Failed = (old ≤ new) × Rose old new

-- the datagram was sent, or nothing was
abbrev pub Sends : Option Traffic → Option Traffic → Sent → Datagram → Type 0
Sends old new Done what = Moves old new [] (what ∷ [])
Sends old new sent.Failed what = Moves old new [] []

-- the count of faults doesn't fall, and a failure raises it
abbrev pub SendFailsOnlyCounted : ℕ → ℕ → Sent → Type 0
SendFailsOnlyCounted old new Done = old ≤ new
SendFailsOnlyCounted old new sent.Failed = (old ≤ new) × Rose old new

-- all that is told of a wire
pub record WireTale : Type 0 where
  pub traffic : Option Traffic
  pub faults : ℕ
  pub idles : ℕ

abbrev pub wire_tale : Option Traffic → ℕ → ℕ → WireTale
wire_tale traffic faults idles = record { traffic = traffic; faults = faults; idles = idles }
