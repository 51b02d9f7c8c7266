-- What is told of connections, and of listeners.
use Rattle.std.specs.Prelude.{◌≡◌, ℕ, ◌+◌, ◌≤◌, List, [], ◌∷◌, ◌++◌, length, Option, None, Some}
use Rattle.ot_base.specs.declared.address.Endpoint.{Endpoint}
use Rattle.ot_io.specs.Counts.{Rose}
use Rattle.ot_io.specs.declared.listener.Accept.{Accept}
use Rattle.ot_io.specs.declared.listener.Accept.TheVariants.{Got, Idle, Failed}

-- all that is told of a connection: who is at the other end, what is left of the bytes that were
-- sent from there, what was written to there, and how often it failed and its bytes ended
pub record Tale : Type 0 where
  pub client : Endpoint
  pub left : Option (List ℕ)
  pub written : Option (List ℕ)
  pub faults : ℕ
  pub ends : ℕ

abbrev pub tale : Endpoint → Option (List ℕ) → Option (List ℕ) → ℕ → ℕ → Tale
tale client left written faults ends =
    record { client = client; left = left; written = written; faults = faults; ends = ends }

-- nothing was written, where it is told, and nothing is counted
abbrev pub IsUntouched : Option (List ℕ) → Type 0
IsUntouched None = Unit
IsUntouched (Some written) = written ≡ []

abbrev pub IsNewConnection : Tale → Type 0
IsNewConnection link = IsUntouched link.written × (link.faults ≡ 0) × (link.ends ≡ 0)

-- what waits at a listener, as it is to be accepted; what was accepted, as it was then; and what
-- was taken back, as it was then; all in order
pub record Links : Type 0 where
  pub waiting : List Tale
  pub accepted : List Tale
  pub finished : List Tale

-- A listener accepted the connections `came`, which waited first, and took back the connections
-- `went`. What isn't told stays untold.
abbrev pub Passes : Option Links → Option Links → List Tale → List Tale → Type 0
Passes None None came went = Unit
Passes None (Some new) came went = ⊥
Passes (Some old) None came went = ⊥
Passes (Some old) (Some new) came went =
    (old.waiting ≡ came ++ new.waiting)
    × (new.accepted ≡ old.accepted ++ came)
    × (new.finished ≡ old.finished ++ went)

-- no connection waits, where it is told
abbrev pub NoLinkWaits : Option Links → Type 0
NoLinkWaits None = Unit
NoLinkWaits (Some links) = links.waiting ≡ []

-- nothing was accepted and nothing taken back, where it is told
abbrev pub IsUnopened : Option Links → Type 0
IsUnopened None = Unit
IsUnopened (Some links) = (links.accepted ≡ []) × (links.finished ≡ [])

-- a listener that a maker gives
abbrev pub IsNewListener : Option Links → ℕ → ℕ → Type 0
IsNewListener links faults idles = IsUnopened links × (faults ≡ 0) × (idles ≡ 0)

-- at least so many of the connections that were accepted weren't taken back yet, where it is told
abbrev pub AreOwed : Option Links → ℕ → Type 0
AreOwed None count = Unit
AreOwed (Some links) count = length links.finished + count ≤ length links.accepted

-- as many connections were taken back as were accepted, where it is told
abbrev pub AreQuit : Option Links → Type 0
AreQuit None = Unit
AreQuit (Some links) = length links.accepted ≤ length links.finished

-- a new connection, the first that waited, was accepted; or none waits; or the outside failed
abbrev pub Accepts : {C : Type 0} → (C → Tale) → Option Links → Option Links → Accept C → Type 0
Accepts tale_of old new (Got link) =
    IsNewConnection (tale_of link) × Passes old new (tale_of link ∷ []) []
Accepts tale_of old new Idle = Passes old new [] [] × NoLinkWaits new
Accepts tale_of old new Failed = Passes old new [] []

-- the count of times that none waited doesn't fall, and such a time raises it
abbrev pub AcceptIdlesOnlyCounted : {C : Type 0} → ℕ → ℕ → Accept C → Type 0
AcceptIdlesOnlyCounted old new (Got link) = old ≤ new
AcceptIdlesOnlyCounted old new Idle = (old ≤ new) × Rose old new
AcceptIdlesOnlyCounted old new Failed = old ≤ new

-- the count of faults doesn't fall, and a failure raises it
abbrev pub AcceptFailsOnlyCounted : {C : Type 0} → ℕ → ℕ → Accept C → Type 0
AcceptFailsOnlyCounted old new (Got link) = old ≤ new
AcceptFailsOnlyCounted old new Idle = old ≤ new
AcceptFailsOnlyCounted old new Failed = (old ≤ new) × Rose old new

-- all that is told of a listener
pub record ListenerTale : Type 0 where
  pub links : Option Links
  pub faults : ℕ
  pub idles : ℕ

abbrev pub listener_tale : Option Links → ℕ → ℕ → ListenerTale
listener_tale links faults idles = record { links = links; faults = faults; idles = idles }
