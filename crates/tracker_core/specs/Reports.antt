-- The call of a peer that announces or stops, whichever kind of request says so.
use Rattle.std.specs.Prelude.{ℕ, Bool, true, false, ◌||◌, min, Option, Some, None}
use Rattle.ot_base.specs.declared.address.Endpoint.{Endpoint}
use Rattle.ot_base.specs.declared.hash.InfoHash.{InfoHash}
use Rattle.ot_base.specs.declared.peer.Event.{Event}
use Rattle.ot_base.specs.declared.peer.Event.TheVariants as event
use Rattle.tracker_model.specs.declared.call.Call.{Call}
use Rattle.tracker_model.specs.declared.call.Call.TheVariants.{Announce, Stop}

-- how many peers are wanted where a client says this number: at most 200, and 50 where it says none
abbrev pub peers_wanted : Option ℕ → ℕ
peers_wanted None = 50
peers_wanted (Some number) = min number 200

-- where the client listens: the address that its request came from, and the port that it names
abbrev pub listener_of : Endpoint → (port : ℕ) → Endpoint
listener_of from port = record { addr = from.addr; port = port }

-- an announce of a peer that takes part: a seed where nothing is left to it, or where it has just
-- finished
abbrev pub joining_call : InfoHash → Endpoint → (done completed : Bool) → (want : ℕ) → Call
joining_call hash who done completed want = Announce hash who (done || completed) completed want

-- the call by its event; `done` says whether nothing is left
abbrev pub report_call : Event → InfoHash → Endpoint → (done : Bool) → (want : ℕ) → Call
report_call event.Nothing hash who done want = joining_call hash who done false want
report_call event.Started hash who done want = joining_call hash who done false want
report_call event.Completed hash who done want = joining_call hash who done true want
report_call event.Stopped hash who done want = Stop hash who
