-- What a server does for a connection.
use Rattle.std.specs.Prelude.{◌≡◌, ◌⊎◌, ℕ, ◌<◌, ◌≤◌, Bool, List, [], length, take}
use Rattle.std.specs.Prelude.{Option, Some, None, Result, Ok, Err}
use Rattle.std.specs.Io.KnownBytes.{Appends, IsAtEnd}
use Rattle.access_list.specs.Access.{Listing}
use Rattle.http_wire.specs.declared.reply.Code.{Code}
use Rattle.http_wire.specs.declared.reply.Code.TheVariants as code
use Rattle.ot_base.specs.Address.{family_of}
use Rattle.ot_base.specs.declared.address.Family.TheVariants.{Six}
use Rattle.ot_base.specs.declared.minute.Minute.{Minute}
use Rattle.ot_io.specs.Counts.{Rose}
use Rattle.ot_io.specs.Tales.{Tale}
use Rattle.request_handler.specs.Connection.{connection_placed, connection_reply}
use Rattle.shards.specs.Passing.{PassFollows}
use Rattle.shards.specs.Shape.{PassShape}
use Rattle.tracker_core.specs.declared.connection_plan.ConnectionPlan.{ConnectionPlan}
use Rattle.tracker_core.specs.declared.connection_plan.ConnectionPlan.TheVariants.{More, Rejected, Planned}
use Rattle.tracker_core.specs.declared.http_plan.HttpPlan.TheVariants.{NotFound, Refused, Announce, Scrape, Full}
use Rattle.tracker_model.specs.declared.answer.Answer.{Answer}
use Rattle.serve.specs.Full.{IsCutFull, Written}
use Rattle.serve.specs.Reading.{ReadsPlan}
use Rattle.serve.specs.declared.connection.ConnEnd.{ConnEnd}
use Rattle.serve.specs.declared.connection.ConnEnd.TheVariants as end
use Rattle.serve.specs.declared.full.Stop.{Stop}
use Rattle.serve.specs.declared.full.Stop.TheVariants as stop

-- what decides over a connection beside its bytes and its client: the access list if there is one,
-- whether all torrents may be asked for at once, and the minute
pub record ConnectionTerms : Type 0 where
  pub access : Option Listing
  pub full : Bool
  pub minute : Minute

-- the code of a plan's reply; before a head is whole there is none
abbrev pub code_of : ConnectionPlan → Option Code
code_of More = None
code_of (Rejected status) = Some status
code_of (Planned NotFound) = Some code.NotFound
code_of (Planned (Refused why)) = Some code.Ok
code_of (Planned (Announce call)) = Some code.Ok
code_of (Planned (Scrape hashes)) = Some code.Ok
code_of (Planned Full) = Some code.Ok

-- all calls of a plan were made through the pass, and have these answers
abbrev pub CallsAll : Minute → (old new : PassShape) → ConnectionPlan → List Answer → Type 0
CallsAll minute old new plan answers =
    PassFollows minute old (connection_placed old.shards.bits plan) answers new

-- of the calls of a plan the first ones were made through the pass, and have these answers
abbrev pub CallsFront : Minute → (old new : PassShape) → ConnectionPlan → (count : ℕ) → List Answer
    → Type 0
CallsFront minute old new plan count answers =
    PassFollows minute old (take count (connection_placed old.shards.bits plan)) answers new

-- the calls of a plan were made through the pass, and this is the whole reply by their answers
pub record Answers (minute : Minute) (old new : PassShape) (plan : ConnectionPlan)
    (reply : List ℕ) : Type 0 where
  pub answers : List Answer
  pub calls : CallsAll minute old new plan answers
  pub text : connection_reply plan answers ≡ Some reply

-- of the calls of a plan some first ones were made through the pass
abbrev pub CallsSome : Minute → (old new : PassShape) → ConnectionPlan → Type 0
CallsSome minute old new plan =
    (count : ℕ) × (answers : List Answer) × CallsFront minute old new plan count answers

-- of a full scrape's reply a front was written, by the answers to the scans that were made
abbrev pub CutsFull : Minute → (old new : PassShape) → (text : List ℕ) → Type 0
CutsFull minute old new text =
    (count : ℕ) × (answers : List Answer)
    × CallsFront minute old new (Planned Full) count answers
    × IsCutFull old.shards.bits answers text

-- the reply was made, and of it this front was written, which isn't all
abbrev pub CutsMade : Minute → (old new : PassShape) → ConnectionPlan → (text : List ℕ) → Type 0
CutsMade minute old new plan text =
    (reply : List ℕ) × (n : ℕ)
    × Answers minute old new plan reply
    × (n < length reply)
    × (text ≡ take n reply)

-- The outside failed once this was written. A full scrape isn't made before it is written.
abbrev pub CutsReply : Minute → (old new : PassShape) → ConnectionPlan → (text : List ℕ) → Type 0
CutsReply minute old new More text = ⊥
CutsReply minute old new (Rejected status) text = CutsMade minute old new (Rejected status) text
CutsReply minute old new (Planned Full) text = CutsFull minute old new text
CutsReply minute old new (Planned plan) text = CutsMade minute old new (Planned plan) text

-- There was no memory once this was written: nothing, but where a full scrape is asked for.
abbrev pub FallsShort : Minute → (old new : PassShape) → ConnectionPlan → (text : List ℕ) → Type 0
FallsShort minute old new More text = ⊥
FallsShort minute old new (Rejected status) text =
    CallsSome minute old new (Rejected status) × (text ≡ [])
FallsShort minute old new (Planned Full) text = CutsFull minute old new text
FallsShort minute old new (Planned plan) text =
    CallsSome minute old new (Planned plan) × (text ≡ [])

-- How a connection ends whose request has a plan: the whole reply was written, or a front of it, or
-- there was no memory. A plan that awaits more has no calls and no reply.
abbrev pub EndsConnection : Minute → (old new : PassShape) → ConnectionPlan
    → (held held' : Written) → ConnEnd → Type 0
EndsConnection minute old new plan held held' end.Unbuilt = ⊥
EndsConnection minute old new plan held held' (end.Replied status) =
    (reply : List ℕ)
    × Answers minute old new plan reply
    × (code_of plan ≡ Some status)
    × Appends held held' reply
EndsConnection minute old new plan held held' end.Cut =
    (plan ≡ More) × (new ≡ old) × (held' ≡ held)
EndsConnection minute old new plan held held' end.ReadFault = ⊥
EndsConnection minute old new plan held held' end.WriteFault =
    (text : List ℕ) × CutsReply minute old new plan text × Appends held held' text
EndsConnection minute old new plan held held' end.NoMemory =
    (text : List ℕ) × FallsShort minute old new plan text × Appends held held' text

-- some bytes were read of a connection, and its request has this plan
abbrev pub Asks : ConnectionTerms → (link link' : Tale) → ConnectionPlan → Type 0
Asks terms link link' plan =
    ReadsPlan terms.access link.client terms.full link.left link'.left (Some plan)

-- the request was read, and the connection served by its plan
abbrev pub ServesPlan : ConnectionTerms → (old new : PassShape) → (link link' : Tale) → ConnEnd
    → Type 0
ServesPlan terms old new link link' ended =
    (plan : ConnectionPlan)
    × Asks terms link link' plan
    × EndsConnection terms.minute old new plan link.written link'.written ended

-- no call was made and nothing written
abbrev pub StaysUnserved : (old new : PassShape) → (link link' : Tale) → Type 0
StaysUnserved old new link link' = (new ≡ old) × (link'.written ≡ link.written)

-- What was done for a connection: it is from an address that isn't answered yet, and was left
-- alone; or it was served by the plan of what was read; or it ended before there was a plan, and
-- all of it was read; or the outside failed before, or there was no memory for the request.
abbrev pub Serves : ConnectionTerms → (old new : PassShape) → (link link' : Tale) → ConnEnd → Type 0
Serves terms old new link link' end.Unbuilt =
    (family_of link.client.addr ≡ Six) × (new ≡ old) × (link' ≡ link)
Serves terms old new link link' (end.Replied status) =
    ServesPlan terms old new link link' (end.Replied status)
Serves terms old new link link' end.Cut =
    ServesPlan terms old new link link' end.Cut × IsAtEnd link'.left
Serves terms old new link link' end.ReadFault =
    ReadsPlan terms.access link.client terms.full link.left link'.left None
    × StaysUnserved old new link link'
Serves terms old new link link' end.WriteFault =
    ServesPlan terms old new link link' end.WriteFault
Serves terms old new link link' end.NoMemory =
    StaysUnserved old new link link' ⊎ ServesPlan terms old new link link' end.NoMemory

-- a count of faults doesn't fall, and each that is told raises it
abbrev pub AreFaultsCounted : ℕ → ℕ → ConnEnd → Type 0
AreFaultsCounted old new end.Unbuilt = old ≤ new
AreFaultsCounted old new (end.Replied status) = old ≤ new
AreFaultsCounted old new end.Cut = old ≤ new
AreFaultsCounted old new end.ReadFault = (old ≤ new) × Rose old new
AreFaultsCounted old new end.WriteFault = (old ≤ new) × Rose old new
AreFaultsCounted old new end.NoMemory = old ≤ new

-- how writing a made reply ended
abbrev pub SendsReply : (held held' : Written) → Code → (reply : List ℕ) → ConnEnd → Type 0
SendsReply held held' status reply end.Unbuilt = ⊥
SendsReply held held' status reply (end.Replied told) = (told ≡ status) × Appends held held' reply
SendsReply held held' status reply end.Cut = ⊥
SendsReply held held' status reply end.ReadFault = ⊥
SendsReply held held' status reply end.WriteFault =
    (n : ℕ) × (n < length reply) × Appends held held' (take n reply)
SendsReply held held' status reply end.NoMemory = ⊥

-- how a connection ended that was to be told all torrents
abbrev pub end_of : Result (Unit {0}) Stop → ConnEnd
end_of (Ok u) = end.Replied code.Ok
end_of (Err stop.NoMemory) = end.NoMemory
end_of (Err stop.WriteFault) = end.WriteFault
