-- What is done for a connection, put together.
use Rattle.std.proofs.Common.{◌≡◌, ◌∙◌, ℕ, List, [], ◌∷◌, ◌++◌, ap, inr, map, refl, subst, sym, take}
use Rattle.std.specs.Prelude.{Option, Some, None, Result, Ok, Err}
use Rattle.std.specs.Io.KnownBytes.{IsAtEnd}
use Rattle.std.specs.Option.{option_map}
use Rattle.std.proofs.KnownBytes.{Appends-nil}
use Rattle.full_scrape.specs.FullScrape.{full_body}
use Rattle.http_wire.specs.Reply.{long_head}
use Rattle.http_wire.specs.declared.reply.Code.{Code}
use Rattle.ot_base.specs.declared.address.Endpoint.{Endpoint}
use Rattle.ot_base.specs.declared.minute.Minute.{Minute}
use Rattle.ot_base.specs.declared.peer.Row.{Row}
use Rattle.ot_io.proofs.Asides.{same_client_read, same_client_written, same_ends, same_left, same_written}
use Rattle.ot_io.specs.Content.{Aside, left_aside, written_aside}
use Rattle.ot_io.specs.Tales.{Tale}
use Rattle.request_handler.specs.Connection.{full_rows}
use Rattle.shards.specs.Passing.{PassFollows}
use Rattle.shards.specs.Shape.{PassShape}
use Rattle.tracker_core.specs.ConnectionPlan.{IsBoundedConnection}
use Rattle.tracker_core.specs.declared.connection_plan.ConnectionPlan.{ConnectionPlan}
use Rattle.tracker_core.specs.declared.connection_plan.ConnectionPlan.TheVariants.{More, Rejected, Planned}
use Rattle.tracker_core.specs.declared.http_plan.HttpPlan.TheVariants.{NotFound, Refused, Announce, Scrape, Full}
use Rattle.tracker_model.specs.Making.{Makes, MakingRelation}
use Rattle.tracker_model.specs.Placed.{on_each_bucket}
use Rattle.tracker_model.specs.declared.answer.Answer.{Answer}
use Rattle.tracker_model.specs.declared.answer.Answer.TheVariants.{Rows}
use Rattle.tracker_model.specs.declared.call.Call.{Call}
use Rattle.tracker_model.specs.declared.call.Call.TheVariants.{Scan}
use Rattle.serve.specs.Connection.{Answers, AreFaultsCounted, Asks, CallsSome, ConnectionTerms, CutsFull, CutsMade, CutsReply, EndsConnection, FallsShort, SendsReply, code_of, end_of}
use Rattle.serve.specs.Connection.{Serves}
use Rattle.serve.specs.Full.{IsCutFull, StopsAreCounted, StopsFull, TellsAll, Written}
use Rattle.serve.specs.Reading.{ReadsPlan}
use Rattle.serve.specs.declared.connection.ConnEnd.{ConnEnd}
use Rattle.serve.specs.declared.connection.ConnEnd.TheVariants as end
use Rattle.serve.specs.declared.full.Stop.{Stop}
use Rattle.serve.specs.declared.full.Stop.TheVariants as stop

-- ---- plans and their codes

pub has_code : (plan : ConnectionPlan) (status : Code) → code_of plan ≡ Some status → plan ≡ More → ⊥
has_code plan status coded more =
    let none : None ≡ Some status = sym (ap code_of more) ∙ coded in
    cc

-- ---- calls that were made through a seat

-- the rows of scans that found some
full_rows_of : (lists : List (List Row)) → full_rows (map Rows lists) ≡ Some lists
full_rows_of [] = refl
full_rows_of (rows ∷ lists) = ap (λ (others : Option (List (List Row))). option_map (λ more. rows ∷ more) others) (full_rows_of lists)

module _ {S : Type 0} (made : MakingRelation S) (pass_of : S → PassShape) (name_of : S → ℕ)
    (follows : (minute : Minute) (old new : S) (placed : List (ℕ × Call)) (answers : List Answer) → Makes made minute old placed answers new
    → (name_of new ≡ name_of old) × PassFollows minute (pass_of old) placed answers (pass_of new)) where
  cuts_full : (minute : Minute) (bits : ℕ) (old new : S) (held held' : Written) (stops : StopsFull made minute bits old new held held') → bits ≡ (pass_of old).shards.bits
      → CutsFull minute (pass_of old) (pass_of new) stops.text
  cuts_full minute bits old new held held' stops same =
      let Follows : ℕ → Type 0 = λ b. PassFollows minute (pass_of old) (take stops.count (on_each_bucket b Scan)) stops.answers (pass_of new) in
      let Cut : ℕ → Type 0 = λ b. IsCutFull b stops.answers stops.text in (
        stops.count,
        stops.answers,
        subst Follows same (follows minute old new (take stops.count (on_each_bucket bits Scan)) stops.answers stops.scanned).1,
        subst Cut same stops.cut,
      )

  -- all torrents were told, or that stopped
  pub told_all : (minute : Minute) (bits : ℕ) (old new : S) (held held' : Written) (r : Result (Unit {0}) Stop) → bits ≡ (pass_of old).shards.bits
      → TellsAll made minute bits old new held held' r → EndsConnection minute (pass_of old) (pass_of new) (Planned Full) held held' (end_of r)
  told_all minute bits old new held held' (Ok u) same told =
      let Follows : ℕ → Type 0 = λ b. PassFollows minute (pass_of old) (on_each_bucket b Scan) (map Rows told.0) (pass_of new) in (
        long_head ++ full_body told.0,
        record {
          answers = map Rows told.0;
          calls = subst Follows same (follows minute old new (on_each_bucket bits Scan) (map Rows told.0) told.1).1;
          text = ap (option_map (λ lists. long_head ++ full_body lists)) (full_rows_of told.0);
        },
        refl,
        told.2,
      )
  told_all minute bits old new held held' (Err stop.NoMemory) same stops =
      (stops.text, cuts_full minute bits old new held held' stops same, stops.told)
  told_all minute bits old new held held' (Err stop.WriteFault) same stops =
      (stops.text, cuts_full minute bits old new held held' stops same, stops.told)

  -- the pass stays the one that it was, but for what it has seen
  pub told_alike : (minute : Minute) (bits : ℕ) (old new : S) (held held' : Written) (r : Result (Unit {0}) Stop) → TellsAll made minute bits old new held held' r
      → (name_of new ≡ name_of old) × (pass_of new ≡ record (pass_of old) { seen = (pass_of new).seen })
  told_alike minute bits old new held held' (Ok u) told =
      let all = follows minute old new (on_each_bucket bits Scan) (map Rows told.0) told.1 in
      (all.0, all.1.pass)
  told_alike minute bits old new held held' (Err why) stops =
      let some = follows minute old new (take stops.count (on_each_bucket bits Scan)) stops.answers stops.scanned in
      (some.0, some.1.pass)

-- a stop is told as the end that it makes
pub told_counted : (a b : ℕ) (r : Result (Unit {0}) Stop) → StopsAreCounted a b r → AreFaultsCounted a b (end_of r)
told_counted a b (Ok u) counted = counted
told_counted a b (Err stop.NoMemory) counted = counted
told_counted a b (Err stop.WriteFault) counted = counted

-- ---- the end of a connection whose request has a plan

module _ (minute : Minute) (old new : PassShape) where
  cuts_reply : (plan : ConnectionPlan) (status : Code) (text : List ℕ) → IsBoundedConnection plan → code_of plan ≡ Some status → CutsMade minute old new plan text
      → CutsReply minute old new plan text
  cuts_reply More status text bounded coded cut = absurd (has_code More status coded refl)
  cuts_reply (Rejected code) status text bounded coded cut = cut
  cuts_reply (Planned NotFound) status text bounded coded cut = cut
  cuts_reply (Planned (Refused why)) status text bounded coded cut = cut
  cuts_reply (Planned (Announce call)) status text bounded coded cut = cut
  cuts_reply (Planned (Scrape hashes)) status text bounded coded cut = cut
  cuts_reply (Planned Full) status text bounded coded cut = absurd bounded

  falls_short : (plan : ConnectionPlan) (status : Code) → IsBoundedConnection plan → code_of plan ≡ Some status → CallsSome minute old new plan → FallsShort minute old new plan []
  falls_short More status bounded coded some = absurd (has_code More status coded refl)
  falls_short (Rejected code) status bounded coded some = (some, refl)
  falls_short (Planned NotFound) status bounded coded some = (some, refl)
  falls_short (Planned (Refused why)) status bounded coded some = (some, refl)
  falls_short (Planned (Announce call)) status bounded coded some = (some, refl)
  falls_short (Planned (Scrape hashes)) status bounded coded some = (some, refl)
  falls_short (Planned Full) status bounded coded some = absurd bounded

  -- its reply was handed to the outside
  pub reply_sent : (plan : ConnectionPlan) (status : Code) (reply : List ℕ) (held held' : Written) (r : ConnEnd) → IsBoundedConnection plan → code_of plan ≡ Some status
      → Answers minute old new plan reply → SendsReply held held' status reply r → EndsConnection minute old new plan held held' r
  reply_sent plan status reply held held' end.Unbuilt bounded coded answers sent = absurd sent
  reply_sent plan status reply held held' (end.Replied told) bounded coded answers sent = (reply, answers, coded ∙ ap Some (sym sent.0), sent.1)
  reply_sent plan status reply held held' end.Cut bounded coded answers sent = absurd sent
  reply_sent plan status reply held held' end.ReadFault bounded coded answers sent = absurd sent
  reply_sent plan status reply held held' end.WriteFault bounded coded answers sent =
      (take sent.0 reply, cuts_reply plan status (take sent.0 reply) bounded coded (reply, sent.0, answers, sent.1, refl), sent.2)
  reply_sent plan status reply held held' end.NoMemory bounded coded answers sent = absurd sent

  -- there was no memory for it
  pub reply_short : (plan : ConnectionPlan) (status : Code) (held : Written) → IsBoundedConnection plan → code_of plan ≡ Some status → CallsSome minute old new plan
      → EndsConnection minute old new plan held held end.NoMemory
  reply_short plan status held bounded coded some = ([], falls_short plan status bounded coded some, Appends-nil held)

-- ---- the whole connection

-- a connection was read until there was a plan, and served by it
pub plan_served : (terms : ConnectionTerms) (old new : PassShape) (link link' : Tale) (plan : ConnectionPlan) (r : ConnEnd) → Asks terms link link' plan → (plan ≡ More → IsAtEnd link'.left)
    → EndsConnection terms.minute old new plan link.written link'.written r → Serves terms old new link link' r
plan_served terms old new link link' plan end.Unbuilt asks all ends = absurd ends
plan_served terms old new link link' plan (end.Replied status) asks all ends = (plan, asks, ends)
plan_served terms old new link link' plan end.Cut asks all ends = ((plan, asks, ends), all ends.0)
plan_served terms old new link link' plan end.ReadFault asks all ends = absurd ends
plan_served terms old new link link' plan end.WriteFault asks all ends = (plan, asks, ends)
plan_served terms old new link link' plan end.NoMemory asks all ends = inr (plan, asks, ends)

-- the same, where the reply left what is left to read, and the reading what was written
pub connection_served : (terms : ConnectionTerms) (old new : PassShape) (link middle link' : Tale) (plan : ConnectionPlan) (r : ConnEnd) → Asks terms link middle plan → (plan ≡ More → IsAtEnd middle.left)
    → middle.written ≡ link.written → link'.left ≡ middle.left → EndsConnection terms.minute old new plan middle.written link'.written r → Serves terms old new link link' r
connection_served terms old new link middle link' plan r asks all written left ends =
    let Reads : Written → Type 0 = λ l. ReadsPlan terms.access link.client terms.full link.left l (Some plan) in
    let End : Written → Type 0 = λ l. IsAtEnd l in
    let Ends : Written → Type 0 = λ held. EndsConnection terms.minute old new plan held link'.written r in
    plan_served terms old new link link' plan r (subst Reads (sym left) asks) (λ more. subst End (sym left) (all more)) (subst Ends written ends)

-- a read leaves what was written and the client
pub kept_by_read : {N : Type 0} (written : N → Written) (client : N → Endpoint) (aside : N → Aside) → ((conn : N) → aside conn ≡ written_aside (written conn) (client conn))
    → (a b : N) → aside b ≡ aside a → (written b ≡ written a) × (client b ≡ client a)
kept_by_read written client aside keeps a b stays =
    let same = sym (keeps b) ∙ stays ∙ keeps a in
    (same_written (written b) (written a) (client b) (client a) same, same_client_read (written b) (written a) (client b) (client a) same)

-- a write leaves what is left to read, the count of ends and the client
pub kept_by_write : {N : Type 0} (left : N → Written) (ends : N → ℕ) (client : N → Endpoint) (aside : N → Aside) → ((conn : N) → aside conn ≡ left_aside (left conn) (ends conn) (client conn))
    → (a b : N) → aside b ≡ aside a → (left b ≡ left a) × (ends b ≡ ends a) × (client b ≡ client a)
kept_by_write left ends client aside keeps a b stays =
    let same = sym (keeps b) ∙ stays ∙ keeps a in (
      same_left (left b) (left a) (ends b) (ends a) (client b) (client a) same,
      same_ends (left b) (left a) (ends b) (ends a) (client b) (client a) same,
      same_client_written (left b) (left a) (ends b) (ends a) (client b) (client a) same,
    )
