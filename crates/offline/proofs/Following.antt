-- How a record is answered at a shelf, and what is known of an answer that was cut short.
use Rattle.std.proofs.Common.{◌≡◌, ℕ, List, [], ◌∷◌, ◌++◌, append-nil, refl, sym, ◌∙◌, ap, subst, inl, inr}
use Rattle.std.specs.Prelude.{Option, Some, None, Result, Ok, Err, map}
use Rattle.std.specs.Option.{option_map}
use Rattle.std.specs.Result.{IsErrAnd}
use Rattle.access_list.specs.Access.{Listing}
use Rattle.bucket.specs.Shelf.{MadeOnShelf, ShelfShape}
use Rattle.full_scrape.specs.FullScrape.{full_body}
use Rattle.http_wire.specs.Reply.{long_head}
use Rattle.lines.specs.Replies.{Loses}
use Rattle.lines.proofs.ReplyLemmas.{Adds-none}
use Rattle.lines.specs.Responses.{IsAnswerFront, Responds}
use Rattle.lines.specs.Streams.{Stream}
use Rattle.lines.specs.declared.responder.Trouble.{Trouble}
use Rattle.lines.specs.declared.responder.Trouble.TheVariants as trouble
use Rattle.ot_base.specs.Minute.{minute_at}
use Rattle.ot_base.specs.declared.minute.Minute.{Minute}
use Rattle.ot_base.specs.declared.peer.Row.{Row}
use Rattle.ot_io.specs.declared.settings.ReplaySettings.{ReplaySettings}
use Rattle.request_handler.specs.Cleaning.{held_sum}
use Rattle.request_handler.specs.Connection.{IsReply, Serves, connection_placed, full_rows}
use Rattle.request_handler.specs.Datagram.{CarriesOut, IsOutcome, udp_placed}
use Rattle.request_handler.specs.Making.{Gives}
use Rattle.request_handler.specs.declared.datagram.Outcome.{Outcome}
use Rattle.tracker_core.specs.ConnectionPlan.{IsConnectionPlan}
use Rattle.tracker_core.specs.UdpPlan.{udp_plan}
use Rattle.tracker_core.specs.declared.connection_plan.ConnectionPlan.{ConnectionPlan}
use Rattle.tracker_core.specs.declared.connection_plan.ConnectionPlan.TheVariants.{More, Rejected, Planned}
use Rattle.tracker_core.specs.declared.http_plan.HttpPlan.TheVariants.{Full}
use Rattle.tracker_core.specs.declared.udp_plan.UdpPlan.{UdpPlan}
use Rattle.tracker_model.specs.Making.{Makes}
use Rattle.tracker_model.specs.Placed.{on_each_bucket}
use Rattle.tracker_model.specs.declared.answer.Answer.{Answer}
use Rattle.tracker_model.specs.declared.answer.Answer.TheVariants.{Rows}
use Rattle.tracker_model.specs.declared.call.Call.{Call}
use Rattle.tracker_model.specs.declared.call.Call.TheVariants as call
use Rattle.trace_text.specs.Trace.{Arrival, connection_line, datagram_line, line_of}
use Rattle.trace_text.specs.declared.line.TraceLine.TheVariants.{Clean}
use Rattle.udp_wire.specs.Packets.{request_of}
use Rattle.offline.specs.Follows.{AnswersAt, Follows, IsShelfOf, RefusesIn, RefusesLine, RefusesRecord, Situation, TakesListLine}
use Rattle.offline.specs.Full.{TellsAll}
use Rattle.offline.specs.declared.command.Fault.{Fault}
use Rattle.offline.specs.declared.command.Fault.TheVariants as because
use Rattle.offline.specs.declared.phase.Phase.{Phase}
use Rattle.offline.specs.declared.phase.Phase.TheVariants as phase
use Rattle.ot_io.specs.declared.status.LineFault.TheVariants.{Trace}
use Rattle.offline.specs.Records.{datagram, connection, cleaning, record_placed, cleaned_line, connection_output, datagram_output, reply_line, sent_line}

-- calls leave the bits and the settings of a shelf
pub stays_so : (s : ReplaySettings) (minute : Minute) (old new : ShelfShape) (placed : List (ℕ × Call)) (answers : List Answer)
    → IsShelfOf s old → Makes MadeOnShelf minute old placed answers new → IsShelfOf s new
stays_so s minute old new [] [] of makes = subst (λ shelf. IsShelfOf s shelf) (sym makes) of
stays_so s minute old new [] (answer ∷ answers) of makes = absurd makes
stays_so s minute old new (one ∷ others) [] of makes = absurd makes
stays_so s minute old new (one ∷ others) (answer ∷ answers) of makes =
    let Of : ShelfShape → Type 0 = λ shelf. IsShelfOf s shelf in
    let then : IsShelfOf s makes.0 = subst Of (sym makes.1.changed) (record { bits = of.bits; settings = of.settings }) in
    stays_so s minute makes.0 new others answers then makes.2

-- the line of a datagram, by its plan
pub answers_datagram : (s : ReplaySettings) (access : Option Listing) (old new : ShelfShape) (line text : List ℕ) (arrival : Arrival) (minute : Minute) (plan : UdpPlan) (reply : List ℕ) (outcome : Outcome)
    → IsShelfOf s old → line_of line ≡ Ok (datagram_line arrival) → minute ≡ minute_at arrival.seconds → plan ≡ udp_plan s.secret access arrival.from minute (request_of arrival.bytes)
    → CarriesOut MadeOnShelf minute old old.bits plan new reply outcome
    → ((plan : UdpPlan) (answers : List Answer) → IsOutcome plan answers reply outcome → datagram_output plan answers ≡ Some text) → AnswersAt s access old line text new
answers_datagram s access old new line text arrival minute plan reply outcome of read at is carried writes =
    let Made : ℕ → Type 0 = λ bits. Makes MadeOnShelf minute old (udp_placed bits plan) carried.answers new in
    record {
      minute = minute;
      plan = datagram plan;
      answers = carried.answers;
      planned = record { recorded = datagram_line arrival; read = read; planned = (at, is) };
      made = subst Made of.bits carried.makes;
      written = writes plan carried.answers carried.came;
      stays = stays_so s minute old new (udp_placed old.bits plan) carried.answers of carried.makes;
    }

-- the output line of what a connection is sent is the one of its plan
output_of : (plan : ConnectionPlan) (answers : List Answer) (reply : Option (List ℕ)) → IsReply plan answers reply → connection_output plan answers ≡ Some (sent_line reply)
output_of plan answers None is = ap (λ p. connection_output p answers) is
output_of More answers (Some reply) is = absurd (cc)
output_of (Rejected code) answers (Some reply) is = ap (option_map reply_line) is
output_of (Planned plan) answers (Some reply) is = ap (option_map reply_line) is

-- the line of a connection, by its plan
pub answers_connection : (s : ReplaySettings) (access : Option Listing) (old new : ShelfShape) (line : List ℕ) (arrival : Arrival) (minute : Minute) (plan : ConnectionPlan) (reply : Option (List ℕ))
    → IsShelfOf s old → line_of line ≡ Ok (connection_line arrival) → minute ≡ minute_at arrival.seconds → IsConnectionPlan arrival.bytes access arrival.from s.full plan
    → Serves MadeOnShelf minute old old.bits plan new reply → AnswersAt s access old line (sent_line reply) new
answers_connection s access old new line arrival minute plan reply of read at is served =
    let Made : ℕ → Type 0 = λ bits. Makes MadeOnShelf minute old (connection_placed bits plan) served.answers new in
    record {
      minute = minute;
      plan = connection plan;
      answers = served.answers;
      planned = record { recorded = connection_line arrival; read = read; planned = (at, is) };
      made = subst Made of.bits served.makes;
      written = output_of plan served.answers reply served.came;
      stays = stays_so s minute old new (connection_placed old.bits plan) served.answers of served.makes;
    }

-- scans that are answered with rows tell all of these
rows_of : (lists : List (List Row)) → full_rows (map Rows lists) ≡ Some lists
rows_of [] = refl
rows_of (rows ∷ lists) = ap (option_map (λ (others : List (List Row)). rows ∷ others)) (rows_of lists)

-- the line of a connection that asks for all torrents
pub answers_full : (s : ReplaySettings) (access : Option Listing) (old : ShelfShape) (line : List ℕ) (arrival : Arrival) (minute : Minute) (plan : ConnectionPlan)
    → IsShelfOf s old → line_of line ≡ Ok (connection_line arrival) → minute ≡ minute_at arrival.seconds → IsConnectionPlan arrival.bytes access arrival.from s.full plan → plan ≡ Planned Full
    → (text : List ℕ) (new : ShelfShape) → TellsAll minute old text new → AnswersAt s access old line text new
answers_full s access old line arrival minute plan of read at is all text new tells =
    let Made : ℕ → Type 0 = λ bits. Makes MadeOnShelf minute old (on_each_bucket bits call.Scan) (map Rows tells.lists) new in
    let IsPlan : ConnectionPlan → Type 0 = λ p. IsConnectionPlan arrival.bytes access arrival.from s.full p in
    let told : Option (List (List Row)) → Option (List ℕ) = λ lists. option_map reply_line (option_map (λ (ls : List (List Row)). long_head ++ full_body ls) lists) in
    record {
      minute = minute;
      plan = connection (Planned Full);
      answers = map Rows tells.lists;
      planned = record { recorded = connection_line arrival; read = read; planned = (at, subst IsPlan all is) };
      made = subst Made of.bits tells.scanned;
      written = ap told (rows_of tells.lists) ∙ ap Some (sym tells.told);
      stays = stays_so s minute old new (on_each_bucket old.bits call.Scan) (map Rows tells.lists) of tells.scanned;
    }

-- the line of a cleaning
pub answers_cleaning : (s : ReplaySettings) (access : Option Listing) (old new : ShelfShape) (line text : List ℕ) (seconds : ℕ) (minute : Minute) (held : ℕ) → text ≡ cleaned_line held
    → IsShelfOf s old → line_of line ≡ Ok (Clean seconds) → minute ≡ minute_at seconds
    → Gives MadeOnShelf minute old (on_each_bucket old.bits call.Clean) held_sum new held → AnswersAt s access old line text new
answers_cleaning s access old new line text seconds minute held is of read at cleaned =
    let Made : ℕ → Type 0 = λ bits. Makes MadeOnShelf minute old (on_each_bucket bits call.Clean) cleaned.answers new in
    record {
      minute = minute;
      plan = cleaning;
      answers = cleaned.answers;
      planned = record { recorded = Clean seconds; read = read; planned = at };
      made = subst Made of.bits cleaned.makes;
      written = ap (option_map cleaned_line) cleaned.came ∙ ap Some (sym is);
      stays = stays_so s minute old new (on_each_bucket old.bits call.Clean) cleaned.answers of cleaned.makes;
    }

module _ {S F : Type 0} (answers : S → List ℕ → List ℕ → S → Type 0) (refuses : S → List ℕ → F → Type 0) where
  -- a failed write leaves a front of what waited and of the answer
  pub write_failed : (old new : S) (line text : List ℕ) (held held' : Stream) (waiting waiting' : List ℕ) (result : Result (Unit {0}) (Trouble F))
      → IsErrAnd result (λ t. t ≡ trouble.WriteFault) → answers old line text new → Loses held held' (waiting ++ text)
      → Responds answers refuses old new line held held' waiting waiting' result
  write_failed old new line text held held' waiting waiting' (Ok u) failed answered lost = absurd failed
  write_failed old new line text held held' waiting waiting' (Err t) failed answered lost =
      let After : Trouble F → Type 0 = λ x. Responds answers refuses old new line held held' waiting waiting' (Err x) in
      let Text : List ℕ → Type 0 = λ xs. answers old line xs new in
      let front : IsAnswerFront answers old line text = inr ([], new, subst Text (sym (append-nil text)) answered) in
      subst After (sym failed) (text, front, lost)

  -- without memory nothing was added
  pub memory_wanted : (old new : S) (line : List ℕ) (held : Stream) (waiting : List ℕ) (result : Result (Unit {0}) (Trouble F))
      → IsErrAnd result (λ t. t ≡ trouble.NoMemory) → Responds answers refuses old new line held held waiting waiting result
  memory_wanted old new line held waiting (Ok u) failed = absurd failed
  memory_wanted old new line held waiting (Err t) failed =
      let After : Trouble F → Type 0 = λ x. Responds answers refuses old new line held held waiting waiting (Err x) in
      subst After (sym failed) ([], inl refl, Adds-none held waiting)

-- what one answers and refuses, the other does
module _ {S T F : Type 0} (answers : S → List ℕ → List ℕ → S → Type 0) (refuses : S → List ℕ → F → Type 0)
    (answers' : T → List ℕ → List ℕ → T → Type 0) (refuses' : T → List ℕ → F → Type 0) (after : S → T) (old : S) (old' : T) (line : List ℕ)
    (alike : (text : List ℕ) (next : S) → answers old line text next → answers' old' line text (after next)) (same : (why : F) → refuses old line why → refuses' old' line why) where
  front_by : (text : List ℕ) → IsAnswerFront answers old line text → IsAnswerFront answers' old' line text
  front_by text (inl none) = inl none
  front_by text (inr front) = inr (front.0, after front.1, alike (text ++ front.0) front.1 front.2)

  pub responds_by : (new : S) (held held' : Stream) (waiting waiting' : List ℕ) (result : Result (Unit {0}) (Trouble F))
      → Responds answers refuses old new line held held' waiting waiting' result → Responds answers' refuses' old' (after new) line held held' waiting waiting' result
  responds_by new held held' waiting waiting' (Ok u) r = (r.0, alike r.0 new r.1, r.2)
  responds_by new held held' waiting waiting' (Err (trouble.Refused why)) r = (same why r.0, r.1)
  responds_by new held held' waiting waiting' (Err trouble.NoMemory) r = (r.0, front_by r.0 r.1, r.2)
  responds_by new held held' waiting waiting' (Err trouble.WriteFault) r = (r.0, front_by r.0 r.1, r.2)

-- what becomes of a line of an access list becomes of it in the replay
list_answered : (s : ReplaySettings) (shelf : ShelfShape) (old new : Phase) (line : List ℕ) (held : Stream) (waiting : List ℕ) (result : Result (Unit {0}) (Trouble Fault))
    → TakesListLine old line new result
    → Responds Follows RefusesLine (record { settings = s; phase = old; shelf = shelf }) (record { settings = s; phase = new; shelf = shelf }) line held held waiting waiting result
list_answered s shelf (phase.Listing list) (phase.Listing longer) line held waiting (Ok u) takes = ([], (refl, (refl, takes, refl)), Adds-none held waiting)
list_answered s shelf (phase.Listing list) (phase.Answering access) line held waiting (Ok u) takes = ([], (refl, (refl, takes.0, takes.1, refl)), Adds-none held waiting)
list_answered s shelf (phase.Answering access) new line held waiting (Ok u) takes = absurd takes
list_answered s shelf (phase.Listing list) (phase.Listing longer) line held waiting (Err (trouble.Refused why)) takes = (takes, Adds-none held waiting)
list_answered s shelf (phase.Listing list) (phase.Answering access) line held waiting (Err (trouble.Refused why)) takes = (takes, Adds-none held waiting)
list_answered s shelf (phase.Answering access) new line held waiting (Err (trouble.Refused why)) takes = (takes, Adds-none held waiting)
list_answered s shelf old new line held waiting (Err trouble.NoMemory) takes = ([], inl refl, Adds-none held waiting)
list_answered s shelf (phase.Listing list) (phase.Listing longer) line held waiting (Err trouble.WriteFault) takes = absurd takes
list_answered s shelf (phase.Listing list) (phase.Answering access) line held waiting (Err trouble.WriteFault) takes = absurd takes
list_answered s shelf (phase.Answering access) new line held waiting (Err trouble.WriteFault) takes = absurd takes

pub list_responds : (at : Situation) (s : ReplaySettings) (shelf : ShelfShape) (old new : Phase) (line : List ℕ) (held : Stream) (waiting : List ℕ) (result : Result (Unit {0}) (Trouble Fault))
    → record { settings = s; phase = old; shelf = shelf } ≡ at → TakesListLine old line new result
    → Responds Follows RefusesLine at (record { settings = s; phase = new; shelf = shelf }) line held held waiting waiting result
list_responds at s shelf old new line held waiting result is takes =
    let Before : Situation → Type 0 = λ x. Responds Follows RefusesLine x (record { settings = s; phase = new; shelf = shelf }) line held held waiting waiting result in
    subst Before is (list_answered s shelf old new line held waiting result takes)

refuses_answering : (access : Option Listing) (shelf : ShelfShape) (line : List ℕ) (why : Fault) → RefusesRecord shelf line why → RefusesIn (phase.Answering access) line why
refuses_answering access shelf line (because.List fault) refused = absurd refused
refuses_answering access shelf line (because.Line (Trace fault)) refused = refused

-- what becomes of a record at a shelf becomes of it in the replay
pub record_responds : (at : Situation) (s s' : ReplaySettings) (shelf new : ShelfShape) (access : Option Listing) (p : Phase) (line : List ℕ) (held held' : Stream) (waiting waiting' : List ℕ) (result : Result (Unit {0}) (Trouble Fault))
    → record { settings = s; phase = p; shelf = shelf } ≡ at → p ≡ phase.Answering access → s' ≡ s → Responds (AnswersAt s access) RefusesRecord shelf new line held held' waiting waiting' result
    → Responds Follows RefusesLine at (record { settings = s'; phase = p; shelf = new }) line held held' waiting waiting' result
record_responds at s s' shelf new access p line held held' waiting waiting' result is answering same responds =
    let After : ReplaySettings → Type 0 = λ x. Responds Follows RefusesLine at (record { settings = x; phase = p; shelf = new }) line held held' waiting waiting' result in
    let Before : Situation → Type 0 = λ x. Responds Follows RefusesLine x (record { settings = s; phase = p; shelf = new }) line held held' waiting waiting' result in
    let InPhase : Phase → Type 0 = λ q. Responds Follows RefusesLine (record { settings = s; phase = q; shelf = shelf }) (record { settings = s; phase = q; shelf = new }) line held held' waiting waiting' result in
    subst After (sym same) (subst Before is (subst InPhase (sym answering)
    (responds_by (AnswersAt s access) RefusesRecord Follows RefusesLine (λ x. record { settings = s; phase = phase.Answering access; shelf = x })
    shelf (record { settings = s; phase = phase.Answering access; shelf = shelf }) line (λ text next answers. (refl, (refl, answers))) (refuses_answering access shelf line)
    new held held' waiting waiting' result responds)))
