-- What becomes of the plan of a connection.
use Rattle.std.specs.Prelude.{◌≡◌, ℕ, All, List, [], ◌∷◌, ◌++◌, Option, Some, None}
use Rattle.std.specs.Option.{option_and_then, option_map}
use Rattle.full_scrape.specs.FullScrape.{full_body}
use Rattle.http_wire.specs.Reply.{long_head}
use Rattle.ot_base.specs.Address.{family_of}
use Rattle.ot_base.specs.declared.address.Family.{Family}
use Rattle.ot_base.specs.declared.minute.Minute.{Minute}
use Rattle.ot_base.specs.declared.peer.Row.{Row}
use Rattle.tracker_core.specs.HttpPlan.{http_calls}
use Rattle.tracker_core.specs.HttpText.{connection_text}
use Rattle.tracker_core.specs.declared.connection_plan.ConnectionPlan.{ConnectionPlan}
use Rattle.tracker_core.specs.declared.connection_plan.ConnectionPlan.TheVariants.{More, Rejected, Planned}
use Rattle.tracker_core.specs.declared.http_plan.HttpPlan.{HttpPlan}
use Rattle.tracker_core.specs.declared.http_plan.HttpPlan.TheVariants.{NotFound, Refused, Announce, Scrape, Full}
use Rattle.tracker_model.specs.Making.{Makes, MakingRelation}
use Rattle.tracker_model.specs.Placed.{bucket_in, on_each_bucket, placed_calls}
use Rattle.tracker_model.specs.declared.answer.Answer.{Answer}
use Rattle.tracker_model.specs.declared.answer.Answer.TheVariants as answered
use Rattle.tracker_model.specs.declared.call.Call.{Call}
use Rattle.tracker_model.specs.declared.call.Call.TheVariants.{Scan}

-- the calls that a request's plan makes, each on its bucket: where all torrents are asked for, a
-- scan of each
abbrev pub http_placed : (bits : ℕ) → HttpPlan → List (ℕ × Call)
http_placed bits NotFound = []
http_placed bits (Refused why) = []
http_placed bits (Announce call) =
    placed_calls (bucket_in bits) (http_calls (Announce call))
http_placed bits (Scrape hashes) =
    placed_calls (bucket_in bits) (http_calls (Scrape hashes))
http_placed bits Full = on_each_bucket bits Scan

-- the same of a connection's plan
abbrev pub connection_placed : (bits : ℕ) → ConnectionPlan → List (ℕ × Call)
connection_placed bits More = []
connection_placed bits (Rejected code) = []
connection_placed bits (Planned plan) = http_placed bits plan

-- the rows that answer a scan
abbrev pub scan_rows : Answer → Option (List Row)
scan_rows (answered.Rows rows) = Some rows
scan_rows (answered.Told counts peers) = None
scan_rows (answered.Stats counts known) = None
scan_rows (answered.Cleaned held) = None
scan_rows answered.Applied = None
scan_rows (answered.Drained notes dropped) = None
scan_rows (answered.SwarmFull count) = None
scan_rows (answered.BucketFull count) = None
scan_rows answered.NoMemory = None

-- the rows of all answers, where each of them answers a scan
abbrev pub full_rows : List Answer → Option (List (List Row))
full_rows [] = Some []
full_rows (answer ∷ answers) =
    option_and_then (λ rows. option_map (λ lists. rows ∷ lists) (full_rows answers))
    (scan_rows answer)

-- All bytes that a connection is sent whose plan's calls have these answers. Before its head is
-- whole there is none, and want of memory has none. The body of a full scrape has no length told.
abbrev pub connection_reply : ConnectionPlan → List Answer → Option (List ℕ)
connection_reply (Planned Full) answers =
    option_map (λ lists. long_head ++ full_body lists) (full_rows answers)
connection_reply plan answers = connection_text plan answers

-- what a connection is sent whose plan's calls have these answers: nothing before its head is whole
abbrev pub IsReply : ConnectionPlan → List Answer → Option (List ℕ) → Type 0
IsReply plan answers None = plan ≡ More
IsReply plan answers (Some reply) = connection_reply plan answers ≡ Some reply

-- a connection was served by its plan from the state old to the state new
pub record Serves {T : Type 0}
    (made : MakingRelation T) (minute : Minute) (old : T) (bits : ℕ) (plan : ConnectionPlan)
    (new : T) (reply : Option (List ℕ)) : Type 0 where
  pub answers : List Answer
  pub makes : Makes made minute old (connection_placed bits plan) answers new
  pub came : IsReply plan answers reply

-- an answer that an announce or a stop can have, with peers of this family
abbrev pub IsBodyAnswer : Family → Answer → Type 0
IsBodyAnswer family (answered.Told counts peers) =
    All (λ peer. family_of peer.addr ≡ family) peers
IsBodyAnswer family (answered.SwarmFull count) = Unit {0}
IsBodyAnswer family (answered.BucketFull count) = Unit {0}
IsBodyAnswer family answered.NoMemory = Unit {0}
IsBodyAnswer family (answered.Stats counts known) = ⊥
IsBodyAnswer family (answered.Rows rows) = ⊥
IsBodyAnswer family (answered.Cleaned held) = ⊥
IsBodyAnswer family answered.Applied = ⊥
IsBodyAnswer family (answered.Drained notes dropped) = ⊥
