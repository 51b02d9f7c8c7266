-- The reply to a datagram, as a function of its plan and of the answers to the plan's calls.
use Rattle.std.specs.Prelude.{ℕ, List, [], ◌∷◌, Option, Some, None}
use Rattle.std.specs.Option.{option_and_then, option_map}
use Rattle.ot_base.specs.declared.peer.Counts.{Counts}
use Rattle.ot_base.specs.declared.refusal.Refusal.TheVariants as refusal
use Rattle.tracker_model.specs.declared.answer.Answer.{Answer}
use Rattle.tracker_model.specs.declared.answer.Answer.TheVariants.{Told, Stats, Rows, Cleaned, Applied, Drained}
use Rattle.tracker_model.specs.declared.answer.Answer.TheVariants.{SwarmFull, BucketFull, NoMemory}
use Rattle.udp_wire.specs.Packets.{AreTellable, announce_reply, connect_reply, error_reply, scrape_reply}
use Rattle.tracker_core.specs.declared.udp_plan.UdpPlan.{UdpPlan}
use Rattle.tracker_core.specs.declared.udp_plan.UdpPlan.TheVariants.{Silent, Connected, Refused, Announce, Scrape}

-- the reply to an announce or a stop that has this answer; want of memory has none
abbrev pub announce_text : ℕ → Answer → Option (List ℕ)
announce_text transaction (Told counts peers) = Some (announce_reply transaction counts peers)
announce_text transaction (SwarmFull count) = Some (error_reply transaction refusal.SwarmFull)
announce_text transaction (BucketFull count) = Some (error_reply transaction refusal.TrackerFull)
announce_text transaction NoMemory = None
announce_text transaction (Stats counts known) = None
announce_text transaction (Rows rows) = None
announce_text transaction (Cleaned held) = None
announce_text transaction Applied = None
announce_text transaction (Drained notes dropped) = None

-- the counts that answer a scrape
abbrev pub scraped_counts : Answer → Option Counts
scraped_counts (Stats counts known) = Some counts
scraped_counts (Told counts peers) = None
scraped_counts (SwarmFull count) = None
scraped_counts (BucketFull count) = None
scraped_counts NoMemory = None
scraped_counts (Rows rows) = None
scraped_counts (Cleaned held) = None
scraped_counts Applied = None
scraped_counts (Drained notes dropped) = None

-- the counts of all answers, where each of them answers a scrape
abbrev pub all_counts : List Answer → Option (List Counts)
all_counts [] = Some []
all_counts (answer ∷ answers) =
    option_and_then (λ counts. option_map (λ others. counts ∷ others) (all_counts answers))
    (scraped_counts answer)

-- of an announce's one answer
abbrev pub one_text : ℕ → List Answer → Option (List ℕ)
one_text transaction [] = None
one_text transaction (answer ∷ []) = announce_text transaction answer
one_text transaction (answer ∷ second ∷ others) = None

-- The reply that a plan gives once its calls have these answers. A silent datagram has none, and
-- neither has want of memory.
abbrev pub udp_text : UdpPlan → List Answer → Option (List ℕ)
udp_text (Silent quiet) answers = None
udp_text (Connected transaction connection) answers = Some (connect_reply transaction connection)
udp_text (Refused transaction why) answers = Some (error_reply transaction why)
udp_text (Announce transaction call) answers = one_text transaction answers
udp_text (Scrape transaction hashes) answers =
    option_map (scrape_reply transaction) (all_counts answers)

-- an answer that has a text, with peers that fit into a reply
abbrev pub HasReply : Answer → Type 0
HasReply (Told counts peers) = AreTellable peers
HasReply (SwarmFull count) = Unit {0}
HasReply (BucketFull count) = Unit {0}
HasReply NoMemory = ⊥
HasReply (Stats counts known) = ⊥
HasReply (Rows rows) = ⊥
HasReply (Cleaned held) = ⊥
HasReply Applied = ⊥
HasReply (Drained notes dropped) = ⊥
