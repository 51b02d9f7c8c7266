-- The reply to an HTTP request, as a function of its plan and of the answers to the plan's calls:
-- its code and its body, and all of its bytes. A body is one dictionary of bencode (BEP 3).
use Rattle.std.specs.Prelude.{◌≡◌, ℕ, true, false, List, [], ◌∷◌, ◌++◌, codes, decimal, Option, Some, None}
use Rattle.std.specs.Prelude.{All, length, flat_map}
use Rattle.std.specs.Option.{option_and_then, option_map, option_map_or}
use Rattle.ot_base.specs.Address.{family_of}
use Rattle.ot_base.specs.Refusal.{refusal_text}
use Rattle.ot_base.specs.declared.address.Endpoint.{Endpoint}
use Rattle.ot_base.specs.declared.address.Family.{Family}
use Rattle.ot_base.specs.declared.address.Family.TheVariants.{Four, Six}
use Rattle.ot_base.specs.declared.hash.InfoHash.{InfoHash}
use Rattle.ot_base.specs.declared.peer.Counts.{Counts}
use Rattle.ot_base.specs.declared.peer.Row.{Row}
use Rattle.ot_base.specs.declared.refusal.Refusal.{Refusal}
use Rattle.ot_base.specs.declared.refusal.Refusal.TheVariants as refusal
use Rattle.tracker_model.specs.Calls.{subject}
use Rattle.tracker_model.specs.declared.answer.Answer.{Answer}
use Rattle.tracker_model.specs.declared.answer.Answer.TheVariants.{Told, Stats, Rows, Cleaned, Applied, Drained}
use Rattle.tracker_model.specs.declared.answer.Answer.TheVariants.{SwarmFull, BucketFull, NoMemory}
use Rattle.tracker_model.specs.declared.call.Call.{Call}
use Rattle.udp_wire.specs.Packets.{peer_bytes}
use Rattle.udp_wire.specs.Replies.{IsOf32Bits}
use Rattle.bencode_text.specs.Bencode.{string_text}
use Rattle.http_wire.specs.Reply.{reply_of}
use Rattle.http_wire.specs.declared.reply.Code.{Code}
use Rattle.http_wire.specs.declared.reply.Code.TheVariants as code
use Rattle.tracker_core.specs.declared.http_plan.HttpPlan.{HttpPlan}
use Rattle.tracker_core.specs.declared.http_plan.HttpPlan.TheVariants.{NotFound, Refused, Announce, Scrape, Full}
use Rattle.tracker_core.specs.declared.connection_plan.ConnectionPlan.{ConnectionPlan}
use Rattle.tracker_core.specs.declared.connection_plan.ConnectionPlan.TheVariants.{More, Rejected, Planned}

-- a string: its length in decimal, `:`, its bytes
abbrev pub string_of : List ℕ → List ℕ
string_of bytes = string_text (decimal (length bytes)) bytes

-- why a request is refused
unfoldable pub failure_body : Refusal → List ℕ
failure_body why = codes "d14:failure reason" ++ (string_of (refusal_text why) ++ codes "e")

-- the counts of a torrent, three keys with an integer each
unfoldable pub counts_text : Counts → List ℕ
counts_text counts =
    codes "8:completei" ++ (decimal counts.complete
    ++ (codes "e10:downloadedi" ++ (decimal counts.downloaded
    ++ (codes "e10:incompletei" ++ (decimal counts.incomplete ++ codes "e")))))

-- what stands before the peers of a family: beside those of IPv6 an empty string of the others
abbrev pub peers_key : Family → List ℕ
peers_key Four = codes "5:peers"
peers_key Six = codes "5:peers0:6:peers6"

-- peers of one family in one string, each with its address and its port in network order: 6 bytes
-- each for IPv4 (BEP 23), 18 for IPv6 (BEP 7)
unfoldable pub peers_text : Family → List Endpoint → List ℕ
peers_text family peers = peers_key family ++ string_of (flat_map peer_bytes peers)

-- how many bytes a peer of a family has
abbrev pub peer_len_of : Family → ℕ
peer_len_of Four = 6
peer_len_of Six = 18

-- what a peer is told that took part or left: the counts, in how many seconds it is to announce
-- again and in how many it may, and other peers
unfoldable pub told_body : Family → Counts → List Endpoint → List ℕ
told_body family counts peers =
    codes "d" ++ (counts_text counts
    ++ (codes "8:intervali1800e12:min intervali900e" ++ (peers_text family peers ++ codes "e")))

-- the body that answers an announce or a stop; want of memory has none
abbrev pub announce_body : Family → Answer → Option (List ℕ)
announce_body family (Told counts peers) = Some (told_body family counts peers)
announce_body family (SwarmFull count) = Some (failure_body refusal.SwarmFull)
announce_body family (BucketFull count) = Some (failure_body refusal.TrackerFull)
announce_body family NoMemory = None
announce_body family (Stats counts known) = None
announce_body family (Rows rows) = None
announce_body family (Cleaned held) = None
announce_body family Applied = None
announce_body family (Drained notes dropped) = None

-- a torrent in a scrape (BEP 48): its hash, and a dictionary of its counts
unfoldable pub row_text : Row → List ℕ
row_text row =
    codes "20:" ++ (row.hash.0 ++ (codes "d" ++ (counts_text row.counts ++ codes "e")))

-- a row as its types have it: a hash of 20 bytes, counts of 32 bits each
pub record IsRow (row : Row) : Type 0 where
  pub hash : length row.hash.0 ≡ 20
  pub counts : IsOf32Bits row.counts

-- the body of a scrape that found these torrents
unfoldable pub scrape_body : List Row → List ℕ
scrape_body rows = codes "d5:filesd" ++ (flat_map row_text rows ++ codes "ee")

-- what the answer to a scrape of a torrent adds to the body: its row, where the torrent is known
abbrev pub scraped_row : InfoHash → Answer → Option (List Row)
scraped_row hash (Stats counts true) = Some (record { hash = hash; counts = counts } ∷ [])
scraped_row hash (Stats counts false) = Some []
scraped_row hash (Told counts peers) = None
scraped_row hash (SwarmFull count) = None
scraped_row hash (BucketFull count) = None
scraped_row hash NoMemory = None
scraped_row hash (Rows rows) = None
scraped_row hash (Cleaned held) = None
scraped_row hash Applied = None
scraped_row hash (Drained notes dropped) = None

-- the rows of the known torrents, in order, where each answer is one to a scrape
abbrev pub scraped_rows : List InfoHash → List Answer → Option (List Row)
scraped_rows [] [] = Some []
scraped_rows [] (answer ∷ answers) = None
scraped_rows (hash ∷ hashes) [] = None
scraped_rows (hash ∷ hashes) (answer ∷ answers) =
    option_and_then (λ row. option_map (λ rows. row ++ rows) (scraped_rows hashes answers))
    (scraped_row hash answer)

-- the family of the peer that a call reports on
abbrev pub family_asking : Call → Family
family_asking call = option_map_or (λ s. family_of s.1.addr) (subject call) Four

-- of an announce's one answer
abbrev pub one_body : Call → List Answer → Option (List ℕ)
one_body call [] = None
one_body call (answer ∷ []) = announce_body (family_asking call) answer
one_body call (answer ∷ second ∷ others) = None

-- a reply with a body of bencode
abbrev pub answered : List ℕ → Code × List ℕ
answered body = (code.Ok, body)

-- The code and the body of the reply that a plan gives once its calls have these answers. Want of
-- memory has none, and neither has a full scrape here: its body is streamed, bucket by bucket.
abbrev pub http_text : HttpPlan → List Answer → Option (Code × List ℕ)
http_text NotFound answers = Some (code.NotFound, [])
http_text (Refused why) answers = Some (answered (failure_body why))
http_text (Announce call) answers = option_map answered (one_body call answers)
http_text (Scrape hashes) answers =
    option_map (λ rows. answered (scrape_body rows)) (scraped_rows hashes answers)
http_text Full answers = None

-- All bytes of the reply on a connection. Before its head is whole there is none.
abbrev pub connection_text : ConnectionPlan → List Answer → Option (List ℕ)
connection_text More answers = None
connection_text (Rejected status) answers = Some (reply_of status [])
connection_text (Planned plan) answers =
    option_map (λ reply. reply_of reply.0 reply.1) (http_text plan answers)

-- an answer that has a body, with peers of this family
abbrev pub HasBody : Family → Answer → Type 0
HasBody family (Told counts peers) = All (λ peer. family_of peer.addr ≡ family) peers
HasBody family (SwarmFull count) = Unit {0}
HasBody family (BucketFull count) = Unit {0}
HasBody family NoMemory = ⊥
HasBody family (Stats counts known) = ⊥
HasBody family (Rows rows) = ⊥
HasBody family (Cleaned held) = ⊥
HasBody family Applied = ⊥
HasBody family (Drained notes dropped) = ⊥
