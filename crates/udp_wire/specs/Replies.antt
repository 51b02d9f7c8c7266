-- What the replies of BEP 15 say, read field by field. Places count bytes from 0, and numbers are
-- in network order.
use Rattle.std.specs.Prelude.{ℕ, List, ◌+◌, ◌^◌, ◌≡◌, ◌<◌, ◌==◌, All, Option, Some, None, length, take, drop, nat_le, nat_lt, if◌then◌else◌}
use Rattle.std.specs.Int.{w16, w32, w64}
use Rattle.std.specs.Option.{option_map}
use Rattle.ot_base.specs.Address.{family_of}
use Rattle.ot_base.specs.declared.address.Addr.TheVariants.{V4, V6}
use Rattle.ot_base.specs.declared.address.Endpoint.{Endpoint}
use Rattle.ot_base.specs.declared.address.Family.{Family}
use Rattle.ot_base.specs.declared.address.Family.TheVariants.{Four, Six}
use Rattle.ot_base.specs.declared.peer.Counts.{Counts}
use Rattle.udp_wire.specs.Packets.{address_bytes}
use Rattle.udp_wire.specs.Places.{number_at, row_after}
use Rattle.udp_wire.specs.declared.reading.Reply.{Reply}
use Rattle.udp_wire.specs.declared.reading.Reply.TheVariants.{Connect, Announce, Scrape, Error}

-- the fields that every reply begins with: action, transaction id
abbrev pub reply_action : List ℕ → ℕ
reply_action bytes = number_at w32 0 bytes

abbrev pub reply_transaction : List ℕ → ℕ
reply_transaction bytes = number_at w32 4 bytes

-- connect: action 0 (0: 4), transaction id (4: 4), connection id (8: 8), and no more
unfoldable pub connect_reply_of : List ℕ → Option Reply
connect_reply_of bytes =
    if length bytes == 16 then Some (Connect (reply_transaction bytes) (number_at w64 8 bytes))
    else None

-- a peer of IPv4: its address (0: 4), its port (4: 2)
abbrev pub four_at : ℕ → List ℕ → Endpoint
four_at place bytes =
    record { addr = V4 (take 4 (drop place bytes)); port = number_at w16 (place + 4) bytes }

-- a peer of IPv6: its address (0: 16), its port (16: 2)
abbrev pub six_at : ℕ → List ℕ → Endpoint
six_at place bytes =
    record { addr = V6 (take 16 (drop place bytes)); port = number_at w16 (place + 16) bytes }

-- how many peers of a family a reply has at most
abbrev pub most_peers : Family → ℕ
most_peers Four = 200
most_peers Six = 64

-- the peers of a family from byte 20 to the end, of 6 or of 18 bytes
abbrev pub peers_of : Family → List ℕ → Option (List Endpoint)
peers_of Four bytes = row_after four_at 20 6 (most_peers Four) bytes
peers_of Six bytes = row_after six_at 20 18 (most_peers Six) bytes

-- the counts of an announced torrent: leechers (12: 4), seeders (16: 4). Its downloads aren't told.
abbrev pub told_counts : List ℕ → Counts
told_counts bytes = record {
  complete = number_at w32 16 bytes;
  downloaded = 0;
  incomplete = number_at w32 12 bytes;
}

-- announce: action 1 (0: 4), transaction id (4: 4), interval in seconds (8: 4), leechers (12: 4),
-- seeders (16: 4), then the peers
unfoldable pub announce_reply_of : Family → List ℕ → Option Reply
announce_reply_of family bytes =
    option_map
    (λ peers. Announce (reply_transaction bytes) (number_at w32 8 bytes) (told_counts bytes) peers)
    (peers_of family bytes)

-- the counts of one hash: seeders (0: 4), completed (4: 4), leechers (8: 4)
abbrev pub counts_at : ℕ → List ℕ → Counts
counts_at place bytes = record {
  complete = number_at w32 place bytes;
  downloaded = number_at w32 (place + 4) bytes;
  incomplete = number_at w32 (place + 8) bytes;
}

-- the counts from byte 8 to the end, at most 74 of 12 bytes
abbrev pub count_list_of : List ℕ → Option (List Counts)
count_list_of bytes = row_after counts_at 8 12 74 bytes

-- scrape: action 2 (0: 4), transaction id (4: 4), then the counts of one hash at least
unfoldable pub scrape_reply_of : List ℕ → Option Reply
scrape_reply_of bytes =
    if nat_lt 8 (length bytes)
    then option_map (λ counts. Scrape (reply_transaction bytes) counts) (count_list_of bytes)
    else None

-- error: action 3 (0: 4), transaction id (4: 4), then a text of at most 200 bytes
unfoldable pub error_reply_of : List ℕ → Option Reply
error_reply_of bytes =
    if nat_le (length bytes) 208 then Some (Error (reply_transaction bytes) (drop 8 bytes))
    else None

-- what a datagram replies to a client of a family, by its length and its action
unfoldable pub reply_of : Family → List ℕ → Option Reply
reply_of family bytes =
    if nat_lt (length bytes) 8 then None
    else if reply_action bytes == 0 then connect_reply_of bytes
    else if reply_action bytes == 1 then announce_reply_of family bytes
    else if reply_action bytes == 2 then scrape_reply_of bytes
    else if reply_action bytes == 3 then error_reply_of bytes
    else None

-- how many bytes an address of a family has
abbrev pub address_len : Family → ℕ
address_len Four = 4
address_len Six = 16

-- an endpoint of a family, as a program holds it
pub record IsOf (family : Family) (peer : Endpoint) : Type 0 where
  pub of_family : family_of peer.addr ≡ family
  pub whole_address : length (address_bytes peer.addr) ≡ address_len family
  pub port_of_16_bits : peer.port < 2 ^ 16

abbrev pub AreOf : Family → List Endpoint → Type 0
AreOf family peers = All (IsOf family) peers

-- counts of 32 bits each
pub record IsOf32Bits (counts : Counts) : Type 0 where
  pub complete : counts.complete < 2 ^ 32
  pub downloaded : counts.downloaded < 2 ^ 32
  pub incomplete : counts.incomplete < 2 ^ 32
