-- The packets of BEP 15, field by field. Places count bytes from 0, and numbers are in network
-- order.
use Rattle.std.specs.Prelude.{ℕ, List, ◌++◌, ◌-◌, ◌/◌, ◌≡◌, ◌≤◌, ◌==◌, ◌⊎◌, All, min, length, nat_lt, if◌then◌else◌}
use Rattle.std.specs.Int.{w16, w32, w64, cast_signed, to_be_bytes}
use Rattle.std.specs.List.{flat_map}
use Rattle.ot_base.specs.Address.{family_of}
use Rattle.ot_base.specs.Refusal.{refusal_text}
use Rattle.ot_base.specs.declared.address.Addr.{Addr}
use Rattle.ot_base.specs.declared.address.Addr.TheVariants.{V4, V6}
use Rattle.ot_base.specs.declared.address.Endpoint.{Endpoint}
use Rattle.ot_base.specs.declared.address.Family.TheVariants.{Four, Six}
use Rattle.ot_base.specs.declared.peer.Counts.{Counts}
use Rattle.ot_base.specs.declared.peer.Event.{Event}
use Rattle.ot_base.specs.declared.peer.Event.TheVariants as event
use Rattle.ot_base.specs.declared.refusal.Refusal.{Refusal}
use Rattle.udp_wire.specs.Hashes.{hash_at, hashes_of}
use Rattle.udp_wire.specs.Places.{number_at}
use Rattle.udp_wire.specs.declared.request.Quiet.TheVariants as quiet
use Rattle.udp_wire.specs.declared.request.UdpAnnounce.{UdpAnnounce}
use Rattle.udp_wire.specs.declared.request.Request.{Request}
use Rattle.udp_wire.specs.declared.request.Request.TheVariants.{Connect, Announce, Scrape, Unknown, Silent}

-- the event that a number means
abbrev pub event_of : ℕ → Event
event_of n =
    if n == 1 then event.Completed
    else if n == 2 then event.Started
    else if n == 3 then event.Stopped
    else event.Nothing

-- the fields that every request begins with: connection id or protocol id, action, transaction id
abbrev pub connection_of : List ℕ → ℕ
connection_of bytes = number_at w64 0 bytes

abbrev pub action_of : List ℕ → ℕ
action_of bytes = number_at w32 8 bytes

abbrev pub transaction_of : List ℕ → ℕ
transaction_of bytes = number_at w32 12 bytes

-- connect: protocol id (0: 8), action 0 (8: 4), transaction id (12: 4)
unfoldable pub connect_of : List ℕ → Request
connect_of bytes =
    if connection_of bytes == 0x41727101980 then Connect (transaction_of bytes)
    else Silent quiet.Protocol

-- announce: connection id (0: 8), action 1 (8: 4), transaction id (12: 4), info hash (16: 20), peer
-- id (36: 20), downloaded (56: 8), left (64: 8), uploaded (72: 8), event (80: 4), IP address (84:
-- 4), key (88: 4), num_want (92: 4, signed), port (96: 2)
unfoldable pub fields_of : List ℕ → UdpAnnounce
fields_of bytes = record {
  connection = connection_of bytes;
  transaction = transaction_of bytes;
  hash = hash_at 16 bytes;
  left = number_at w64 64 bytes;
  event = event_of (number_at w32 80 bytes);
  want = cast_signed w32 (number_at w32 92 bytes);
  port = number_at w16 96 bytes;
}

unfoldable pub announce_of : List ℕ → Request
announce_of bytes =
    if nat_lt (length bytes) 98 then Silent quiet.Announce
    else Announce (fields_of bytes)

-- scrape: connection id (0: 8), action 2 (8: 4), transaction id (12: 4), then 20 bytes a hash. The
-- first 74 whole hashes count.
unfoldable pub scrape_of : List ℕ → Request
scrape_of bytes =
    if nat_lt (length bytes) 36 then Silent quiet.Scrape
    else Scrape (connection_of bytes) (transaction_of bytes)
    (hashes_of (min ((length bytes - 16) / 20) 74) bytes)

-- what a datagram asks, by its length and its action
unfoldable pub request_of : List ℕ → Request
request_of bytes =
    if nat_lt (length bytes) 16 then Silent quiet.Short
    else if action_of bytes == 0 then connect_of bytes
    else if action_of bytes == 1 then announce_of bytes
    else if action_of bytes == 2 then scrape_of bytes
    else Unknown (transaction_of bytes) (action_of bytes)

abbrev pub address_bytes : Addr → List ℕ
address_bytes (V4 bytes) = bytes
address_bytes (V6 bytes) = bytes

-- where a peer listens: its address (4 or 16 bytes) and its port (2)
abbrev pub peer_bytes : Endpoint → List ℕ
peer_bytes peer = address_bytes peer.addr ++ to_be_bytes w16 peer.port

-- how many bytes that takes
abbrev pub peer_len : Addr → ℕ
peer_len (V4 bytes) = 6
peer_len (V6 bytes) = 18

-- peers that fit into a reply: all of one family, and at most 64 where that is IPv6
abbrev pub AreTellable : List Endpoint → Type 0
AreTellable peers =
    All (λ peer. family_of peer.addr ≡ Four) peers
    ⊎ ((length peers ≤ 64) × All (λ peer. family_of peer.addr ≡ Six) peers)

-- action 0 (4), transaction id (4), connection id (8)
unfoldable pub connect_reply : ℕ → ℕ → List ℕ
connect_reply transaction connection =
    to_be_bytes w32 0 ++ to_be_bytes w32 transaction ++ to_be_bytes w64 connection

-- action 1 (4), transaction id (4), interval 1800 (4), leechers (4), seeders (4)
unfoldable pub announce_head : ℕ → Counts → List ℕ
announce_head transaction counts =
    to_be_bytes w32 1 ++ to_be_bytes w32 transaction ++ to_be_bytes w32 1800
    ++ to_be_bytes w32 counts.incomplete ++ to_be_bytes w32 counts.complete

-- these fields, then the peers
unfoldable pub announce_reply : ℕ → Counts → List Endpoint → List ℕ
announce_reply transaction counts peers =
    announce_head transaction counts ++ flat_map peer_bytes peers

-- the counts of one hash: seeders (4), completed (4), leechers (4)
abbrev pub counts_bytes : Counts → List ℕ
counts_bytes counts =
    to_be_bytes w32 counts.complete ++ to_be_bytes w32 counts.downloaded
    ++ to_be_bytes w32 counts.incomplete

-- action 2 (4), transaction id (4), then the counts of each hash
unfoldable pub scrape_reply : ℕ → List Counts → List ℕ
scrape_reply transaction counts =
    to_be_bytes w32 2 ++ to_be_bytes w32 transaction ++ flat_map counts_bytes counts

-- action 3 (4), transaction id (4), the text to the end
unfoldable pub error_reply : ℕ → Refusal → List ℕ
error_reply transaction why = to_be_bytes w32 3 ++ to_be_bytes w32 transaction ++ refusal_text why
