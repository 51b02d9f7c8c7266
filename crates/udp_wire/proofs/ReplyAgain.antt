-- Each reply is read again.
use Rattle.std.proofs.Common.{◌≡◌, ◌≤◌, ◌<◌, ℕ, ◌+◌, ◌*◌, ◌^◌, List, ◌++◌, Some, length, take, drop, refl, sym, ap, arith, append_assoc, length-append}
use Rattle.std.specs.Int.{w16, w32, w64, to_be_bytes}
use Rattle.std.specs.List.{All, flat_map}
use Rattle.std.proofs.lemmas.Bool.{le-leb, le-ltb, lt-ltb}
use Rattle.std.proofs.lemmas.Nat.{from_be_bytes-to_be_bytes_2, from_be_bytes-to_be_bytes_4, from_be_bytes-to_be_bytes_8}
use Rattle.std.proofs.Math.Seq.{drop-append_seam, drop-append-add, take-append_seam}
use Rattle.ot_base.specs.Refusal.{refusal_text}
use Rattle.ot_base.specs.declared.address.Addr.{Addr}
use Rattle.ot_base.specs.declared.address.Addr.TheVariants.{V4, V6}
use Rattle.ot_base.specs.declared.address.Endpoint.{Endpoint}
use Rattle.ot_base.specs.declared.address.Family.{Family}
use Rattle.ot_base.specs.declared.address.Family.TheVariants.{Four, Six}
use Rattle.ot_base.specs.declared.peer.Counts.{Counts}
use Rattle.ot_base.specs.declared.refusal.Refusal.{Refusal}
use Rattle.ot_base.specs.declared.refusal.Refusal.TheVariants.{ConnectionId, Action, MissingHash, BadHash, MissingPort, BadPort, Denied, SwarmFull, TrackerFull}
use Rattle.udp_wire.specs.Packets.{peer_bytes, counts_bytes, connect_reply, announce_head, announce_reply, scrape_reply, error_reply}
use Rattle.udp_wire.specs.Places.{number_at, row_at}
use Rattle.udp_wire.specs.Replies.{IsOf, AreOf, IsOf32Bits, most_peers, four_at, six_at, counts_at, peers_of, told_counts, connect_reply_of, announce_reply_of, scrape_reply_of, error_reply_of, reply_of}
use Rattle.udp_wire.specs.declared.reading.Reply.TheVariants.{Connect, Announce, Scrape, Error}
use Rattle.udp_wire.proofs.Again.{IsReadAgain, row_again, length-row, count_after-whole}

pub connect_again : (family : Family) (transaction connection : ℕ) → transaction < 2 ^ 32 → connection < 2 ^ 64
    → reply_of family (connect_reply transaction connection) ≡ Some (Connect transaction connection)
unfolding reply_of connect_reply_of connect_reply
connect_again family transaction connection ht hc =
    let t : number_at w32 4 (connect_reply transaction connection) ≡ transaction = from_be_bytes-to_be_bytes_4 transaction ht in
    let c : number_at w64 8 (connect_reply transaction connection) ≡ connection = from_be_bytes-to_be_bytes_8 connection hc in
    λ i. Some (Connect (t i) (c i))

pub connect_fits : (transaction connection : ℕ) → length (connect_reply transaction connection) ≤ 2048
unfolding connect_reply
connect_fits transaction connection = omega arith

-- the text of a refusal is short
refusal_short : (why : Refusal) → length (refusal_text why) ≤ 200
refusal_short ConnectionId = omega arith
refusal_short Action = omega arith
refusal_short MissingHash = omega arith
refusal_short BadHash = omega arith
refusal_short MissingPort = omega arith
refusal_short BadPort = omega arith
refusal_short Denied = omega arith
refusal_short SwarmFull = omega arith
refusal_short TrackerFull = omega arith

pub error_again : (family : Family) (transaction : ℕ) (why : Refusal) → transaction < 2 ^ 32
    → reply_of family (error_reply transaction why) ≡ Some (Error transaction (refusal_text why))
unfolding reply_of error_reply_of error_reply
error_again family transaction why ht =
    let t : number_at w32 4 (error_reply transaction why) ≡ transaction = from_be_bytes-to_be_bytes_4 transaction ht in
    let long = le-ltb (length (error_reply transaction why)) 8 (omega arith) in
    let short = le-leb (length (error_reply transaction why)) 208 (omega (arith, refusal_short why)) in
    rw (long, short) (λ i. Some (Error (t i) (refusal_text why)))

pub error_fits : (transaction : ℕ) (why : Refusal) → length (error_reply transaction why) ≤ 2048
unfolding error_reply
error_fits transaction why = omega (arith, refusal_short why)

-- the counts of a hash are read again
counts_again : (counts : Counts) → IsOf32Bits counts → IsReadAgain counts_at counts_bytes 12 counts
counts_again counts h = record {
  size_is = refl;
  read = λ front back.
      let all = counts_bytes counts ++ back in
      let s : number_at w32 (length front) (front ++ all) ≡ counts.complete =
      rw (drop-append_seam front all) (from_be_bytes-to_be_bytes_4 counts.complete h.complete) in
      let d : number_at w32 (length front + 4) (front ++ all) ≡ counts.downloaded =
      rw (drop-append-add front all 4) (from_be_bytes-to_be_bytes_4 counts.downloaded h.downloaded) in
      let l : number_at w32 (length front + 8) (front ++ all) ≡ counts.incomplete =
      rw (drop-append-add front all 8) (from_be_bytes-to_be_bytes_4 counts.incomplete h.incomplete) in
      λ i. let x : Counts = record { complete = s i; downloaded = d i; incomplete = l i } in x;
}

-- how many bytes the counts of some hashes take
length-counts : (counts : List Counts) → length (flat_map counts_bytes counts) ≡ 12 * length counts
length-counts counts = length-row counts_bytes 12 counts (λ k d lt. refl)

-- what stands before them
abbrev scrape_head : ℕ → List ℕ
scrape_head transaction = to_be_bytes w32 2 ++ to_be_bytes w32 transaction

pub scrape_again : (family : Family) (transaction : ℕ) (counts : List Counts) → transaction < 2 ^ 32 → All IsOf32Bits counts
    → 1 ≤ length counts → length counts ≤ 74
    → reply_of family (scrape_reply transaction counts) ≡ Some (Scrape transaction counts)
unfolding reply_of scrape_reply_of scrape_reply
scrape_again family transaction counts ht all some most =
    let again : All (IsReadAgain counts_at counts_bytes 12) counts = λ k d lt. counts_again _ (all k d lt) in
    let t : number_at w32 4 (scrape_reply transaction counts) ≡ transaction = from_be_bytes-to_be_bytes_4 transaction ht in
    let rows = length-counts counts in
    let long = le-ltb (length (scrape_reply transaction counts)) 8 (omega arith) in
    let longer = lt-ltb 8 (length (scrape_reply transaction counts)) (omega arith) in
    let whole =
    count_after-whole 8 12 74 (length (scrape_reply transaction counts)) (length counts) (omega arith) (omega arith) (omega arith) most in
    let read : row_at counts_at 8 12 (length counts) (scrape_reply transaction counts) ≡ counts =
    row_again counts_at counts_bytes 12 counts (scrape_head transaction) 8 refl again in
    rw (long, longer, whole) (λ i. Some (Scrape (t i) (read i)))

pub scrape_fits : (transaction : ℕ) (counts : List Counts) → length counts ≤ 74 → length (scrape_reply transaction counts) ≤ 2048
unfolding scrape_reply
scrape_fits transaction counts most = omega (arith, length-counts counts)

-- the front of a list, and what stands after it
take_front : (n : ℕ) (xs ys : List ℕ) → length xs ≡ n → take n (xs ++ ys) ≡ xs
take_front n xs ys e = rw (← e) (take-append_seam xs ys)

drop_front : (n : ℕ) (xs ys : List ℕ) → length xs ≡ n → drop n (xs ++ ys) ≡ ys
drop_front n xs ys e = rw (← e) (drop-append_seam xs ys)

-- an address of n bytes and a port, as they are read again
address_again : (front address back : List ℕ) (port n : ℕ) → length address ≡ n
    → take n (drop (length front) (front ++ ((address ++ to_be_bytes w16 port) ++ back))) ≡ address
address_again front address back port n e =
    rw (drop-append_seam front ((address ++ to_be_bytes w16 port) ++ back), append_assoc) (take_front n address _ e)

port_again : (front address back : List ℕ) (port n : ℕ) → length address ≡ n → port < 2 ^ 16
    → number_at w16 (length front + n) (front ++ ((address ++ to_be_bytes w16 port) ++ back)) ≡ port
port_again front address back port n e h =
    rw (drop-append-add front ((address ++ to_be_bytes w16 port) ++ back) n, append_assoc, drop_front n address (to_be_bytes w16 port ++ back) e)
    (from_be_bytes-to_be_bytes_2 port h)

-- a peer of IPv4 is read again
four_again : (addr : Addr) (port : ℕ) → (let peer : Endpoint = record { addr = addr; port = port } in IsOf Four peer → IsReadAgain four_at peer_bytes 6 peer)
four_again (V4 address) port h = record {
  size_is = omega (arith, length-append address (to_be_bytes w16 port), h.whole_address);
  read = λ front back.
      let a = address_again front address back port 4 h.whole_address in
      let p = port_again front address back port 4 h.whole_address h.port_of_16_bits in
      λ i. let x : Endpoint = record { addr = V4 (a i); port = p i } in x;
}
four_again (V6 address) port h = let no = h.of_family in cc

-- a peer of IPv6 is read again
six_again : (addr : Addr) (port : ℕ) → (let peer : Endpoint = record { addr = addr; port = port } in IsOf Six peer → IsReadAgain six_at peer_bytes 18 peer)
six_again (V4 address) port h = let no = h.of_family in cc
six_again (V6 address) port h = record {
  size_is = omega (arith, length-append address (to_be_bytes w16 port), h.whole_address);
  read = λ front back.
      let a = address_again front address back port 16 h.whole_address in
      let p = port_again front address back port 16 h.whole_address h.port_of_16_bits in
      λ i. let x : Endpoint = record { addr = V6 (a i); port = p i } in x;
}

-- how many bytes a peer of a family takes
abbrev peer_size : Family → ℕ
peer_size Four = 6
peer_size Six = 18

length-peer : (family : Family) (peer : Endpoint) → IsOf family peer → length (peer_bytes peer) ≡ peer_size family
length-peer Four peer h = (four_again peer.addr peer.port h).size_is
length-peer Six peer h = (six_again peer.addr peer.port h).size_is

length-peers : (family : Family) (peers : List Endpoint) → AreOf family peers → length (flat_map peer_bytes peers) ≡ peer_size family * length peers
length-peers family peers all = length-row peer_bytes (peer_size family) peers (λ k d lt. length-peer family _ (all k d lt))

-- the peers of a family are read again
peers_again : (family : Family) (head : List ℕ) (peers : List Endpoint) → length head ≡ 20 → AreOf family peers → length peers ≤ most_peers family
    → peers_of family (head ++ flat_map peer_bytes peers) ≡ Some peers
peers_again Four head peers e all most =
    let again : All (IsReadAgain four_at peer_bytes 6) peers = λ k d lt. four_again _ _ (all k d lt) in
    let rows = length-peers Four peers all in
    let sum = length-append head (flat_map peer_bytes peers) in
    let whole =
    count_after-whole 20 6 200 (length (head ++ flat_map peer_bytes peers)) (length peers) (omega arith) (omega arith) (omega arith) most in
    rw whole (ap Some (row_again four_at peer_bytes 6 peers head 20 (sym e) again))
peers_again Six head peers e all most =
    let again : All (IsReadAgain six_at peer_bytes 18) peers = λ k d lt. six_again _ _ (all k d lt) in
    let rows = length-peers Six peers all in
    let sum = length-append head (flat_map peer_bytes peers) in
    let whole =
    count_after-whole 20 18 64 (length (head ++ flat_map peer_bytes peers)) (length peers) (omega arith) (omega arith) (omega arith) most in
    rw whole (ap Some (row_again six_at peer_bytes 18 peers head 20 (sym e) again))

pub announce_again : (family : Family) (transaction : ℕ) (counts : Counts) (peers : List Endpoint) → transaction < 2 ^ 32 → IsOf32Bits counts
    → AreOf family peers → length peers ≤ most_peers family
    → reply_of family (announce_reply transaction counts peers) ≡ Some (Announce transaction 1800 (record counts { downloaded = 0 }) peers)
unfolding reply_of announce_reply_of announce_reply announce_head
announce_again family transaction counts peers ht h all most =
    let t : number_at w32 4 (announce_reply transaction counts peers) ≡ transaction = from_be_bytes-to_be_bytes_4 transaction ht in
    let l : number_at w32 12 (announce_reply transaction counts peers) ≡ counts.incomplete = from_be_bytes-to_be_bytes_4 counts.incomplete h.incomplete in
    let s : number_at w32 16 (announce_reply transaction counts peers) ≡ counts.complete = from_be_bytes-to_be_bytes_4 counts.complete h.complete in
    let told : told_counts (announce_reply transaction counts peers) ≡ record counts { downloaded = 0 } =
    (λ i. let x : Counts = record { complete = s i; downloaded = 0; incomplete = l i } in x) in
    let long = le-ltb (length (announce_reply transaction counts peers)) 8 (omega arith) in
    let read = peers_again family (announce_head transaction counts) peers refl all most in
    rw (long, read) (λ i. Some (Announce (t i) 1800 (told i) peers))

pub announce_fits : (family : Family) (transaction : ℕ) (counts : Counts) (peers : List Endpoint) → AreOf family peers → length peers ≤ most_peers family
    → length (announce_reply transaction counts peers) ≤ 2048
unfolding announce_reply announce_head
announce_fits Four transaction counts peers all most = omega (arith, length-peers Four peers all)
announce_fits Six transaction counts peers all most = omega (arith, length-peers Six peers all)
