use Rattle.std.proofs.Common.{◌≡◌, ◌+◌, ◌*◌, ◌≤◌, ◌++◌, ◌⊎◌, All, length, take}
use Rattle.std.specs.List.{flat_map}
use Rattle.ot_base.specs.Address.{family_of}
use Rattle.ot_base.specs.declared.address.Family.TheVariants.{Four, Six}
use Rattle.udp_wire.specs.Packets.{peer_bytes, announce_head}
use Rattle.udp_wire.proofs.reply.write_announce.Given as goal

abbrev pub invariant-loop-peer : goal.invariant-loop-peer
invariant-loop-peer l = record {
  text : take l.place l.out ≡ announce_head l.transaction l.fn.counts ++ flat_map peer_bytes (take l.peer-index l.peer-items);
  -- 6 bytes a peer of IPv4, 18 one of IPv6
  place : (All (λ peer. family_of peer.addr ≡ Four) l.peer-items × (l.place ≡ 20 + 6 * l.peer-index))
      ⊎ ((length l.peer-items ≤ 64) × All (λ peer. family_of peer.addr ≡ Six) l.peer-items × (l.place ≡ 20 + 18 * l.peer-index));
}
