use Rattle.std.proofs.Common.{◌≡◌, ◌*◌, ◌∷◌, ◌++◌, length, take}
use Rattle.std.specs.Prelude.{decimal, flat_map}
use Rattle.udp_wire.specs.Packets.{peer_bytes}
use Rattle.tracker_core.specs.HttpText.{peer_len_of, peers_key}
use Rattle.tracker_core.proofs.http_text.append_peers.Given as goal

abbrev pub invariant-peers : goal.invariant-peers
invariant-peers l =
    let told = flat_map peer_bytes (take l.peer-index l.peers) in record {
      text : l.body.items ≡ l.fn.body.items ++ (peers_key l.fn.family
          ++ (decimal (peer_len_of l.fn.family * length l.peers) ++ 58 ∷ told));
      long : length told ≡ peer_len_of l.fn.family * l.peer-index;
    }
