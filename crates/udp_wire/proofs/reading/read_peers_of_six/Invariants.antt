use Rattle.std.proofs.Common.{◌≡◌, length}
use Rattle.udp_wire.specs.Places.{row_at}
use Rattle.udp_wire.specs.Replies.{six_at}
use Rattle.udp_wire.proofs.reading.read_peers_of_six.Given as goal

abbrev pub invariant-loop-i : goal.invariant-loop-i
invariant-loop-i l = record { read : l.peers ≡ row_at six_at 20 18 l.i l.bytes; so_many : length l.peers ≡ l.i }
