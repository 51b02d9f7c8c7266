use Rattle.std.proofs.Common.{◌≡◌, length}
use Rattle.udp_wire.specs.Places.{row_at}
use Rattle.udp_wire.specs.Replies.{four_at}
use Rattle.udp_wire.proofs.reading.read_peers_of_four.Given as goal

abbrev pub invariant-loop-i : goal.invariant-loop-i
invariant-loop-i l = record { read : l.peers ≡ row_at four_at 20 6 l.i l.bytes; so_many : length l.peers ≡ l.i }
