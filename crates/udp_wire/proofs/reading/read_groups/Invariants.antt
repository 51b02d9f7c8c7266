use Rattle.std.proofs.Common.{◌≡◌, length}
use Rattle.udp_wire.specs.Places.{row_at}
use Rattle.udp_wire.specs.Replies.{counts_at}
use Rattle.udp_wire.proofs.reading.read_groups.Given as goal

abbrev pub invariant-loop-i : goal.invariant-loop-i
invariant-loop-i l = record { read : l.list ≡ row_at counts_at 8 12 l.i l.bytes; so_many : length l.list ≡ l.i }
