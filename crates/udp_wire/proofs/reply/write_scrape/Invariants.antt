use Rattle.std.proofs.Common.{◌≡◌, ◌+◌, ◌*◌, ◌++◌, take}
use Rattle.std.specs.Int.{w32, to_be_bytes}
use Rattle.std.specs.List.{flat_map}
use Rattle.udp_wire.specs.Packets.{counts_bytes}
use Rattle.udp_wire.proofs.reply.write_scrape.Given as goal

abbrev pub invariant-loop-group : goal.invariant-loop-group
invariant-loop-group l = record {
  text : take l.place l.out
      ≡ (to_be_bytes w32 2 ++ to_be_bytes w32 l.transaction) ++ flat_map counts_bytes (take l.group-index l.counts);
  place : l.place ≡ 8 + 12 * l.group-index;
}
