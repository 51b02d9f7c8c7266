-- What is seen of a wire in memory.
use Rattle.std.specs.Prelude.{ℕ, Bool, map, drop, take}
use Rattle.ot_io.specs.Demand.{is_demanded}
use Rattle.ot_io.specs.Traffic.{Datagram, Traffic, datagram}
use Rattle.ot_io.specs.declared.mem_wire.Incoming.{Incoming}
use Rattle.ot_io.specs.declared.mem_wire.Outgoing.{Outgoing}
use Rattle.ot_io.specs.declared.mem_wire.WireScript.{WireScript}
use Rattle.ot_io.specs.declared.mem_wire.MemWire.{MemWire}

abbrev pub of_incoming : Incoming → Datagram
of_incoming incoming = datagram incoming.from incoming.bytes.items

abbrev pub of_outgoing : Outgoing → Datagram
of_outgoing outgoing = datagram outgoing.to outgoing.bytes.items

-- what it does, which no call changes
abbrev pub wire_script : MemWire → WireScript
wire_script wire = wire.script

-- what waits, was received and was sent
abbrev pub wire_traffic : MemWire → Traffic
wire_traffic wire = record {
  waiting = map of_incoming (drop wire.taken wire.script.incoming.items);
  received = map of_incoming (take wire.taken wire.script.incoming.items);
  sent = map of_outgoing wire.sent.items;
}

-- how many calls were made: the number of the next one
abbrev pub wire_calls : MemWire → ℕ
wire_calls wire = wire.faults.calls

-- the next call is to fail
abbrev pub is_wire_failing : MemWire → Bool
is_wire_failing wire = is_demanded wire.script.failing.items wire.faults.calls

-- how many calls have failed
abbrev pub wire_faults : MemWire → ℕ
wire_faults wire = wire.faults.count

-- how many receives have answered that none waits
abbrev pub wire_idles : MemWire → ℕ
wire_idles wire = wire.idles
