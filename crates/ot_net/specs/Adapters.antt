-- What is seen of the host's wires, connections, listeners and clocks: their counts.
use Rattle.std.specs.Prelude.{ℕ, List}
use Rattle.ot_base.specs.declared.address.Endpoint.{Endpoint}
use Rattle.ot_net.specs.declared.clock.HostClock.{HostClock}
use Rattle.ot_net.specs.declared.conn.NetConn.{NetConn}
use Rattle.ot_net.specs.declared.listener.NetListener.{NetListener}
use Rattle.ot_net.specs.declared.outside.HostOutside.{HostOutside}
use Rattle.ot_net.specs.declared.waiting.Room.{Room}
use Rattle.ot_net.specs.declared.waiting.Waiting.{Waiting}
use Rattle.ot_net.specs.declared.wire.NetWire.{NetWire}

abbrev pub wire_faults : {R : Type 0} → NetWire R → ℕ
wire_faults wire = wire.faults

abbrev pub wire_idles : {R : Type 0} → NetWire R → ℕ
wire_idles wire = wire.idles

-- who is at the other end of a connection
abbrev pub client_of : NetConn → Endpoint
client_of conn = conn.client

abbrev pub conn_faults : NetConn → ℕ
conn_faults conn = conn.faults

abbrev pub conn_ends : NetConn → ℕ
conn_ends conn = conn.ends

abbrev pub listener_faults : {R : Type 0} → NetListener R → ℕ
listener_faults listener = listener.faults

abbrev pub listener_idles : {R : Type 0} → NetListener R → ℕ
listener_idles listener = listener.idles

-- the last time that a clock told
abbrev pub clock_told : {R : Type 0} → HostClock R → ℕ
clock_told clock = clock.told

abbrev pub clock_faults : {R : Type 0} → HostClock R → ℕ
clock_faults clock = clock.faults

abbrev pub outside_faults : {R : Type 0} → HostOutside R → ℕ
outside_faults outside = outside.faults

-- the connections that wait in a room, the one that waits longest first
abbrev pub waiting_in : Room → List Waiting
waiting_in room = room.waiting.items
