-- Wires and listeners in memory of which nothing was asked yet.
use Rattle.std.specs.Prelude.{◌≡◌, length}
use Rattle.ot_io.specs.MemoryListener.{links_of, listener_faults, listener_idles}
use Rattle.ot_io.specs.MemoryWire.{wire_faults, wire_idles, wire_traffic}
use Rattle.ot_io.specs.declared.mem_listener.MemListener.{MemListener}
use Rattle.ot_io.specs.declared.mem_wire.MemWire.{MemWire}

-- nothing went over a wire, and nothing is counted
abbrev pub IsFreshWire : MemWire → Type 0
IsFreshWire wire =
    (length (wire_traffic wire).received ≡ 0)
    × (length (wire_traffic wire).sent ≡ 0)
    × (wire_faults wire ≡ 0)
    × (wire_idles wire ≡ 0)

-- nothing was accepted and nothing taken back, and nothing is counted
abbrev pub IsFreshListener : MemListener → Type 0
IsFreshListener listener =
    (length (links_of listener).accepted ≡ 0)
    × (length (links_of listener).finished ≡ 0)
    × (listener_faults listener ≡ 0)
    × (listener_idles listener ≡ 0)
