-- What is seen of an outside in memory.
use Rattle.std.specs.Prelude.{ℕ, Bool, List, Some, map}
use Rattle.ot_io.specs.Demand.{is_demanded}
use Rattle.ot_io.specs.Lending.{Lent}
use Rattle.ot_io.specs.MemoryListener.{links_of, listener_faults, listener_idles}
use Rattle.ot_io.specs.MemoryWire.{wire_faults, wire_idles, wire_traffic}
use Rattle.ot_io.specs.Tales.{ListenerTale, listener_tale}
use Rattle.ot_io.specs.Traffic.{WireTale, wire_tale}
use Rattle.ot_io.specs.declared.mem_clock.MemClock.{MemClock}
use Rattle.ot_io.specs.declared.mem_listener.MemListener.{MemListener}
use Rattle.ot_io.specs.declared.mem_outside.MemOutside.{MemOutside}
use Rattle.ot_io.specs.declared.mem_wire.MemWire.{MemWire}

-- all that is told of a wire in memory
abbrev pub tale_of_wire : MemWire → WireTale
tale_of_wire wire = wire_tale (Some (wire_traffic wire)) (wire_faults wire) (wire_idles wire)

-- all that is told of a listener in memory
abbrev pub tale_of_listener : MemListener → ListenerTale
tale_of_listener listener =
    listener_tale (Some (links_of listener)) (listener_faults listener) (listener_idles listener)

-- how many wires were made, and which came back
abbrev pub lent_wires : MemOutside → Lent WireTale
lent_wires outside =
    record { made = outside.wires.made; back = map tale_of_wire outside.wires.back.items }

-- how many listeners were made, and which came back
abbrev pub lent_listeners : MemOutside → Lent ListenerTale
lent_listeners outside =
    record { made = outside.listeners.made; back = map tale_of_listener outside.listeners.back.items }

-- the wires and the listeners that are still to be handed out
abbrev pub wires_left : MemOutside → List MemWire
wires_left outside = outside.wires.unused.items

abbrev pub listeners_left : MemOutside → List MemListener
listeners_left outside = outside.listeners.unused.items

-- what each of its clocks is
abbrev pub clock_of : MemOutside → MemClock
clock_of outside = outside.clock

-- the numbers of the makers' calls that are to fail
abbrev pub failing_makers : MemOutside → List ℕ
failing_makers outside = outside.failing.items

-- how many calls of a maker were made: the number of the next one
abbrev pub makers_called : MemOutside → ℕ
makers_called outside = outside.faults.calls

-- the next call of a maker is to fail
abbrev pub is_maker_failing : MemOutside → Bool
is_maker_failing outside = is_demanded outside.failing.items outside.faults.calls

-- how many calls have failed
abbrev pub outside_faults : MemOutside → ℕ
outside_faults outside = outside.faults.count
