-- The wires of workers came back, then the listeners, then the other wires.
use Rattle.std.proofs.Common.{◌∙◌, map, sym}
use Rattle.std.proofs.lemmas.List.{length-map}
use Rattle.ot_io.specs.Tales.{ListenerTale, listener_tale}
use Rattle.ot_io.specs.Traffic.{WireTale, wire_tale}
use Rattle.server.proofs.DeviceLemmas.{took, took_both}
use Rattle.server.proofs.devices.return_devices.Goals as goal

pub returns-clause-wires : goal.returns-clause-wires
returns-clause-wires g c =
    let tale : g.row.W.Denot → WireTale = λ wire. wire_tale (g.W.Wire.traffic wire) (g.W.Wire.faults wire) (g.W.Wire.idles wire) in
    let wires = c.args.devices.wires in
    let sync_wires = c.args.devices.sync_wires in
    took_both _ _ _ _ _ _ (map tale wires.items) (map tale sync_wires.items) c.return_wires.ensures.back c.return_listeners.ensures.wires c.return_wires-2.ensures.back
    (length-map wires.items tale ∙ sym wires.ok.0) (length-map sync_wires.items tale ∙ sym sync_wires.ok.0)

pub returns-clause-listeners : goal.returns-clause-listeners
returns-clause-listeners g c =
    let tale : g.row.L.Denot → ListenerTale = λ listener. listener_tale (g.L.Listener.links listener) (g.L.Listener.faults listener) (g.L.Listener.idles listener) in
    let listeners = c.args.devices.listeners in
    took _ _ _ _ _ (map tale listeners.items) c.return_wires.ensures.listeners c.return_listeners.ensures.back c.return_wires-2.ensures.listeners (length-map listeners.items tale ∙ sym listeners.ok.0)
