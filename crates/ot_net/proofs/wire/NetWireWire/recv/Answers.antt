-- What was received is taken to be all of the datagram, or its front.
use Rattle.std.proofs.Common.{◌≡◌, ◌≤◌, length, take, sym, arith, rules}
use Rattle.std.proofs.lemmas.List.{take_all, length-take}
use Rattle.ot_net.proofs.wire.NetWireWire.recv.Goals as goal

pub returns-in-Ok-clause-received : goal.returns-in-Ok-clause-received
returns-in-Ok-clause-received g c =
    let buf = c.recv_from.new.buf in
    let within : c.in-Ok.len ≤ 2048 = search rules in
    let long : length buf ≡ 2048 = search rules in (
      take c.in-Ok.len buf,
      tt,
      sym (take_all 2048 (take c.in-Ok.len buf) (omega (arith, within, length-take c.in-Ok.len buf))),
      omega (arith, within, long, length-take c.in-Ok.len buf),
    )
