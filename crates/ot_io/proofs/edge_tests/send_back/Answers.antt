-- What was sent is the front of what was received, and both moved over the wire.
use Rattle.std.proofs.Common.{◌≡◌, refl, take}
use Rattle.ot_io.proofs.Runs.{Moves-trans}
use Rattle.ot_io.specs.Traffic.{datagram}
use Rattle.ot_io.specs.declared.wire.Sent.TheVariants.{Done}
use Rattle.ot_io.proofs.edge_tests.send_back.Goals as goal

pub returns-in-Got : goal.returns-in-Got
returns-in-Got g c = λ done.
    let was = c.in-Got.ensures.received in
    let sent : c.send.result ≡ Done = cc in
    let moved = rw sent at c.send.ensures.sent in (
      datagram c.in-Got.from was.0,
      datagram c.in-Got.from (take c.in-Got.len c.recv.new.buf),
      refl,
      was.2,
      Moves-trans _ _ _ _ _ _ _ was.1 moved,
    )
