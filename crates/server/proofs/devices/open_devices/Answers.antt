-- What was made came back, where the rest couldn't be made.
use Rattle.std.proofs.Common.{refl}
use Rattle.server.proofs.DeviceLemmas.{shut_after}
use Rattle.server.proofs.devices.open_devices.Goals as goal

pub returns-in-Err-clause-shut : goal.returns-in-Err-clause-shut
returns-in-Err-clause-shut g c =
    let made = c.in-Err.ensures in
    let back = c.return_devices.ensures in (
      shut_after _ _ _ _ _ _ back.wires.back made.wires refl back.wires.lends refl back.wires.many,
      shut_after _ _ _ _ _ _ back.listeners.back made.listeners refl back.listeners.lends refl back.listeners.many,
    )
